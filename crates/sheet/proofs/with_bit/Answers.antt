-- `sheet::with_bit` meets its contract. Assumes nothing.
use native.Mathlib.Omega.{arith}
use borrow.Author.Tests.{eq-eqb, ne_eqb}
use Rattle.sheet.specs.Tests.{with_bit}
use Rattle.sheet.proofs.Masks.{shl_is, pow_small}
use Rattle.sheet.proofs.with_bit.Goals as goal

pub nonzero_div-m : goal.nonzero_div-m
nonzero_div-m c =
    rw (shl_is c.args.label c.requires.label_bound) (omega (arith, pow_small c.args.label c.requires.label_bound))

pub overflow_add-result : goal.overflow_add-result
overflow_add-result c =
    omega (arith, shl_is c.args.label c.requires.label_bound, pow_small c.args.label c.requires.label_bound)

pub returns-then-m-p-eq0 : goal.returns-then-m-p-eq0
unfolding with_bit
returns-then-m-p-eq0 c =
    let e = shl_is c.args.label c.requires.label_bound in
    let z = rw e at c.if-m-p-eq0.true in
    rw e (rw (eq-eqb _ 0 z))

pub returns-else-m-p-eq0 : goal.returns-else-m-p-eq0
unfolding with_bit
returns-else-m-p-eq0 c =
    let e = shl_is c.args.label c.requires.label_bound in
    let z = rw e at c.if-m-p-eq0.false in
    rw (ne_eqb _ 0 z)

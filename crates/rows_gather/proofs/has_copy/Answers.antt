-- `rows_gather::has_copy` meets its contract. Assumes nothing.
use native.Mathlib.Omega.{arith}
use Prim.Native.Nat.{◌≤◌}
use Rattle.sheet.proofs.Masks.{shl_is, pow_small}
use Rattle.rows_gather.specs.Steps.{copied_by}
use Rattle.rows_gather.proofs.has_copy.Goals as goal

pub nonzero_div-result : goal.nonzero_div-result
nonzero_div-result c =
    let h : c.args.l ≤ 7 = omega (arith, c.requires) in rw (shl_is c.args.l h) (omega (arith, pow_small c.args.l h))

pub returns : goal.returns
unfolding copied_by
returns c =
    let h : c.args.l ≤ 7 = omega (arith, c.requires) in rw (c.ones-several.ensures, shl_is c.args.l h)

use native.Mathlib.Omega.{arith}
use Rattle.rows_copies.proofs.Put.{copies-start, copies-turn, copies-fail, copies-end}
use Rattle.rows_copies.proofs.put_copies.Goals as goal

pub loop-k-init : goal.loop-k-init
loop-k-init c = copies-start _ _ _ _ _ _ _ _ c.requires.w_in_bounds c.requires.front

pub put_copy-requires : goal.put_copy-requires
put_copy-requires c =
    record { len_value = c.length-len.ensures; gathered = c.requires.gathered; k_bound = c.loop-k-test.true; w_in_bounds = omega (arith, c.requires.w_in_bounds, c.loop-k.invariant.len) }

pub loop-k-preserved : goal.loop-k-preserved
loop-k-preserved c =
    copies-turn _ _ _ _ _ _ _ _ _ c.loop-k.invariant c.loop-k-test.true c.put_copy.ensures.value c.if-not-put_copy.false c.put_copy.ensures.out_after

pub returns-then-not-put_copy : goal.returns-then-not-put_copy
returns-then-not-put_copy c =
    let the_pair = copies-fail _ _ _ _ _ _ _ _ _ c.loop-k.invariant c.loop-k-test.true c.put_copy.ensures.value c.if-not-put_copy.true in record { value = the_pair.0; front_2 = the_pair.1 }

pub returns : goal.returns
returns c =
    let the_pair = copies-end _ _ _ _ _ _ _ c.loop-k.invariant (omega arith) in record { value = the_pair.0; front_2 = the_pair.1 }

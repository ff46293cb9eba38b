-- `coarsen_merge::corners_of` meets its contract. Assumes nothing.
use native.Mathlib.Omega.{arith}
use Rattle.coarsen_merge.proofs.Start.{corners-around, spanned}
use Rattle.coarsen_merge.proofs.corners_of.Goals as goal

pub overflow_add-starts : goal.overflow_add-starts
overflow_add-starts c = omega arith

pub at-requires : goal.at-requires
at-requires c = let A = corners-around _ c.requires.start_holds c.requires.v_lt_np in A.s<

pub overflow_add-from : goal.overflow_add-from
overflow_add-from c =
    let A = corners-around _ c.requires.start_holds c.requires.v_lt_np in omega (arith, A.s≤, A.e≤)

pub overflow_add-starts-2 : goal.overflow_add-starts-2
overflow_add-starts-2 c = omega arith

pub overflow_add-starts-3 : goal.overflow_add-starts-3
overflow_add-starts-3 c = omega arith

pub at-requires-2 : goal.at-requires-2
at-requires-2 c = let A = corners-around _ c.requires.start_holds c.requires.v_lt_np in A.e<

pub overflow_add-to : goal.overflow_add-to
overflow_add-to c = let A = corners-around _ c.requires.start_holds c.requires.v_lt_np in omega (arith, A.e≤)

pub returns : goal.returns
returns c = spanned _ _ _ c.requires.start_holds c.requires.v_lt_np c.at.ensures c.at-2.ensures

use native.Mathlib.Omega.{arith}
use Rattle.extract_points.proofs.Counts.{member_is}
use Rattle.extract_points.proofs.Means.{summing_start, summing-turn, summing-end}
use Rattle.extract_points.proofs.group_mean.Goals as goal

pub loop-e-init : goal.loop-e-init
loop-e-init c = summing_start _ _ _ c.origin.ensures

pub add_member-s-requires : goal.add_member-s-requires
add_member-s-requires c =
    record { cell_at = c.requires.cell_at; cell_paths = c.requires.cell_paths; e_bound = c.loop-e-test.true; kind_value = c.requires.known.kinds; count_bound = omega arith }

pub loop-e-preserved : goal.loop-e-preserved
loop-e-preserved c =
    summing-turn c.loop-e.invariant (member_is _ _ c.requires.known c.loop-e-test.true) c.add_member-s.ensures

pub returns : goal.returns
returns c = summing-end c.loop-e.invariant (omega arith) c.float.ensures c.mul.ensures

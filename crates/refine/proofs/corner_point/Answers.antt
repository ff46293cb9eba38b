-- `refine::corner_point` meets its contract. Assumes nothing.
use native.Mathlib.Omega.{arith}
use Rattle.refine.proofs.Loops.{held-corner}
use Rattle.refine.proofs.corner_point.Goals as goal

pub corner_at-requires : goal.corner_at-requires
corner_at-requires c = omega (arith, c.requires.positioned.cornered.quads)

pub point_at-requires : goal.point_at-requires
point_at-requires c =
    omega (arith, held-corner _ _ c.requires.positioned c.requires.q_lt_nq c.requires.j_bound, c.corner_at.ensures)

pub returns : goal.returns
returns c = cc

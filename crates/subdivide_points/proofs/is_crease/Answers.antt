-- `subdivide_points::is_crease` meets its contract. Assumes nothing.
use native.Mathlib.Omega.{arith}
use Rattle.subdivide_points.proofs.Sums.{below_at}
use Rattle.subdivide_points.proofs.CreaseLoop.{crease-is}
use Rattle.subdivide_points.proofs.is_crease.Goals as goal

pub byte_at-requires : goal.byte_at-requires
byte_at-requires c = let h = below_at _ _ c.requires.below (omega arith) c.at-c.ensures in omega arith

pub byte_at-requires-2 : goal.byte_at-requires-2
byte_at-requires-2 c = let h = below_at _ _ c.requires.below (omega arith) c.at-d.ensures in omega arith

pub returns : goal.returns
returns c =
    crease-is _ _ _ _ _ _ _ c.requires.below c.requires.i_bound c.at-c.ensures c.at-d.ensures c.byte_at.ensures c.byte_at-2.ensures

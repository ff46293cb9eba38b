-- `subdivide_points::interior_at` meets its contract. Assumes nothing.
use Rattle.std.proofs.Common.{rules}
use Rattle.subdivide_points.proofs.Turns.{interior-is}
use Rattle.subdivide_points.proofs.interior_at.Goals as goal

pub sum_halfways-edges-requires : goal.sum_halfways-edges-requires
sum_halfways-edges-requires c =
    record { positioned = record { cornered = c.requires.listed.ends.sheet; points = c.requires.np_in_bounds }; low = c.span_at-b.ensures.low }

pub returns : goal.returns
returns c =
    interior-is _ _ _ _ _ c.span_at-a.ensures c.span_at-b.ensures (search rules) (search rules) c.point_at-p.ensures c.sum_centres-faces.ensures c.sum_halfways-edges.ensures c.interior_point.ensures

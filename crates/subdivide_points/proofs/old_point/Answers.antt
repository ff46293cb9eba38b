-- `subdivide_points::old_point` meets its contract. Assumes nothing.
use native.Mathlib.Omega.{arith}
use Rattle.subdivide_points.proofs.Turns.{old-stays, old-moved, creases-low}
use Rattle.subdivide_points.proofs.old_point.Goals as goal

pub returns-then-ones-gt2 : goal.returns-then-ones-gt2
returns-then-ones-gt2 c = old-stays _ _ _ _ _ _ _ _ _ _ c.ones.ensures c.if-ones-gt2.true c.point_at.ensures

pub creases_at-c-requires : goal.creases_at-c-requires
creases_at-c-requires c =
    record { nq_in_bounds = c.requires.gathered.labelled; nq_in_bounds_2 = c.requires.gathered.listed.ends.sheet.quads; below = c.requires.gathered.order; low = c.span_at-s.ensures.low }

pub moved_by-requires : goal.moved_by-requires
moved_by-requires c =
    let l = creases-low _ _ _ _ _ c.requires.gathered.listed.ends.sheet.points (omega (arith, c.requires.v_lt_np)) _ c.span_at-s.ensures c.creases_at-c.ensures in
    record { lead = l; np_in_bounds = c.requires.gathered.points; listed = c.requires.gathered.listed; v_lt_np = c.requires.v_lt_np }

pub returns : goal.returns
returns c =
    old-moved _ _ _ _ _ _ _ _ _ _ _ c.ones.ensures (omega (arith, c.if-ones-gt2.false)) c.span_at-s.ensures c.creases_at-c.ensures c.moved_by.ensures

use native.Mathlib.Omega.{arith}
use Rattle.subdivide_points.specs.Steps.{corner_centre}
use Rattle.rows_copies.proofs.Copies.{centres-none, centres-few, centres-more, centres-stay, centres-end}
use Rattle.rows_copies.proofs.centres_at.Goals as goal
use Rattle.rows_copies.proofs.centres_at.Goals.{then-byte_at-l, else-byte_at-l}

pub loop-corner-init : goal.loop-corner-init
loop-corner-init c = centres-none _ _ _ c.origin.ensures

pub with_centre-c-requires : goal.with_centre-c-requires
with_centre-c-requires c =
    let h = centres-few _ _ _ _ c.args.corners.now c.loop-corner.corner-index _ c.loop-corner.invariant (omega arith) in omega arith

pub loop-corner-preserved : goal.loop-corner-preserved
unfolding corner_centre
loop-corner-preserved c = elim c.if-byte_at-l.branch [
  | then-byte_at-l w ↦ rw w.c-is (centres-more _ _ _ _ c.args.corners.now c.loop-corner.corner-index _ c.loop-corner.invariant (omega arith) _ _ _ c.byte_at.ensures w.if-byte_at-l.true w.centre_at-p.ensures w.with_centre-c.ensures)
  | else-byte_at-l w ↦ rw w.c-is (centres-stay _ _ _ _ c.args.corners.now c.loop-corner.corner-index _ c.loop-corner.invariant (omega arith) _ c.byte_at.ensures w.if-byte_at-l.false)
]

pub returns : goal.returns
returns c = centres-end _ _ _ _ c.args.corners.now c.loop-corner.corner-index _ c.loop-corner.invariant (omega arith)

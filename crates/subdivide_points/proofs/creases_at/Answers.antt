use native.Mathlib.Omega.{arith}
use Rattle.subdivide_points.proofs.CreaseLoop.{creases-more, creases-stay, creases-end}
use Rattle.subdivide_points.proofs.creases_at.Goals as goal
use mathlib.Core.Path.{refl}
use Rattle.subdivide_points.specs.Steps.{creases_of}
use Rattle.subdivide_points.proofs.creases_at.Goals.{then-is_crease, else-is_crease}

pub loop-i-init : goal.loop-i-init
unfolding creases_of
loop-i-init c = refl

pub loop-i-preserved : goal.loop-i-preserved
loop-i-preserved c = elim c.if-is_crease.branch [
  | then-is_crease w ↦ rw w.c-is (creases-more _ _ _ _ _ _ c.loop-i.invariant (omega arith) _ c.is_crease.ensures _ _ w.if-is_crease.true w.other_end.ensures w.with_crease-c.ensures)
  | else-is_crease w ↦ rw w.c-is (creases-stay _ _ _ _ _ _ c.loop-i.invariant (omega arith) _ c.is_crease.ensures w.if-is_crease.false)
]

pub returns : goal.returns
returns c = creases-end _ _ _ _ _ _ c.loop-i.invariant (omega arith)

use mathlib.Core.Path.{sym, ◌∙◌, ap}
use Rattle.points.specs.Points.{finite_p}
use Rattle.lists.proofs.Every.{every-zero, every-suc, every-fails}
use Rattle.sheet.proofs.finite_points.Goals as goal

pub loop-v-init : goal.loop-v-init
loop-v-init c = every-zero _

pub loop-v-preserved : goal.loop-v-preserved
loop-v-preserved c =
    every-suc _ _ c.loop-v.invariant (ap finite_p (sym c.point_at.ensures) ∙ sym c.finite.ensures ∙ c.if-not-finite.false)

pub returns-then-not-finite : goal.returns-then-not-finite
returns-then-not-finite c =
    sym (every-fails _ _ _ c.loop-v-test.true (ap finite_p (sym c.point_at.ensures) ∙ sym c.finite.ensures ∙ c.if-not-finite.true))

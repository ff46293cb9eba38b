use mathlib.Core.Path.{sym, ◌∙◌}
use Rattle.lists.proofs.Every.{every-zero, every-suc, every-fails}
use Rattle.sheet.proofs.good_quads.Goals as goal

pub loop-q-init : goal.loop-q-init
loop-q-init c = every-zero _

pub loop-q-preserved : goal.loop-q-preserved
loop-q-preserved c = every-suc _ _ c.loop-q.invariant (sym c.good_quad.ensures ∙ c.if-not-good_quad.false)

pub returns-then-not-good_quad : goal.returns-then-not-good_quad
returns-then-not-good_quad c =
    sym (every-fails _ _ _ c.loop-q-test.true (sym c.good_quad.ensures ∙ c.if-not-good_quad.true))

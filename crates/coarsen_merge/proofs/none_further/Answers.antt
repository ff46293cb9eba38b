use mathlib.Core.Path.{refl, sym, ◌∙◌}
use borrow.Author.Tests.{eq-eqb, ne_eqb}
use Rattle.lists.proofs.Every.{every-zero, every-suc, every-fails}
use Rattle.coarsen_merge.proofs.none_further.Goals.{else-q-f-via-then-q-f+else-has_corner, else-q-f-via-else-q-f}
use Rattle.coarsen_merge.proofs.none_further.Goals as goal

pub loop-c-init : goal.loop-c-init
loop-c-init c = every-zero _

pub returns-then-has_corner : goal.returns-then-has_corner
returns-then-has_corner c =
    sym (every-fails _ _ _ c.loop-c-test.true
    (rw (ne_eqb _ _ c.if-q-f.true, sym c.has_corner.ensures ∙ c.if-has_corner.true) refl))

pub loop-c-preserved : goal.loop-c-preserved
loop-c-preserved c =
    every-suc _ _ c.loop-c.invariant (elim c.else-q-f.branch [
      | else-q-f-via-then-q-f+else-has_corner w ↦ rw (ne_eqb _ _ w.if-q-f.true, sym w.has_corner.ensures ∙ w.if-has_corner.false) refl
      | else-q-f-via-else-q-f w ↦ rw (eq-eqb _ _ w.if-q-f.false) refl
    ])

use mathlib.Core.Path.{sym, ◌∙◌}
use Rattle.lists.proofs.Every.{every-zero, every-suc, every-fails}
use Rattle.coarsen_merge.proofs.none_shared.Goals as goal

pub loop-c-init : goal.loop-c-init
loop-c-init c = every-zero _

pub returns-then-not-shares_none : goal.returns-then-not-shares_none
returns-then-not-shares_none c =
    sym (every-fails _ _ _ c.loop-c-test.true (sym c.shares_none.ensures ∙ c.if-not-shares_none.true))

pub loop-c-preserved : goal.loop-c-preserved
loop-c-preserved c =
    every-suc _ _ c.loop-c.invariant (sym c.shares_none.ensures ∙ c.if-not-shares_none.false)

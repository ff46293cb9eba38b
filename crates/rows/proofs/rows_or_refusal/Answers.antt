-- `rows::rows_or_refusal` meets its contract. Assumes nothing.
use mathlib.Core.Path.{sym, ◌∙◌}
use Rattle.rows.proofs.Rule.{rule-refused, rule-done, rule-tested}
use Rattle.rule_sheet.proofs.Exits.{exited}
use Rattle.rows.proofs.rows_or_refusal.Goals as goal

pub returns-in_err-admit : goal.returns-in_err-admit
returns-in_err-admit c =
    rw (exited _ _ c.from_residual.ensures.1)
    (rule-refused _ _ _ _ _ _ _ _ _ _ _ (sym c.admit.ensures.value ∙ c.in_err-admit.was))

pub rows_tested-requires : goal.rows_tested-requires
rows_tested-requires c =
    rule-tested _ _ _ _ _ _ _ _ c.admit.auto.w c.admit.ensures.value c.in_ok-admit.was c.admit.ensures.masks_at

pub returns : goal.returns
returns c =
    rule-done _ _ _ _ _ _ _ _ _ _ _
    (sym c.admit.ensures.value ∙ c.in_ok-admit.was)
    c.rows_tested.ensures

-- `regularize::clean_or_refusal` meets its contract. Assumes nothing.
use mathlib.Core.Path.{sym, ◌∙◌}
use Rattle.regularize.proofs.Rule.{rule-refuses, rule-cleans, cleanable}
use Rattle.rule_sheet.proofs.Exits.{exited}
use Rattle.regularize.proofs.clean_or_refusal.Goals as goal

pub returns-in_err-admit : goal.returns-in_err-admit
returns-in_err-admit c =
    rw (exited _ _ c.from_residual.ensures.1)
    (record { sheet = rule-refuses _ _ _ _ _ (sym c.admit.ensures.value ∙ c.in_err-admit.was) })

pub clean_accepted-requires : goal.clean_accepted-requires
clean_accepted-requires c =
    cleanable _ _ _ _ (sym c.admit.ensures.value ∙ c.in_ok-admit.was) c.requires c.admit.auto.w

pub returns : goal.returns
returns c =
    record { sheet = rule-cleans _ _ _ _ _ (sym c.admit.ensures.value ∙ c.in_ok-admit.was) c.clean_accepted.ensures.sheet }

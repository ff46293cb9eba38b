-- `quality::quality_or_refusal` meets its contract. Assumes nothing.
use mathlib.Core.Path.{sym, ◌∙◌}
use Rattle.quality.proofs.Accepted.{accepted}
use Rattle.quality.proofs.Rule.{rule-refused, rule-assessed}
use Rattle.rule_sheet.proofs.Exits.{exited}
use Rattle.quality.proofs.quality_or_refusal.Goals as goal

pub returns-in_err-measure_verdict : goal.returns-in_err-measure_verdict
returns-in_err-measure_verdict c =
    rw (exited _ _ c.from_residual.ensures.1)
    (rule-refused _ _ _ _ (sym c.measure_verdict.ensures ∙ c.in_err-measure_verdict.was))

pub assess-requires : goal.assess-requires
assess-requires c =
    rw c.measure_verdict.auto.w (accepted _ _ _ (sym c.measure_verdict.ensures ∙ c.in_ok-measure_verdict.was))

pub returns : goal.returns
returns c =
    rule-assessed _ _ _ _ (sym c.measure_verdict.ensures ∙ c.in_ok-measure_verdict.was) c.assess.ensures

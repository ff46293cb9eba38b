-- `corners::corners_or_refusal` meets its contract. Assumes nothing.
use mathlib.Core.Path.{sym, ◌∙◌}
use Rattle.corners.proofs.Rule.{divisible, rule-refused, rule-divided}
use Rattle.rule_sheet.proofs.Exits.{exited}
use Rattle.corners.proofs.corners_or_refusal.Goals as goal

pub returns-in_err-measure_verdict : goal.returns-in_err-measure_verdict
returns-in_err-measure_verdict c =
    rw (exited _ _ c.from_residual.ensures.1)
    (rule-refused _ _ _ (sym c.measure_verdict.ensures ∙ c.in_err-measure_verdict.was))

pub ratio-requires : goal.ratio-requires
ratio-requires c =
    let the_pair = divisible _ _ _ (sym c.measure_verdict.ensures ∙ c.in_ok-measure_verdict.was) in record { points_nonzero = the_pair.0; quads_le_limit = the_pair.1 }

pub returns : goal.returns
returns c =
    rule-divided _ _ _ (sym c.measure_verdict.ensures ∙ c.in_ok-measure_verdict.was) c.ratio.ensures

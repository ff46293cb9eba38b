-- `coarsen::coarsen_or_refusal` meets its contract. Assumes nothing.
use mathlib.Core.Path.{◌≡◌, sym, ◌∙◌}
use Rattle.setting.specs.Settings.{setting_of}
use Rattle.rule_sheet.specs.Lent.{lent_of, work_of}
use Rattle.rule_coarsen.specs.Rule.{coarsen_verdict}
use Rattle.coarsen.proofs.Rule.{rule-refused, rule-done, coarsenable}
use Rattle.coarsen.proofs.coarsen_or_refusal.Goals.{In_ok-coarsen_verdict}
use Rattle.coarsen.proofs.coarsen_or_refusal.Goals as goal
use Rattle.rule_sheet.proofs.Exits.{exited}
use Rattle.rule_sheet.specs.Verdicts.{Accepted}

accepted : (c : In_ok-coarsen_verdict) →
    coarsen_verdict (setting_of c.args.b) c.args.passes (lent_of c.args.c c.args.points.now c.args.quads.now c.args.labels.now) (work_of c.args.work.now c.args.floats.now) ≡ Accepted
accepted c = sym c.coarsen_verdict.ensures ∙ c.in_ok-coarsen_verdict.was

pub returns-in_err-coarsen_verdict : goal.returns-in_err-coarsen_verdict
returns-in_err-coarsen_verdict c =
    rw (exited _ _ c.from_residual.ensures.1)
    (rule-refused _ _ _ _ (sym c.coarsen_verdict.ensures ∙ c.in_err-coarsen_verdict.was))

pub merge_passes-t-requires : goal.merge_passes-t-requires
merge_passes-t-requires c =
    coarsenable _ _ _ _ c.coarsen_verdict.auto.w (accepted (goal.at.merge_passes-t-requires c).In_ok-coarsen_verdict)

pub clear_unused-requires : goal.clear_unused-requires
clear_unused-requires c = c.merge_passes-t.ensures.room

pub returns : goal.returns
returns c =
    rule-done _ _ _ _ (accepted (goal.at.returns c).In_ok-coarsen_verdict) c.merge_passes-t.ensures c.merge_passes-t.auto.points c.merge_passes-t.auto.quads c.merge_passes-t.auto.labels c.clear_unused.ensures.points_after c.clear_unused.ensures.quads_after c.clear_unused.ensures.labels_after

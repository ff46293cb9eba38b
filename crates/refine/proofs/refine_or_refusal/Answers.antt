-- `refine::refine_or_refusal` meets its contract. Assumes nothing.
use native.Mathlib.Omega.{arith}
use mathlib.Core.Path.{◌≡◌, sym, ◌∙◌}
use lib.ListN.{length}
use Rattle.rule_sheet.specs.Lent.{lent_verdict, room_of, work_with}
use Rattle.refine.proofs.Rule.{rule-lent, rule-few, rule-bare, rule-corner, rule-refinable, rule-tested}
use Rattle.refine.proofs.refine_or_refusal.Goals.{In_ok-lent}
use Rattle.refine.proofs.refine_or_refusal.Goals as goal
use Rattle.rule_sheet.proofs.Exits.{exited}
use Rattle.rule_sheet.specs.Verdicts.{Accepted}

accepted : (c : In_ok-lent) →
    lent_verdict c.args.c (room_of c.args.points.now c.args.quads.now c.args.labels.now) (work_with (length c.args.w.now) c.args.floats) ≡ Accepted
accepted c = sym c.lent.ensures ∙ c.in_ok-lent.was

pub returns-in_err-lent : goal.returns-in_err-lent
returns-in_err-lent c =
    rw (exited _ _ c.from_residual.ensures.1)
    (rule-lent c.args.c c.args.points.now c.args.quads.now c.args.labels.now (length c.args.w.now) c.args.floats _ _ _ _ _ _ _ (sym c.lent.ensures ∙ c.in_err-lent.was))

pub returns-then-c : goal.returns-then-c
returns-then-c c =
    rule-bare c.args.c c.args.points.now c.args.quads.now c.args.labels.now (length c.args.w.now) c.args.floats _ _ _ (sym c.lent.ensures ∙ c.in_ok-lent.was) _ _ _ c.if-c.true

pub overflow_mul-c : goal.overflow_mul-c
overflow_mul-c c =
    omega (arith, rule-few c.args.c c.args.points.now c.args.quads.now c.args.labels.now (length c.args.w.now) c.args.floats 0 0 0 (accepted (goal.at.overflow_mul-c c).In_ok-lent))

pub in_range-requires : goal.in_range-requires
in_range-requires c =
    (rule-few c.args.c c.args.points.now c.args.quads.now c.args.labels.now (length c.args.w.now) c.args.floats 0 0 0 (accepted (goal.at.in_range-requires c).In_ok-lent)).1

pub refine_tested-requires : goal.refine_tested-requires
refine_tested-requires c =
    rule-refinable c.args.c c.args.points.now c.args.quads.now c.args.labels.now (length c.args.w.now) c.args.floats 0 0 0 (accepted (goal.at.refine_tested-requires c).In_ok-lent) c.if-c.false (sym c.in_range.ensures ∙ c.if-in_range.true)

pub returns-then-in_range : goal.returns-then-in_range
returns-then-in_range c =
    rule-tested c.args.c c.args.points.now c.args.quads.now c.args.labels.now (length c.args.w.now) c.args.floats _ _ _ (accepted (goal.at.returns-then-in_range c).In_ok-lent) _ _ _ _ c.if-c.false (sym c.in_range.ensures ∙ c.if-in_range.true) c.refine_tested.ensures

pub returns : goal.returns
returns c =
    rule-corner c.args.c c.args.points.now c.args.quads.now c.args.labels.now (length c.args.w.now) c.args.floats _ _ _ (accepted (goal.at.returns c).In_ok-lent) _ _ _ c.if-c.false (sym c.in_range.ensures ∙ c.if-in_range.false)

-- `subdivide::subdivide_or_refusal` meets its contract. Assumes nothing.
use native.Mathlib.Omega.{arith}
use Rattle.subdivide.proofs.Rule.{rule-refused, rule-done, rule-tested}
use Rattle.rule_sheet.proofs.Exits.{exited}
use Rattle.subdivide.proofs.subdivide_or_refusal.Goals as goal

pub admit-requires : goal.admit-requires
admit-requires c = omega arith

pub returns-in_err-admit : goal.returns-in_err-admit
returns-in_err-admit c =
    rw (exited _ _ c.from_residual.ensures.1)
    (rule-refused c.args.b c.args.c c.args.points.now c.args.quads.now c.args.labels.now _ _ c.admit.ensures.value _ _ _ _ _ c.in_err-admit.was)

pub subdivide_tested-requires : goal.subdivide_tested-requires
subdivide_tested-requires c =
    rule-tested c.args.b c.args.c c.args.points.now c.args.quads.now c.args.labels.now _ _ c.admit.ensures.value c.in_ok-admit.was _ c.admit.auto.w c.admit.ensures.masks_at

pub returns : goal.returns
returns c =
    rule-done c.args.b c.args.c c.args.points.now c.args.quads.now c.args.labels.now _ _ c.admit.ensures.value c.in_ok-admit.was _ c.subdivide_tested.ensures

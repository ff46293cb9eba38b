-- `export_leaves::tested` meets its contract: its tests leave small counts, and slices hold a third and a quarter of their lengths. Assumes nothing.
use native.Mathlib.Omega.{arith}
use mathlib.Core.Path.{sym, ◌∙◌}
use borrow.Author.Tests.{not-true, not-false, eq-eqb, ne_eqb}
use Rattle.sheet.proofs.Tests.{few-of}
use Rattle.export_leaves.specs.Answers.{filling}
use Rattle.export_leaves.proofs.Answers.{tests_large, tests-short, tests-box, tests-sheet}
use Rattle.export_leaves.proofs.tested.Goals as goal

pub returns-then-is_large : goal.returns-then-is_large
returns-then-is_large c =
    rw c.number.ensures (tests_large c.args.b (filling c.args.points.now c.args.quads.now c.args.labels.now) _ _ (sym c.is_large.ensures ∙ c.if-is_large.true))

pub returns-then-masks-c : goal.returns-then-masks-c
returns-then-masks-c c =
    rw c.number-then-masks-c.ensures (tests-short c.args.b (filling c.args.points.now c.args.quads.now c.args.labels.now) _ _ (sym c.is_large.ensures ∙ c.if-is_large.false) (ne_eqb _ _ c.if-masks-c.true))

pub returns-then-not-validate : goal.returns-then-not-validate
returns-then-not-validate c =
    rw c.number-then-not-validate.ensures
    (tests-box c.args.b (filling c.args.points.now c.args.quads.now c.args.labels.now) _ _ (sym c.is_large.ensures ∙ c.if-is_large.false) (eq-eqb _ _ c.if-masks-c.false)
    (sym c.validate.ensures ∙ c.if-not-validate.true))

pub constraints-requires : goal.constraints-requires
constraints-requires c =
    record {
      lent_sheet = record {
        few = few-of _ (sym c.is_large.ensures ∙ c.if-is_large.false);
        points = omega arith;
        quads = omega arith;
        labels = omega arith;
      };
      masks_len = omega arith;
    }

pub returns : goal.returns
returns c =
    tests-sheet c.args.b (filling c.args.points.now c.args.quads.now c.args.labels.now) _ _ _ _ (sym c.is_large.ensures ∙ c.if-is_large.false) (eq-eqb _ _ c.if-masks-c.false)
    (sym c.validate.ensures ∙ c.if-not-validate.false) c.constraints.ensures.value c.answer_number.ensures c.constraints.ensures.masks_if

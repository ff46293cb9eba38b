-- `export_band::put_counts` meets its contract. Assumes nothing.
use mathlib.Core.Path.{sym}
use mathlib.Core.List.{[], ◌∷◌}
use borrow.Author.Tests.{lt-ltb, le-ltb}
use Rattle.rule_exports.specs.Measured.{fronted}
use Rattle.rule_exports.proofs.Fronted.{stores-front}
use Rattle.export_band.specs.Steps.{counts_left}
use Rattle.export_band.proofs.put_counts.Goals as goal

pub returns-then-answer-lt-ANSWERS : goal.returns-then-answer-lt-ANSWERS
unfolding counts_left
returns-then-answer-lt-ANSWERS c = simp (lt-ltb _ _ c.if-answer-lt-ANSWERS.true)

pub returns : goal.returns
unfolding counts_left fronted
returns c =
    let e = stores-front (c.args.count ∷ c.args.c.points ∷ c.args.c.quads ∷ c.args.c.labels ∷ []) c.args.answer.now c.if-answer-lt-ANSWERS.false in
    rw (le-ltb _ _ c.if-answer-lt-ANSWERS.false, c.copy_from_slice.ensures.after) (sym e)

-- `export_band::put_answer` meets its contract. Assumes nothing.
use mathlib.Core.Path.{◌∙◌}
use Rattle.rule_exports.specs.Exports.{answer_left}
use Rattle.export_band.specs.Steps.{counts_left}
use Rattle.export_band.proofs.put_answer.Goals as goal

pub returns : goal.returns
unfolding answer_left counts_left
returns c =
    record { number = c.answer_number.ensures; answer = c.put_counts.ensures ∙ rw (c.answer_count.ensures, c.shown_counts.ensures) }

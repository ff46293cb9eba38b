-- What is written of an answer.
use Rattle.std.specs.Prelude.{ℕ, cond, List, set}
use Rattle.rule_sheet.specs.declared.Counts.{Counts}
use Rattle.rule_exports.specs.Exports.{is_short_answer}

-- an answer slice with a count and the counts of a sheet, untouched if it is too short
unfoldable pub counts_left : ℕ → Counts → List ℕ → List ℕ
counts_left count c l =
    cond (is_short_answer l) l (set (set (set (set l 0 count) 1 c.points) 2 c.quads) 3 c.labels)

-- The stages of extraction, from the last to the first: what is left of its rule once the tests before have passed.
use Rattle.std.specs.Prelude.{ℕ, ◌+◌, cond, not, length}
use Rattle.rule_sheet.specs.Tests.{good_masks}
use Rattle.rule_sheet.specs.Sheet.{Sheet, is_bare}
use Rattle.rule_sheet.specs.Lent.{Room}
use Rattle.rule_sheet.specs.Outcomes.{Outcome, refuses, gives}
use Rattle.rule_extract.specs.declared.Grid.{Grid}
use Rattle.rule_extract.specs.Drawing.{finite_samples, drawn_sheet, drawn_or}
use Rattle.rule_sheet.specs.declared.Refusal.TheVariants.{Samples, Bare, Clash}

-- 5, 7
unfoldable pub tested_or : Sheet → Outcome Sheet
tested_or s =
    cond (is_bare s) (refuses Bare) (cond (good_masks (length s.points) s.quads s.labels) (gives s)
    (refuses Clash))

-- 4, 13 (result), 5, 7
unfoldable pub sampled_or : Grid → ℕ → Room → Outcome Sheet
sampled_or g n room = cond (not (finite_samples g (n + 1))) (refuses Samples) (drawn_or (drawn_sheet g n) room)

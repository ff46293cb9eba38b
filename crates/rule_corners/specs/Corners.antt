-- The corners per point of a sheet, exactly. Document 02, Point 8.
use Rattle.std.specs.Prelude.{◌*◌, ◌/◌, ◌%◌, Result, Ok, Err}
use Rattle.setting.specs.Settings.{Domain}
use Rattle.rule_sheet.specs.declared.Counts.{Counts}
use Rattle.rule_sheet.specs.declared.Refusal.{Refusal}
use Rattle.rule_sheet.specs.Sheet.{counts_of}
use Rattle.rule_sheet.specs.Lent.{Lent, Work, held}
use Rattle.rule_sheet.specs.Outcomes.{Outcome, refuses, gives, after_test}
use Rattle.rule_admission.specs.Admission.{measurable}
use Rattle.rule_corners.specs.declared.Ratio.{Ratio}

-- "4 × quads ÷ points as a whole number and the exact remainder"
unfoldable pub ratio_of : Counts → Ratio
ratio_of c = record { quotient = 4 * c.quads / c.points; remainder = 4 * c.quads % c.points }

-- `corners_per_point` of the sheet in lent slices. "It is refused as quality refuses, apart from normal": 12, 13, 1, 5,
-- 6, 7
unfoldable pub corners_rule : Domain → Lent → Work → Outcome Ratio
corners_rule d x w = after_test (measurable d x w) (gives (ratio_of (counts_of (held x))))

-- what `corners_per_point` answers: the two numbers, or a refusal
abbrev pub Divided : Type 0
Divided = Result Ratio Refusal

-- the answer of an outcome
abbrev pub divided_of : Outcome Ratio → Divided
divided_of (refuses n) = Err n
divided_of (gives q) = Ok q

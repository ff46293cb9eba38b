-- The sheet of `subdivide`: the smoothed sheet with its points projected. Document 01, "The finer sheet and the
-- rows", and `subdivide` of 000.
use Rattle.std.specs.Prelude.{ℕ, Bool, cond, length, Option}
use Rattle.lists.specs.Sort.{tabulate}
use Rattle.lists.specs.Every.{every}
use Rattle.setting.specs.Settings.{Setting}
use Rattle.projection.specs.Project.{project_of, is_onto, onto_of}
use Rattle.rule_sheet.specs.Quads.{mask_of}
use Rattle.rule_sheet.specs.Sheet.{Sheet, counts_of, sheet_verdict}
use Rattle.rule_sheet.specs.Lent.{Lent, Work, Room, held}
use Rattle.rule_sheet.specs.Outcomes.{Outcome, refuses, gives, after_test, with_room}
use Rattle.rule_admission.specs.Admission.{admits}
use Rattle.rule_finer.specs.Finer.{finer_sheet}
use Rattle.rule_finer.specs.Smoothed.{paired, point_of, smooth_sheet}
use Rattle.rule_sheet.specs.declared.Refusal.TheVariants.{Edge, Astray}
use Rattle.points.specs.declared.Point.{Point}

-- ---- the projected points

-- point v projected by its mask
unfoldable pub landing : Setting → Sheet → ℕ → Option Point
landing s t v = project_of s (point_of t v) (mask_of t.quads t.labels v)

abbrev pub lands_at : Setting → Sheet → ℕ → Bool
lands_at s t v = is_onto (landing s t v)

-- "All are then projected."
unfoldable pub projected_sheet : Setting → Sheet → Sheet
projected_sheet s t = record {
  points = tabulate (λ v. onto_of (landing s t v)) (length t.points);
  quads = t.quads;
  labels = t.labels;
}

-- ---- the rule

-- 9, astray: "a point's projection fails"
unfoldable pub projected : Setting → Sheet → Outcome Sheet
projected s t = cond (every (lands_at s t) (length t.points)) (gives (projected_sheet s t)) (refuses Astray)

-- 13 (result); "Then subdivide 8, 5, 9": the smoothed sheet is tested as the lent one was, as in 000; of these
-- tests only 5 can fail
unfoldable pub subdivided : Setting → Sheet → Room → Outcome Sheet
subdivided s t room =
    with_room (counts_of (finer_sheet t)) room
    (cond (paired (length t.points) t.quads) (after_test (sheet_verdict (smooth_sheet t))
    (projected s (smooth_sheet t))) (refuses Edge))

-- `subdivide` of the sheet in lent slices, into result slices: 12, 13, 1, 5, 6, 7, 13, 8, 5, 9
unfoldable pub subdivide_rule : Setting → Lent → Work → Room → Outcome Sheet
subdivide_rule s x w room = after_test (admits s x w) (subdivided s (held x) room)

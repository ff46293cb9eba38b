-- The rule of `coarsen`, from lent slices to what is left in them. Document 01, "The merged sheet".
use Rattle.std.specs.Prelude.{ℕ, cond, eqb}
use Rattle.setting.specs.Settings.{Setting}
use Rattle.rule_sheet.specs.Sheet.{Sheet}
use Rattle.rule_sheet.specs.Lent.{Lent, Work, held, room_in, lent_verdict}
use Rattle.rule_sheet.specs.Outcomes.{Outcome, gives, RunEnd, after_test}
use Rattle.rule_admission.specs.Admission.{admits}
use Rattle.rule_coarsen.specs.Coarse.{coarse_run}
use Rattle.rule_coarsen.specs.MergeFits.{merge_fits, merge_position}
use Rattle.rule_sheet.specs.Verdicts.{Verdict}

-- at most k passes over a sheet
abbrev pub coarse_sheet : Setting → ℕ → Sheet → RunEnd Sheet
coarse_sheet s k t = coarse_run (merge_fits s) (merge_position s) k t

-- "Zero passes answer 0 and meet 12 and 13 only."
unfoldable pub coarsen_verdict : Setting → ℕ → Lent → Work → Verdict
coarsen_verdict s k x w = cond (eqb k 0) (lent_verdict x.counts (room_in x) w) (admits s x w)

-- the sheet that is left and the merges made: "Order for a lent sheet: 12, 13 (counts or work), 1, 5, 6, 7"
unfoldable pub coarsen_rule : Setting → ℕ → Lent → Work → Outcome (RunEnd Sheet)
coarsen_rule s k x w = after_test (coarsen_verdict s k x w) (gives (coarse_sheet s k (held x)))

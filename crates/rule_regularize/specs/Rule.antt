-- The rules of `regularize` and `improve_layout`, from lent slices to what is left in them. Document 01, "The
-- swapped sheet".
use Rattle.std.specs.Prelude.{ℕ, length}
use Rattle.setting.specs.Settings.{Setting}
use Rattle.rule_sheet.specs.Sheet.{Sheet, with_quads}
use Rattle.rule_sheet.specs.Lent.{Lent, Work, held}
use Rattle.rule_sheet.specs.Outcomes.{Outcome, gives, RunEnd, after_test}
use Rattle.rule_admission.specs.Admission.{admits}
use Rattle.rule_passes.specs.Runs.{capped}
use Rattle.rule_regularize.specs.Swaps.{regularize_gain, improve_gain, swap_run}
use Rattle.rule_regularize.specs.SwapFits.{swap_fits}

-- at most k passes over a sheet, each swap of which gains at least least_gain
abbrev pub swap_sheet : ℕ → Setting → ℕ → Sheet → RunEnd Sheet
swap_sheet least_gain s k t =
    let e = swap_run (length t.points) t.labels least_gain (swap_fits s t.points t.labels) k t.quads in
    record { left = with_quads t e.left; count = capped e.count }

-- the sheet that is left and the swaps made: "Order for a lent sheet: 12, 13 (counts or work), 1, 5, 6, 7"; "Zero
-- passes still validate."
unfoldable pub swap_rule : ℕ → Setting → ℕ → Lent → Work → Outcome (RunEnd Sheet)
swap_rule least_gain s k x w = after_test (admits s x w) (gives (swap_sheet least_gain s k (held x)))

-- `regularize`
abbrev pub regularize_rule : Setting → ℕ → Lent → Work → Outcome (RunEnd Sheet)
regularize_rule = swap_rule regularize_gain

-- `improve_layout`
abbrev pub improve_rule : Setting → ℕ → Lent → Work → Outcome (RunEnd Sheet)
improve_rule = swap_rule improve_gain

-- The passes as 000 makes them: each tests the band and the sheet before it. The rule tests them once: "No pass after
-- the first can refuse".
use Rattle.std.specs.Prelude.{ℕ, zero, suc, ◌+◌, true, false, eqb}
use Rattle.setting.specs.Settings.{Setting}
use Rattle.rule_sheet.specs.Sheet.{Sheet, sheet_verdict}
use Rattle.rule_sheet.specs.Outcomes.{Outcome, gives, RunEnd, after_test}
use Rattle.rule_admission.specs.Admission.{and_then, setting_verdict}
use Rattle.rule_coarsen.specs.Rule.{coarse_sheet}

-- at most k passes over a sheet after m merges, each of which may refuse
abbrev pub tested_run : Setting → ℕ → Sheet → ℕ → Outcome (RunEnd Sheet)
tested_run s zero t m = gives (record { left = t; count = m })
tested_run s (suc k) t m =
    let one = coarse_sheet s 1 t in
    after_test (and_then (setting_verdict s) (sheet_verdict t)) (elim (eqb one.count 0)
    [ true ↦ gives (record { left = t; count = m }) | false ↦ tested_run s k one.left (m + one.count) ])

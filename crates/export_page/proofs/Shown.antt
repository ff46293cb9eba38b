-- What `quads_page` shows. Assumes nothing.
use Prim.Native.Nat.{ℕ}
use mathlib.Core.Path.{◌≡◌, ap, ◌∙◌}
use mathlib.Core.Bool.{false, ◌||◌}
use mathlib.Core.List.{List}
use lib.ListN.{replicate}
use Rattle.band.specs.declared.Band.{Band}
use Rattle.setting.specs.Settings.{Setting, setting_of}
use Rattle.rule_sheet.specs.declared.Counts.{Counts}
use Rattle.rule_sheet.specs.Lent.{before_verdict}
use Rattle.rule_sheet.specs.Outcomes.{Outcome, after_test}
use Rattle.rule_page.specs.Page.{Pages}
use Rattle.page.proofs.Rule.{zeros-shown}
use Rattle.rule_exports.specs.Told.{Told, band_of, is_short_told, by_told}
use Rattle.rule_exports.specs.Exports.{answer_number}
use Rattle.rule_exports.specs.Paged.{ShowsPage}
use Rattle.std.specs.Prelude.{Err}
use Rattle.rule_sheet.specs.Verdicts.{Verdict}
use Rattle.rule_sheet.specs.declared.Refusal.{Refusal}

-- a refusal shows zeros
pub refused-page : (o : Outcome (List ℕ)) {v : Verdict} {k : Refusal} {n : ℕ} {p : List ℕ} → v ≡ Err k → p ≡ replicate n 0 → Pages (after_test v o) n (Err k) p
refused-page o {v} {k} e f = rw e (zeros-shown k f)

-- the export's answer, by what it is told
pub told-shows : (c : Counts) (t : Told) (rule : Setting → Outcome (List ℕ)) (n : ℕ) {v r : Verdict} {b : Band} {p : List ℕ} {k : ℕ}
    → v ≡ before_verdict c (false || is_short_told t) → b ≡ band_of t → Pages (after_test v (rule (setting_of b))) n r p → k ≡ answer_number r → ShowsPage (by_told c false t rule) n k p
told-shows c t rule n ev eb P ek =
    let Q : Pages (by_told c false t rule) n _ _ = rw (ev, eb) at P in
    record { number = ek ∙ ap answer_number Q.answer; page = Q.page }

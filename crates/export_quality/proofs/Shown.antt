-- What `quads_quality` leaves in the answer slice and in the slice of measures. Assumes nothing.
use Prim.Native.Nat.{ℕ}
use mathlib.Core.Path.{◌≡◌, ◌∙◌}
use mathlib.Core.Bool.{Bool, false, ◌||◌}
use mathlib.Core.List.{List}
use lib.Ieee.{Float}
use Rattle.band.specs.declared.Band.{Band}
use Rattle.setting.specs.Settings.{Setting, setting_of}
use Rattle.rule_sheet.specs.declared.Counts.{Counts}
use Rattle.rule_sheet.specs.Quads.{num}
use Rattle.rule_sheet.specs.Lent.{before_verdict}
use Rattle.rule_sheet.specs.Outcomes.{Outcome, after_test}
use Rattle.rule_quality.specs.declared.report.Quality.{Quality}
use Rattle.rule_quality.specs.declared.report.Assessment.{Assessment}
use Rattle.rule_quality.specs.Quality.{is_valid, assessed_of}
use Rattle.rule_exports.specs.Told.{Told, band_of, is_short_told, by_told}
use Rattle.rule_exports.specs.Measured.{quality_counts, quality_measures, counts_shown, measures_shown, fronted, ShowsMeasures}
use Rattle.export_quality.specs.Steps.{no_quality}
use Rattle.std.specs.Prelude.{Ok, Err}
use Rattle.rule_sheet.specs.Verdicts.{Verdict}
use Rattle.rule_quality.specs.Quality.{Assessed}
use Rattle.rule_sheet.specs.declared.Refusal.{Refusal}

-- ---- what an answer shows

pub done-counts : (r : Assessed) (a : Assessment) (v : Bool) (s : List ℕ) {s' : List ℕ} → r ≡ Ok a → v ≡ is_valid a.quality → s' ≡ fronted (quality_counts a.quality (num a.is_tight) (num v)) s → s' ≡ fronted (counts_shown r) s
unfolding counts_shown
done-counts r a v s e ev es = rw e (es ∙ rw ev)

pub refused-counts : (r : Assessed) (n : Refusal) (q : Quality) (s : List ℕ) {s' : List ℕ} → r ≡ Err n → q ≡ no_quality → s' ≡ fronted (quality_counts q (num false) (num false)) s → s' ≡ fronted (counts_shown r) s
unfolding counts_shown
refused-counts r n q s e eq es = rw e (es ∙ rw eq)

pub done-measures : (r : Assessed) (a : Assessment) (m : List Float) {m' : List Float} → r ≡ Ok a → m' ≡ fronted (quality_measures a.quality) m → m' ≡ fronted (measures_shown r) m
unfolding measures_shown
done-measures r a m e em = rw e em

pub refused-measures : (r : Assessed) (n : Refusal) (q : Quality) (m : List Float) {m' : List Float} → r ≡ Err n → q ≡ no_quality → m' ≡ fronted (quality_measures q) m → m' ≡ fronted (measures_shown r) m
unfolding measures_shown
refused-measures r n q m e eq em = rw e (em ∙ rw eq)

-- the export's answer, by what it is told
pub told-shows : (c : Counts) (t : Told) (rule : Setting → Outcome Assessment) (few : Bool) {g : Bool} {v : Verdict} {b : Band} {r : Assessed} {s s' : List ℕ} {m m' : List Float} {n : ℕ} → g ≡ few
    → v ≡ before_verdict c (g || is_short_told t) → b ≡ band_of t → r ≡ assessed_of (after_test v (rule (setting_of b))) → ShowsMeasures r s m n s' m'
    → ShowsMeasures (assessed_of (by_told c few t rule)) s m n s' m'
told-shows c t rule few eg ev eb er S = let e : _ ≡ assessed_of (by_told c few t rule) = er ∙ rw (ev, eg, eb) in rw e at S

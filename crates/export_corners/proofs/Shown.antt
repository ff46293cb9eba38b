-- What `quads_corners_per_point` leaves in the answer slice. Assumes nothing.
use Prim.Native.Nat.{ℕ}
use mathlib.Core.Path.{◌≡◌, ◌∙◌}
use mathlib.Core.Bool.{Bool, ◌||◌}
use mathlib.Core.List.{List, [], ◌∷◌}
use Rattle.band.specs.declared.Band.{Band}
use Rattle.setting.specs.Settings.{Setting, setting_of}
use Rattle.rule_sheet.specs.declared.Counts.{Counts}
use Rattle.rule_sheet.specs.Lent.{before_verdict}
use Rattle.rule_sheet.specs.Outcomes.{Outcome, after_test}
use Rattle.rule_corners.specs.declared.Ratio.{Ratio}
use Rattle.rule_corners.specs.Corners.{divided_of}
use Rattle.rule_exports.specs.Told.{Told, band_of, is_short_told, by_told}
use Rattle.rule_exports.specs.Measured.{fronted}
use Rattle.rule_exports.specs.Divided.{ratio_shown, ShowsRatio}
use Rattle.std.specs.Prelude.{Ok, Err}
use Rattle.rule_sheet.specs.Verdicts.{Verdict}
use Rattle.rule_corners.specs.Corners.{Divided}
use Rattle.rule_sheet.specs.declared.Refusal.{Refusal}

pub done-shown : (r : Divided) (q : Ratio) (l : List ℕ) {l' : List ℕ} → r ≡ Ok q → l' ≡ fronted (q.quotient ∷ q.remainder ∷ []) l → l' ≡ fronted (ratio_shown r) l
unfolding ratio_shown
done-shown r q l e el = rw e el

pub refused-shown : (r : Divided) (n : Refusal) (l : List ℕ) {l' : List ℕ} → r ≡ Err n → l' ≡ fronted (0 ∷ 0 ∷ []) l → l' ≡ fronted (ratio_shown r) l
unfolding ratio_shown
refused-shown r n l e el = rw e el

-- the export's answer, by what it is told
pub told-shows : (c : Counts) (t : Told) (rule : Setting → Outcome Ratio) (few : Bool) {v : Verdict} {b : Band} {r : Divided} {l l' : List ℕ} {n : ℕ}
    → v ≡ before_verdict c (few || is_short_told t) → b ≡ band_of t → r ≡ divided_of (after_test v (rule (setting_of b))) → ShowsRatio r l n l'
    → ShowsRatio (divided_of (by_told c few t rule)) l n l'
told-shows c t rule few ev eb er S = let e : _ ≡ divided_of (by_told c few t rule) = er ∙ rw (ev, eb) in rw e at S

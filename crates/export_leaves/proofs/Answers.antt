-- What the exports of single functions answer, by their tests. Assumes nothing.
use Prim.Native.Nat.{ℕ, ◌<◌, ◌≤◌}
use mathlib.Core.Path.{◌≡◌, refl}
use mathlib.Core.Bool.{Bool, true, false}
use mathlib.Core.List.{List}
use lib.Dec.{eqb}
use lib.Ieee.{Float}
use lib.ListN.{length}
use borrow.Author.Tests.{lt-ltb, le-ltb}
use Rattle.points.specs.declared.Point.{Point}
use Rattle.points.specs.Steps.{with_point}
use Rattle.band.specs.declared.Band.{Band}
use Rattle.band.specs.Bands.{valid_of}
use Rattle.rule_sheet.specs.Sheet.{sheet_verdict}
use Rattle.rule_sheet.specs.Lent.{Lent, held, is_large}
use Rattle.rule_sheet.specs.Outcomes.{Outcome, refuses, gives}
use Rattle.rule_exports.specs.Told.{Told, band_of, is_short_told}
use Rattle.rule_exports.specs.Exports.{answer_number}
use Rattle.sheet.specs.Sheet.{masks_of, MasksIf}
use Rattle.export_leaves.specs.Answers.{of_band, point_number, point_left, ShowsPoint}
use Rattle.export_leaves.specs.Answers.{sheet_tests, told_tests, ShowsMasks}
use Rattle.rule_sheet.specs.Numbers.{refusal_number}
use Rattle.rule_sheet.specs.Verdicts.{Verdict}
use Rattle.rule_sheet.specs.declared.Refusal.TheVariants.{Box, Large, Short}
use Rattle.rule_sheet.specs.declared.Refusal.{Refusal}

-- ---- a point

pub point-refused : (n : Refusal) (l : List Float) → ShowsPoint (refuses n) l (refusal_number n) l
unfolding point_number point_left
point-refused n l = record { number = refl; point = refl }

module _ (p : Point) (l : List Float) where
  pub put-short : length l < 3 → ShowsPoint (gives p) l (refusal_number Short) l
  unfolding point_number point_left
  put-short h = record { number = rw (lt-ltb (length l) 3 h) refl; point = rw (lt-ltb (length l) 3 h) refl }

  pub put-shown : (l' : List Float) → 3 ≤ length l → l' ≡ with_point l 0 p → ShowsPoint (gives p) l 0 l'
  unfolding point_number point_left
  put-shown l' h e = record { number = rw (le-ltb (length l) 3 h) refl; point = rw (le-ltb (length l) 3 h) e }

module _ (t : Told) (f : Band → Outcome Point) (l : List Float) (x : Bool) (e : x ≡ is_short_told t) where
  pub point-short : x ≡ true → ShowsPoint (of_band t f) l (refusal_number Short) l
  point-short h = rw (← e, h) (point-refused Short l)

  pub point-shown : (b : Band) (o : Outcome Point) (n : ℕ) (l' : List Float) → x ≡ false → b ≡ band_of t
      → f b ≡ o → ShowsPoint o l n l' → ShowsPoint (of_band t f) l n l'
  point-shown b o n l' h q g S = rw (← e, h, ← q, g) S

-- ---- a sheet

module _ (b : Band) (x : Lent) (m : ℕ) (masks : List ℕ) where
  pub tests_large : is_large x.counts ≡ true → ShowsMasks (sheet_tests b x m) x (refusal_number Large) masks
  unfolding sheet_tests answer_number
  tests_large h = rw h (record { number = refl; left = tt })

  pub tests-short : is_large x.counts ≡ false → eqb m x.counts.points ≡ false
      → ShowsMasks (sheet_tests b x m) x (refusal_number Short) masks
  unfolding sheet_tests answer_number
  tests-short h k = rw (h, k) (record { number = refl; left = tt })

  pub tests-box : is_large x.counts ≡ false → eqb m x.counts.points ≡ true → valid_of b ≡ false
      → ShowsMasks (sheet_tests b x m) x (refusal_number Box) masks
  unfolding sheet_tests answer_number
  tests-box h k v = rw (h, k, v) (record { number = refl; left = tt })

  pub tests-sheet : (v : Verdict) (n : ℕ)
      → is_large x.counts ≡ false → eqb m x.counts.points ≡ true → valid_of b ≡ true
      → v ≡ sheet_verdict (held x) → n ≡ answer_number v
      → MasksIf v (masks_of x.counts.points (held x).quads (held x).labels) masks
      → ShowsMasks (sheet_tests b x m) x n masks
  unfolding sheet_tests
  tests-sheet v n h k w e g M = rw (h, k, w, ← e) (record { number = g; left = M })

module _ (t : Told) (s : Lent) (m : ℕ) (masks : List ℕ) (x : Bool) (e : x ≡ is_short_told t) where
  pub told-short : x ≡ true → ShowsMasks (told_tests t s m) s (refusal_number Short) masks
  unfolding told_tests answer_number
  told-short h = rw (← e, h) (record { number = refl; left = tt })

  pub told-tested : (b : Band) (n : ℕ) → x ≡ false → b ≡ band_of t → ShowsMasks (sheet_tests b s m) s n masks
      → ShowsMasks (told_tests t s m) s n masks
  unfolding told_tests
  told-tested b n h q S = rw (← e, h, ← q) S

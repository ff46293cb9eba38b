-- What the exports of single functions answer: a value, or a number, 0 if accepted, with a point or masks in a slice.
use Rattle.std.specs.Prelude.{ℕ, ◌/◌, ◌≡◌, cond, List, eqb, ltb, Float, length, Err, Some, None, Option}
use Rattle.std.specs.Float.Ieee.{div, of_bits}
use Rattle.std.specs.Float.{binary64}
use Rattle.points.specs.declared.Point.{Point}
use Rattle.points.specs.Steps.{with_point}
use Rattle.field.specs.Fields.{value_of}
use Rattle.band.specs.declared.Band.{Band}
use Rattle.band.specs.Bands.{length_of, gradient_with, normal_of, valid_of}
use Rattle.projection.specs.Project.{longest_move, look_count, project_with}
use Rattle.rule_sheet.specs.Sheet.{sheet_verdict}
use Rattle.rule_sheet.specs.Lent.{Lent, lent_of, held, is_large}
use Rattle.rule_sheet.specs.Numbers.{refusal_number}
use Rattle.rule_sheet.specs.Outcomes.{Outcome, refuses, gives}
use Rattle.rule_exports.specs.Told.{Told, coefficients_of, field_of, band_of, is_short_told}
use Rattle.rule_exports.specs.Exports.{answer_number}
use Rattle.sheet.specs.Sheet.{masks_of, MasksIf}
use Rattle.rule_sheet.specs.Verdicts.{Verdict}
use Rattle.rule_sheet.specs.declared.Refusal.TheVariants.{Box, Astray, Large, Short}

-- the point of three coordinates
abbrev pub point_of : Float → Float → Float → Point
point_of x y z = record { x = x; y = y; z = z }

-- the value of a field at a point, NaN if it has fewer than ten numbers
unfoldable pub value_at : ℕ → List Float → Float → Float → Float → Float
value_at kind k x y z =
    cond (ltb (length k) 10) (div binary64 (of_bits binary64 0) (of_bits binary64 0))
    (value_of (field_of kind (coefficients_of k)) (point_of x y z))

-- 13 where too little is told of a band, else what the band gives
abbrev pub of_band : {A : Type 0} → Told → (Band → Outcome A) → Outcome A
of_band t answer = cond (is_short_told t) (refuses Short) (answer (band_of t))

-- ---- a point

-- the gradient of the band's field
abbrev pub gradient_at : Point → Band → Outcome Point
gradient_at p b = gives (gradient_with b.field (length_of b) p)

-- the normal of a label
abbrev pub normal_at : Point → ℕ → Band → Outcome Point
normal_at p label b = gives (normal_of b p label)

-- 9 where a projection fails
abbrev pub onto_or_astray : Option Point → Outcome Point
onto_or_astray (Some p) = gives p
onto_or_astray None = refuses Astray

-- the projection by a mask
abbrev pub projection_at : Point → ℕ → Band → Outcome Point
projection_at p mask b = onto_or_astray (project_with b (length_of b) longest_move look_count p mask)

-- the number of an export whose point goes to the slice l: 13 if l has fewer than three elements
unfoldable pub point_number : Outcome Point → List Float → ℕ
point_number (refuses n) l = refusal_number n
point_number (gives p) l = cond (ltb (length l) 3) (refusal_number Short) 0

-- the slice at its end
unfoldable pub point_left : Outcome Point → List Float → List Float
point_left (refuses n) l = l
point_left (gives p) l = cond (ltb (length l) 3) l (with_point l 0 p)

-- the number n of an export, and the slice of its point at its end, l at its start
pub record ShowsPoint (o : Outcome Point) (l : List Float) (n : ℕ) (l' : List Float) : Type 0 where
  pub number : n ≡ point_number o l
  pub point : l' ≡ point_left o l

-- ---- a verdict

-- 13 where too little is told of a band, 1 where it fails `validate`
unfoldable pub band_number : Told → ℕ
band_number t = cond (is_short_told t) (refusal_number Short) (cond (valid_of (band_of t)) 0 (refusal_number Box))

-- the sheet that fills its slices
abbrev pub filling : List Float → List ℕ → List ℕ → Lent
filling P Q L = lent_of (record { points = length P / 3; quads = length Q / 4; labels = length L }) P Q L

-- the tests of a sheet and of its band: 12, 13 if there is not a mask for each point, 1, then 5, 6 and 7
unfoldable pub sheet_tests : Band → Lent → ℕ → Verdict
sheet_tests b x masks =
    cond (is_large x.counts) (Err Large)
    (cond (eqb masks x.counts.points) (cond (valid_of b) (sheet_verdict (held x)) (Err Box))
    (Err Short))

-- the same by what is told of the band
unfoldable pub told_tests : Told → Lent → ℕ → Verdict
told_tests t x masks = cond (is_short_told t) (Err Short) (sheet_tests (band_of t) x masks)

-- the number n of an export, and the masks of an accepted sheet
pub record ShowsMasks (v : Verdict) (x : Lent) (n : ℕ) (masks : List ℕ) : Type 0 where
  pub number : n ≡ answer_number v
  pub left : MasksIf v (masks_of x.counts.points (held x).quads (held x).labels) masks

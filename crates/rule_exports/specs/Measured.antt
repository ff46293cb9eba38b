-- What `quads_quality` shows: a number, 0 if accepted, ten numbers in the answer slice and four in the slice of
-- measures.
use Rattle.std.specs.Prelude.{ℕ, ◌≡◌, Bool, cond, List, [], ◌∷◌, ◌++◌, ltb, length, drop, replicate, Float, Ok, Err}
use Rattle.numeric.specs.Num.{zero_f}
use Rattle.rule_sheet.specs.Quads.{num}
use Rattle.rule_quality.specs.declared.report.Quality.{Quality}
use Rattle.rule_quality.specs.Quality.{is_valid, eight_counts, Assessed}
use Rattle.rule_exports.specs.Exports.{answer_number}

-- the eight counts of a record, tight and valid
abbrev pub quality_counts : Quality → ℕ → ℕ → List ℕ
quality_counts q tight valid = eight_counts q ++ (tight ∷ valid ∷ [])

-- the four measures of a record
abbrev pub quality_measures : Quality → List Float
quality_measures q =
    q.minimum_shape ∷ q.shape_size_p05 ∷ q.shape_size_mean ∷ q.minimum_sampled_jacobian ∷ []

-- what an answer shows in the two slices: zeros where it is a refusal
unfoldable pub counts_shown : Assessed → List ℕ
counts_shown (Ok a) = quality_counts a.quality (num a.is_tight) (num (is_valid a.quality))
counts_shown (Err n) = replicate 10 0

unfoldable pub measures_shown : Assessed → List Float
measures_shown (Ok a) = quality_measures a.quality
measures_shown (Err n) = replicate 4 zero_f

-- a slice s with the elements of l in its front
unfoldable pub fronted : {A : Type 0} → List A → List A → List A
fronted l s = l ++ drop (length l) s

-- a slice of counts is too short: it has fewer than 10 elements
abbrev pub is_short_counts : List ℕ → Bool
is_short_counts c = ltb (length c) 10

-- a slice of measures is too short: it has fewer than 4 elements
abbrev pub is_short_measures : List Float → Bool
is_short_measures m = ltb (length m) 4

-- the number n of the export with the answer r, and its two slices c' and m' at its end, c and m at its start: each
-- untouched if it is too short itself
pub record ShowsMeasures (r : Assessed) (c : List ℕ) (m : List Float) (n : ℕ) (c' : List ℕ) (m' : List Float)
    : Type 0 where
  pub number : n ≡ answer_number r
  pub counts : c' ≡ cond (is_short_counts c) c (fronted (counts_shown r) c)
  pub measures : m' ≡ cond (is_short_measures m) m (fronted (measures_shown r) m)

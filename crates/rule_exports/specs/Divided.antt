-- What `quads_corners_per_point` shows: a number, 0 if accepted, and two numbers in the answer slice.
use Rattle.std.specs.Prelude.{ℕ, ◌≡◌, Bool, cond, List, [], ◌∷◌, ltb, length, replicate, Ok, Err}
use Rattle.rule_exports.specs.Measured.{fronted}
use Rattle.rule_corners.specs.Corners.{Divided}
use Rattle.rule_exports.specs.Exports.{answer_number}

-- what an answer shows: the quotient and the remainder, zeros where it is a refusal
unfoldable pub ratio_shown : Divided → List ℕ
ratio_shown (Ok q) = q.quotient ∷ q.remainder ∷ []
ratio_shown (Err n) = replicate 2 0

-- an answer slice is too short: it has fewer than 2 elements
abbrev pub is_short_ratio : List ℕ → Bool
is_short_ratio l = ltb (length l) 2

-- the number n of the export with the answer r, and its answer slice, l at its start and l' at its end: untouched if
-- it is too short
pub record ShowsRatio (r : Divided) (l : List ℕ) (n : ℕ) (l' : List ℕ) : Type 0 where
  pub number : n ≡ answer_number r
  pub ratio : l' ≡ cond (is_short_ratio l) l (fronted (ratio_shown r) l)

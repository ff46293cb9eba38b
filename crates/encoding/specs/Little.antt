-- What a number type that is written in bytes promises, and that a width keeps it.
use mathlib.Core.Path.{ap}
use Rattle.std.specs.Prelude.{ℕ, zero, suc, ◌*◌, ◌/◌, ◌≡◌, refl, List, [], ◌∷◌, ◌++◌, length}
use Rattle.lists.specs.Sort.{tabulate}
use Rattle.lists.specs.Regions.{part}
use Rattle.encoding.specs.Encoding.{little, number, littles, numbers}

-- the laws of a number type: each number has `width` bytes, and numbers one after the other are written and read one
-- by one
pub record LittleLaws {A : Type 0} (width : ℕ) (bytes : A → List ℕ) (of_bytes : List ℕ → A)
    (all_bytes : List A → List ℕ) (all_of : ℕ → List ℕ → List A) : Type 0 where
  pub long : (x : A) → length (bytes x) ≡ width
  pub none : all_bytes [] ≡ []
  pub more : (x : A) (xs : List A) → all_bytes (x ∷ xs) ≡ bytes x ++ all_bytes xs
  pub each : (n : ℕ) (s : List ℕ) → all_of n s ≡ tabulate (λ i. of_bytes (part (width * i) width s)) n

length-little : (k n : ℕ) → length (little k n) ≡ k
unfolding little
length-little zero n = refl
length-little (suc k) n = ap suc (length-little k (n / 256))

pub little-laws : (k : ℕ) → LittleLaws k (little k) number (littles k) (numbers k)
unfolding little number littles numbers
little-laws k = record { long = length-little k; none = refl; more = λ x xs. refl; each = λ n s. refl }

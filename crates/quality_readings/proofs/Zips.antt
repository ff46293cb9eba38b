-- The tables of zips. Assumes nothing.
use Prim.Native.Nat.{ℕ, zero, suc, ◌<◌}
use mathlib.Core.Path.{◌≡◌, refl, ap, ◌∙◌}
use mathlib.Core.List.{List, [], ◌∷◌, zip_with}
use native.Mathlib.Omega.{arith}
use lib.ListN.{length, get_or}
use Rattle.lists.specs.Sort.{tabulate}
use Rattle.lists.proofs.Laws.{is-table}

module _ {A B C : Type 0} (f : A → B → C) (x : A) (y : B) where
  -- the length and the elements of a zip
  length-zip : (a : List A) (b : List B) → length a ≡ length b → length (zip_with f a b) ≡ length a
  unfolding zip_with
  length-zip [] b e = refl
  length-zip (u ∷ a) [] e = absurd (omega arith)
  length-zip (u ∷ a) (v ∷ b) e = ap suc (length-zip a b (omega arith))

  zip-at : (a : List A) (b : List B) (i : ℕ) → length a ≡ length b → i < length a → get_or (zip_with f a b) i (f x y) ≡ f (get_or a i x) (get_or b i y)
  unfolding zip_with
  zip-at [] b i e h = absurd (omega arith)
  zip-at (u ∷ a) [] i e h = absurd (omega arith)
  zip-at (u ∷ a) (v ∷ b) zero e h = refl
  zip-at (u ∷ a) (v ∷ b) (suc i) e h = zip-at a b i (omega arith) (omega arith)

  -- a zip of two lists of n elements is a table
  pub zip-tab : (a : List A) (b : List B) (n : ℕ) → length a ≡ n → length b ≡ n → zip_with f a b ≡ tabulate (λ i. f (get_or a i x) (get_or b i y)) n
  zip-tab a b n p q =
      is-table (f x y) (zip_with f a b) (λ i. f (get_or a i x) (get_or b i y)) n (length-zip a b (omega arith) ∙ p) (λ k h. zip-at a b k (omega arith) (omega arith))

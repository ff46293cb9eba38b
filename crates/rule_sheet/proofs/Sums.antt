-- Sums over lists.
use Prim.Native.Nat.{ℕ, zero, suc, ◌+◌, ◌≤◌, ◌<◌}
use mathlib.Core.Path.{◌≡◌, refl}
use mathlib.Core.List.{List, [], ◌∷◌, ◌++◌}
use native.Mathlib.Omega.{arith}
use lib.ListN.{length, set, get_or}
use Rattle.lists.specs.Sort.{tabulate}
use Rattle.rule_sheet.specs.Quads.{sum}

-- the sum of a weight over the numbers below n
abbrev pub upto : ℕ → (ℕ → ℕ) → ℕ
upto zero f = 0
upto (suc n) f = f n + upto n f

-- a sum over two lists, one after the other
pub sum-append : {A : Type 0} (f : A → ℕ) (l m : List A) → sum f (l ++ m) ≡ sum f l + sum f m
sum-append f [] m = omega arith
sum-append f (x ∷ l) m = omega (arith, sum-append f l m)

pub sum-tab : {A : Type 0} (f : A → ℕ) (g : ℕ → A) (n : ℕ) → sum f (tabulate g n) ≡ upto n (λ i. f (g i))
unfolding tabulate
sum-tab f g zero = refl
sum-tab f g (suc n) = omega (arith, sum-append f (tabulate g n) (g n ∷ []), sum-tab f g n)

pub upto-ext : (f g : ℕ → ℕ) (n : ℕ) → ((i : ℕ) → i < n → f i ≡ g i) → upto n f ≡ upto n g
upto-ext f g zero h = refl
upto-ext f g (suc n) h = rw (h n (omega arith), upto-ext f g n (λ i b. h i (omega arith)))

module _ {A : Type 0} where
  -- One place of a list replaced.
  pub sum-set : (h : A → ℕ) (l : List A) (i : ℕ) (a d : A) → i < length l → sum h (set l i a) + h (get_or l i d) ≡ sum h l + h a
  sum-set h [] i a d k = absurd (omega arith)
  sum-set h (x ∷ l) zero a d k = omega arith
  sum-set h (x ∷ l) (suc i) a d k = omega (arith, sum-set h l i a d (omega arith))

  -- One place is part of the sum.
  pub sum-at : (h : A → ℕ) (l : List A) (i : ℕ) (d : A) → i < length l → h (get_or l i d) ≤ sum h l
  sum-at h [] i d k = absurd (omega arith)
  sum-at h (x ∷ l) zero d k = omega arith
  sum-at h (x ∷ l) (suc i) d k = omega (arith, sum-at h l i d (omega arith))

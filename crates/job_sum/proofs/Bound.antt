-- How large the squared sum of any quads is. Assumes nothing.
use Prim.Native.Nat.{ℕ, zero, suc, ◌+◌, ◌*◌, ◌≤◌, ◌<◌}
use mathlib.Core.Path.{◌≡◌}
use mathlib.Core.Bool.{Bool, true, false, cond}
use mathlib.Core.Logic.{⊎_elim}
use mathlib.Core.List.{List, [], ◌∷◌}
use native.Mathlib.Omega.{arith}
use native.Mathlib.Nat.{suc-mul, mul-suc, mul-le-mul_right}
use lib.Dec.{eqb}
use lib.ListN.{length}
use borrow.Author.Tests.{ne_eqb}
use Rattle.lists.specs.Sort.{itself}
use Rattle.lists.proofs.Laws.{lt-or-le}
use Rattle.rule_sheet.specs.Quads.{Quad, quad, uses, valence}
use Rattle.rule_sheet.specs.Lent.{limit}
use Rattle.rule_sheet.specs.Squared.{sq, squared}
use Rattle.rule_sheet.proofs.Sums.{upto, sum-tab}
use Rattle.rule_sheet.proofs.Weigh.{sq-suc}

-- ---- one point

sq-plus : (k : ℕ) → sq k + 8 * k ≡ k * k + 16
sq-plus zero = omega arith
sq-plus (suc k) = omega (arith, sq-plus k, sq-suc k, suc-mul k (suc k), mul-suc k k)

-- with the corners of all quads at it at most
sq-below : (k : ℕ) → k ≤ 4 * limit → sq k ≤ 4194296 * k + 16
sq-below k h = let m : k * k ≤ 4 * limit * k = mul-le-mul_right k h in omega (arith, sq-plus k)

-- ---- all points

-- a corner is at one point at most
corner-once : (m n : ℕ) → upto n (λ v. cond (eqb m v) 1 0) ≤ 1
corner-once m n = go n
  where
    none : (n : ℕ) → n ≤ m → upto n (λ v. cond (eqb m v) 1 0) ≡ 0
    none zero h = omega arith
    none (suc n) h = rw (ne_eqb m n (λ e. omega arith)) (omega (arith, none n (omega arith)))

    one : (b : Bool) → cond b 1 0 ≤ 1
    one true = omega arith
    one false = omega arith

    go : (n : ℕ) → upto n (λ v. cond (eqb m v) 1 0) ≤ 1
    go zero = omega arith
    go (suc n) = ⊎_elim
        (λ (l : m < n). rw (ne_eqb m n (λ e. omega arith)) (omega (arith, go n)))
        (λ (l : n ≤ m). omega (arith, none n l, one (eqb m n)))
        (lt-or-le m n)

-- a quad has four corners
quad-once : (q : Quad) (n : ℕ) → upto n (λ v. uses v q) ≤ 4
quad-once (quad a b c d) n =
    omega (
      arith,
      split n,
      corner-once a n,
      corner-once b n,
      corner-once c n,
      corner-once d n,
    )
  where
    split : (n : ℕ) → upto n (λ v. uses v (quad a b c d)) ≡ upto n (λ v. cond (eqb a v) 1 0)
        + (upto n (λ v. cond (eqb b v) 1 0) + (upto n (λ v. cond (eqb c v) 1 0) + upto n (λ v. cond (eqb d v) 1 0)))
    split zero = omega arith
    split (suc n) = omega (arith, split n)

corners-once : (S : List Quad) (n : ℕ) → upto n (λ v. valence S v) ≤ 4 * length S
corners-once [] n = none n
  where
    none : (n : ℕ) → upto n (λ v. 0) ≤ 0
    none zero = omega arith
    none (suc n) = omega (arith, none n)
corners-once (q ∷ S) n = omega (arith, split n, quad-once q n, corners-once S n)
  where
    split : (n : ℕ) → upto n (λ v. valence (q ∷ S) v) ≡ upto n (λ v. uses v q) + upto n (λ v. valence S v)
    split zero = omega arith
    split (suc n) = omega (arith, split n)

-- the squares of numbers that add up to few corners
squares-below : (f : ℕ → ℕ) (n : ℕ) → upto n f ≤ 4 * limit → upto n (λ v. sq (f v)) ≤ 4194296 * upto n f + 16 * n
squares-below f zero h = omega arith
squares-below f (suc n) h = omega (arith, squares-below f n (omega arith), sq-below (f n) (omega arith))

-- it fits a u64
pub squared-fits : (n : ℕ) (S : List Quad) → n ≤ limit → length S ≤ limit → squared n S ≤ 17592169267200
unfolding squared
squared-fits n S h k =
    let c = corners-once S n in
    omega (arith, sum-tab (λ v. sq (valence S v)) itself n, squares-below (λ v. valence S v) n (omega arith))

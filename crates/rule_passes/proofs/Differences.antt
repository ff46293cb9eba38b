-- Differences of natural numbers as integers, and their order by sums. Assumes nothing.
use Prim.Native.Nat.{ℕ, zero, suc, ◌+◌, ◌-◌, ◌*◌, ◌≤◌, ◌<◌}
use mathlib.Core.Path.{◌≡◌, refl, sym}
use mathlib.Core.Bool.{Bool, true, false, cond}
use native.Mathlib.Omega.{arith}
use lib.Dec.{leb, ltb}
use lib.IntN.{ℤ, pos, negsuc, neg_ℤ, sub_ℕ, ◌-ℤ◌, ◌*ℤ◌}
use lib.Signed.{le_z, lt_z}
use borrow.Author.Tests.{leb-true, leb-false, ltb-true, ltb-false, le-leb, lt-leb, lt-ltb, le-ltb}

-- z is x − y
abbrev pub Difference : ℤ → ℕ → ℕ → Type 0
Difference (pos n) x y = x ≡ y + n
Difference (negsuc n) x y = y ≡ suc (x + n)

-- the same by other numbers as far apart
pub moved : (z : ℤ) (x y u v : ℕ) → Difference z x y → x + v ≡ u + y → Difference z u v
moved (pos n) x y u v d e = omega arith
moved (negsuc n) x y u v d e = omega arith

sub_is : (x y : ℕ) → Difference (sub_ℕ x y) x y
sub_is x y = go (ltb x y) refl
  where
    go : (b : Bool) → ltb x y ≡ b → Difference (cond b (negsuc (y - suc x)) (pos (x - y))) x y
    go true e = omega (arith, ltb-true x y e)
    go false e = omega (arith, ltb-false x y e)

neg_is : (k : ℕ) → Difference (neg_ℤ (pos k)) 0 k
neg_is zero = refl
neg_is (suc k) = omega arith

-- a number less
pub minus_is : (z : ℤ) (x y c : ℕ) → Difference z x y → Difference (z -ℤ pos c) x (y + c)
minus_is (pos n) x y zero d = omega arith
minus_is (pos n) x y (suc c) d = moved (sub_ℕ n (suc c)) n (suc c) x (y + suc c) (sub_is n (suc c)) (omega arith)
minus_is (negsuc n) x y zero d = moved (sub_ℕ 0 (suc n)) 0 (suc n) x (y + 0) (sub_is 0 (suc n)) (omega arith)
minus_is (negsuc n) x y (suc c) d = omega arith

-- of two numbers
pub of_two : (x y : ℕ) → Difference (pos x -ℤ pos y) x y
of_two x y = moved (pos x -ℤ pos y) x (0 + y) x y (minus_is (pos x) x 0 y (omega arith)) (omega arith)

-- twice as much
pub twice-is : (z : ℤ) (x y : ℕ) → Difference z x y → Difference (pos 2 *ℤ z) (2 * x) (2 * y)
twice-is (pos n) x y d = omega arith
twice-is (negsuc n) x y d = moved (neg_ℤ (pos (2 * suc n))) 0 (2 * suc n) (2 * x) (2 * y) (neg_is (2 * suc n)) (omega arith)

-- ---- order

-- two tests that say the same
pub same-le : (a b c d : ℕ) → (a ≤ b → c ≤ d) → (b < a → d < c) → leb a b ≡ leb c d
same-le a b c d f g = go (leb a b) refl
  where
    go : (r : Bool) → leb a b ≡ r → r ≡ leb c d
    go true e = sym (le-leb c d (f (leb-true a b e)))
    go false e = sym (lt-leb c d (g (leb-false a b e)))

pub same-lt : (a b c d : ℕ) → (a < b → c < d) → (b ≤ a → d ≤ c) → ltb a b ≡ ltb c d
same-lt a b c d f g = go (ltb a b) refl
  where
    go : (r : Bool) → ltb a b ≡ r → r ≡ ltb c d
    go true e = sym (lt-ltb c d (f (ltb-true a b e)))
    go false e = sym (le-ltb c d (g (ltb-false a b e)))

-- a difference is at least m
pub least-is : (m : ℕ) (z : ℤ) (x y : ℕ) → Difference z x y → le_z (pos m) z ≡ leb (y + m) x
least-is m (pos n) x y d = same-le m n (y + m) x (λ h. omega arith) (λ h. omega arith)
least-is m (negsuc n) x y d = sym (lt-leb (y + m) x (omega arith))

-- a difference is less than another
pub less-is : (z w : ℤ) (x y u v : ℕ) → Difference z x y → Difference w u v → lt_z z w ≡ ltb (x + v) (u + y)
less-is (pos n) (pos k) x y u v d e = same-lt n k (x + v) (u + y) (λ h. omega arith) (λ h. omega arith)
less-is (pos n) (negsuc k) x y u v d e = sym (le-ltb (x + v) (u + y) (omega arith))
less-is (negsuc n) (pos k) x y u v d e = sym (lt-ltb (x + v) (u + y) (omega arith))
less-is (negsuc n) (negsuc k) x y u v d e = same-lt k n (x + v) (u + y) (λ h. omega arith) (λ h. omega arith)

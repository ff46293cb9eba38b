-- Exact fractions meet the laws of a commutative ring in which a whole number that is not 0 has a reciprocal. Assumes nothing.
use Prim.Native.Nat.{ℕ, zero, suc, ◌+◌, ◌*◌, ◌<◌}
use mathlib.Core.Path.{◌≡◌, refl, sym, ap}
use mathlib.Core.HLevel.{is_prop→PathP}
use native.Mathlib.Bridge.{le_prop}
use native.Mathlib.Nat.{mul_comm, mul_assoc, mul_left_comm, mul-add, add-mul, mul-one, one-mul, mul-zero, zero-mul, add_comm, add_assoc, add_left_comm, add-zero, zero-add, eq_of_mul-eq-mul_left}
use native.Mathlib.Omega.{arith}
use Rattle.smoothing.specs.Fractions.{Fraction, ◌≈◌, whole_q, reciprocal_q, plus_q, minus_q, times_q, ◌÷◌}

-- the laws of sums and products, which put both sides of an equation into one order
ruleset sorted = (mul-add, add-mul, mul_assoc, mul_comm, mul_left_comm, add_assoc, add_comm, add_left_comm)

ruleset small = (mul-one, one-mul, mul-zero, zero-mul, add-zero, zero-add)

-- fractions of equal parts are one
same : {a b : Fraction} → a.above ≡ b.above → a.below ≡ b.below → a.under ≡ b.under → a ≡ b
same {a} {b} p q r =
    λ i. record {
      above = p i;
      below = q i;
      under = r i;
      positive = is_prop→PathP (λ i. 0 < r i) (λ i. le_prop) a.positive b.positive i;
    }

-- ---- the parts of a sum, a product, a quotient

plus-above : (a b : Fraction) → (plus_q a b).above ≡ a.above * b.under + b.above * a.under
unfolding plus_q
plus-above a b = refl

plus-below : (a b : Fraction) → (plus_q a b).below ≡ a.below * b.under + b.below * a.under
unfolding plus_q
plus-below a b = refl

plus-under : (a b : Fraction) → (plus_q a b).under ≡ a.under * b.under
unfolding plus_q
plus-under a b = refl

minus-above : (a b : Fraction) → (minus_q a b).above ≡ a.above * b.under + b.below * a.under
unfolding minus_q
minus-above a b = refl

minus-below : (a b : Fraction) → (minus_q a b).below ≡ a.below * b.under + b.above * a.under
unfolding minus_q
minus-below a b = refl

minus-under : (a b : Fraction) → (minus_q a b).under ≡ a.under * b.under
unfolding minus_q
minus-under a b = refl

times_above : (a b : Fraction) → (times_q a b).above ≡ a.above * b.above + a.below * b.below
unfolding times_q
times_above a b = refl

times_below : (a b : Fraction) → (times_q a b).below ≡ a.above * b.below + a.below * b.above
unfolding times_q
times_below a b = refl

times-under : (a b : Fraction) → (times_q a b).under ≡ a.under * b.under
unfolding times_q
times-under a b = refl

over-above : (a : Fraction) (n : ℕ) → (a ÷ suc n).above ≡ a.above
unfolding ◌÷◌
over-above a n = refl

over_below : (a : Fraction) (n : ℕ) → (a ÷ suc n).below ≡ a.below
unfolding ◌÷◌
over_below a n = refl

over-under : (a : Fraction) (n : ℕ) → (a ÷ suc n).under ≡ a.under * suc n
unfolding ◌÷◌
over-under a n = refl

ruleset parts = (plus-above, plus-below, plus-under, minus-above, minus-below, minus-under, times_above, times_below, times-under, over-above, over_below, over-under, sorted)

-- ---- equality

-- a fraction expanded by k is equal to it
pub expanded : {a b : Fraction} (k : ℕ) → b.above ≡ a.above * k → b.below ≡ a.below * k → b.under ≡ a.under * k → a ≈ b
expanded k p q r = record { crosswise = simp (p, q, r) (simp sorted) }

pub ≈-of : {a b : Fraction} → a ≡ b → a ≈ b
≈-of e = record { crosswise = simp e }

pub ≈-sym : {a b : Fraction} → a ≈ b → b ≈ a
≈-sym e = record { crosswise = sym e.crosswise }

pub ≈-trans : {a b c : Fraction} → a ≈ b → b ≈ c → a ≈ c
≈-trans {a} {b} {c} p q =
    let P = simp sorted at (ap (λ t. t * c.under) p.crosswise) in
    let Q = simp sorted at (ap (λ t. t * a.under) q.crosswise) in
    record { crosswise = eq_of_mul-eq-mul_left b.under b.positive _ _ (simp sorted (omega arith)) }

-- different whole numbers differ
pub whole_apart : (m n : ℕ) → whole_q m ≈ whole_q n → m ≡ n
unfolding whole_q
whole_apart m n e = omega (arith, e.crosswise)

-- ---- sums

pub zero-plus : (a : Fraction) → plus_q (whole_q 0) a ≡ a
unfolding plus_q whole_q
zero-plus a = same (simp small) (simp small) (simp small)

pub plus_comm : (a b : Fraction) → plus_q a b ≡ plus_q b a
plus_comm a b = same (simp parts) (simp parts) (simp parts)

pub plus_assoc : (a b c : Fraction) → plus_q (plus_q a b) c ≡ plus_q a (plus_q b c)
plus_assoc a b c = same (simp parts) (simp parts) (simp parts)

-- a difference is what is to be added
pub minus_plus : (a b : Fraction) → plus_q (minus_q a b) b ≈ a
minus_plus a b = record { crosswise = simp parts (omega arith) }

pub plus-respects : {a b : Fraction} (c : Fraction) → a ≈ b → plus_q a c ≈ plus_q b c
plus-respects {a} {b} c p =
    let P = simp sorted at (ap (λ t. t * (c.under * c.under)) p.crosswise) in
    record { crosswise = simp parts (omega arith) }

pub minus-respects : {a b : Fraction} (c : Fraction) → a ≈ b → minus_q a c ≈ minus_q b c
minus-respects {a} {b} c p =
    let P = simp sorted at (ap (λ t. t * (c.under * c.under)) p.crosswise) in
    record { crosswise = simp parts (omega arith) }

pub minus-respects-right : {a b : Fraction} (c : Fraction) → a ≈ b → minus_q c a ≈ minus_q c b
minus-respects-right {a} {b} c p =
    let P = simp sorted at (ap (λ t. t * (c.under * c.under)) p.crosswise) in
    record { crosswise = simp parts (omega arith) }

-- ---- products

pub one-times : (a : Fraction) → times_q (whole_q 1) a ≡ a
unfolding times_q whole_q
one-times a = same (simp small) (simp small) (simp small)

pub times-comm : (a b : Fraction) → times_q a b ≡ times_q b a
times-comm a b = same (simp parts) (simp parts) (simp parts)

pub times-assoc : (a b c : Fraction) → times_q (times_q a b) c ≡ times_q a (times_q b c)
times-assoc a b c = same (simp parts) (simp parts) (simp parts)

pub times-plus : (a b c : Fraction) → times_q a (plus_q b c) ≈ plus_q (times_q a b) (times_q a c)
times-plus a b c = expanded a.under (simp parts) (simp parts) (simp parts)

pub times-respects : {a b : Fraction} (c : Fraction) → a ≈ b → times_q a c ≈ times_q b c
times-respects {a} {b} c p =
    let P = simp sorted at (ap (λ t. t * (c.above * c.under)) p.crosswise) in
    let Q = simp sorted at (ap (λ t. t * (c.below * c.under)) p.crosswise) in
    record { crosswise = simp parts (omega arith) }

-- ---- quotients

-- to multiply by a reciprocal is to divide
pub times-reciprocal : (a : Fraction) (n : ℕ) → 0 < n → times_q a (reciprocal_q n) ≡ a ÷ n
unfolding times_q reciprocal_q ◌÷◌
times-reciprocal a zero h = absurd (omega arith)
times-reciprocal a (suc n) h = same (simp small) (simp small) refl

-- a quotient by n, times n
pub over-times : (a : Fraction) (n : ℕ) → 0 < n → times_q (a ÷ n) (whole_q n) ≈ a
unfolding times_q whole_q ◌÷◌
over-times a zero h = absurd (omega arith)
over-times a (suc n) h = ≈-sym (expanded (suc n) (simp small) (simp small) (simp small))

-- three summands divided one by one
pub over-plus : (a b c : Fraction) (n : ℕ) → 0 < n → plus_q (plus_q a b) c ÷ n ≈ plus_q (plus_q (a ÷ n) (b ÷ n)) (c ÷ n)
over-plus a b c zero h = absurd (omega arith)
over-plus a b c (suc n) h = expanded (suc n * suc n) (simp parts) (simp parts) (simp parts)

-- two summands divided by m each, and then their sum by m
pub over-twice : (a b : Fraction) (m k : ℕ) → suc k ≡ suc m * suc m → plus_q a b ÷ suc k ≈ plus_q (a ÷ suc m) (b ÷ suc m) ÷ suc m
over-twice a b m k e = expanded (suc m) (simp parts) (simp parts) (simp parts (simp (e, sorted)))

-- The place 0.05 × (n − 1) lies between two elements of a list of n. Assumes nothing.
use Prim.Native.Nat.{ℕ, zero, suc, ◌+◌, ◌*◌, ◌/◌, ◌≤◌, ◌<◌, ◌^◌, min, zero-le}
use mathlib.Core.Path.{◌≡◌, refl, sym, subst}
use mathlib.Core.Bool.{Bool, true, false, cond, ◌&&◌}
use native.Mathlib.Omega.{arith}
use lib.IntN.{pos}
use lib.Dec.{T, lt→ltb}
use lib.Ieee.{Float, nan, inf, fin, binary64, mul, sub, add, neg, le, lt, eq, up, down, round, of_int, of_bits, to_unsigned}
use lib.Ieee.Exact.{HasValue}
use lib.Ieee.Back.{round_whole}
use lib.Ieee.Fits.{down_pos}
use lib.Ieee.Order.{round_mono}
use lib.Ieee.Nearest.{div_mono}
use lib.Ieee.Positive.{positive, own_value, positive_of_value, values_of_le, mul_at}
use Rattle.numeric.specs.Num.{zero_f, floor_of, float, twentieth}
use Rattle.points.specs.Points.{◌⊗◌}
use Rattle.rule_sheet.specs.Lent.{limit}
use Rattle.rule_quality.specs.Measure.{fract_of, ceil_of}

-- a whole number of at most 2 ^ 53 is a float's value
whole-value : (n : ℕ) → n ≤ 2 ^ 53 → HasValue (float n) false n 1
unfolding float of_int
whole-value n h = round_whole binary64 false n h

quotient_le : (a d j : ℕ) → 0 < d → a * 1 ≤ j * d → a / d ≤ j
quotient_le a d j p h = let e = div_mono a d j 1 p (omega arith) h in omega arith

least-le : (a m j : ℕ) → a ≤ j → min a m ≤ j
least-le a m j h = omega arith

floor-cut : (x : Float) (j : ℕ) → to_unsigned 64 x ≤ j → floor_of x ≤ j
unfolding floor_of
floor-cut x j = go (le zero_f x && lt x (fin false 1 (pos 64))) (to_unsigned 64 x)
  where
    go : (b : Bool) (a : ℕ) → a ≤ j → cond b a 0 ≤ j
    go true a h = h
    go false a h = zero-le

floor-top : floor_of (inf false) ≡ 0
unfolding floor_of le lt eq of_bits
floor-top = refl

-- the whole part of a value that is at most j
floor-le : (x : Float) (j : ℕ) → 0 < j → j ≤ 2 ^ 53 → T (le x (float j)) → floor_of x ≤ j
unfolding to_unsigned
floor-le nan j p h l = floor-cut nan j zero-le
floor-le (inf true) j p h l = floor-cut (inf true) j zero-le
floor-le (inf false) j p h l = rw floor-top zero-le
floor-le (fin true m e) j p h l = floor-cut (fin true m e) j zero-le
floor-le (fin false zero e) j p h l = floor-cut (fin false zero e) j (least-le _ _ j (quotient_le (zero * up e) (down e) j (down_pos e) (omega arith)))
floor-le (fin false (suc m) e) j p h l =
    let v = whole-value j h in
    let x = fin false (suc m) e in
    let y : T (positive x) = lt→ltb 0 (suc m) (omega arith) in
    let a = values_of_le x (float j) (suc m * up e) (down e) j 1 y (positive_of_value (float j) j 1 v p) (own_value x y) v l in
    floor-cut x j (least-le _ _ j (quotient_le (suc m * up e) (down e) j (down_pos e) a))

-- 0.05 as a fraction
twentieth-value : HasValue twentieth false 7205759403792794 (2 ^ 57)
unfolding of_bits
twentieth-value = (refl, refl)

twentieth-positive : T (positive twentieth)
unfolding of_bits
twentieth-positive = tt

-- 0.05 × k is at most k ÷ 16, rounded up
place-le : (k j : ℕ) → 0 < k → k ≤ limit → k ≤ 16 * j → T (le (twentieth ⊗ float k) (float j))
unfolding float of_int
place-le k j p h l =
    let v = whole-value k (omega arith) in
    let e = mul_at binary64 twentieth (float k) 7205759403792794 (2 ^ 57) k 1 twentieth-positive (positive_of_value (float k) k 1 v p) (omega arith) (omega arith) twentieth-value v in
    subst (λ (x : Float). T (le x (float j))) (sym e) (round_mono binary64 (7205759403792794 * k) (2 ^ 57 * 1) j 1 (omega arith) (omega arith) (omega arith))

ceil-le : (x : Float) → ceil_of x ≤ floor_of x + 1
unfolding ceil_of
ceil-le x = go (lt (of_bits binary64 0) (fract_of x)) (floor_of x)
  where
    go : (b : Bool) (n : ℕ) → cond b (n + 1) n ≤ n + 1
    go true n = omega arith
    go false n = omega arith

place-zero : ceil_of (twentieth ⊗ float 0) ≡ 0
unfolding ceil_of fract_of floor_of mul sub add neg float of_int of_bits le lt eq to_unsigned round
place-zero = refl

floor-zero : floor_of (twentieth ⊗ float 0) ≡ 0
unfolding floor_of mul float of_int of_bits le lt eq to_unsigned round
floor-zero = refl

floor-one : floor_of (twentieth ⊗ float 1) ≡ 0
unfolding floor_of mul float of_int of_bits le lt eq to_unsigned round
floor-one = refl

-- both whole numbers beside the place 0.05 × k are at most k
pub record Beside (k : ℕ) : Type 0 where
  pub low : floor_of (twentieth ⊗ float k) ≤ k
  pub high : ceil_of (twentieth ⊗ float k) ≤ k

pub beside : (k : ℕ) → k < limit → Beside k
beside zero h = record { low = rw floor-zero zero-le; high = rw place-zero zero-le }
beside (suc zero) h = record { low = rw floor-one zero-le; high = let c = ceil-le (twentieth ⊗ float 1) in omega (arith, floor-one) }
beside (suc (suc m)) h =
    let k = suc (suc m) in
    let f = floor-le (twentieth ⊗ float k) ((k + 15) / 16) (omega arith) (omega arith) (place-le k ((k + 15) / 16) (omega arith) (omega arith) (omega arith)) in
    let c = ceil-le (twentieth ⊗ float k) in
    record { low = omega arith; high = omega arith }

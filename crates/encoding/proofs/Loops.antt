-- The bytes of one number as std has them, and the invariant of the loop that puts numbers. Assumes nothing.
use Prim.Native.Nat.{ℕ, zero, suc, ◌+◌, ◌-◌, ◌*◌, ◌/◌, ◌%◌, ◌^◌, ◌≤◌, ◌<◌, zero-le}
use mathlib.Core.Path.{◌≡◌, refl, sym, ap, ◌∙◌}
use mathlib.Core.List.{List, [], ◌∷◌, ◌++◌, append_assoc, append-nil}
use native.Mathlib.Omega.{arith}
use native.Mathlib.Numerals.{add-one, unary_clauses}
use native.Mathlib.Nat.{mul-suc, mul-le-mul_left, div-div-eq-div-mul, div-one}
use lib.ListN.{length, get_or, take, drop, length-append, length-drop, take-append-drop, drop_of_length-le}
use lib.Seq.{take_at, drop_at, drop-drop, take-suc, length-take-le, drop-nil}
use Rattle.std.specs.Int.{byte_at, bytes_low_first}
use borrow.Rule.Slice.PartMut.{put_mid}
use Rattle.lists.specs.Regions.{part}
use Rattle.encoding.specs.Encoding.{little, number}
use Rattle.encoding.specs.Little.{LittleLaws}

-- ---- one number

-- k bytes from byte i upward
low-first : (i k n : ℕ) → bytes_low_first i k n ≡ little k (n / 256 ^ i)
unfolding little
low-first i zero n = refl
low-first i (suc k) n =
    let e : n / 256 ^ i / 256 ≡ n / 256 ^ suc i = simp unary_clauses (div-div-eq-div-mul n (256 ^ i) 256) in
    let b : byte_at i n ≡ n / 256 ^ i % 256 = first i in
    rw (e, b, low-first (suc i) k n)
  where
    first : (i : ℕ) → byte_at i n ≡ n / 256 ^ i % 256
    first zero = omega arith
    first (suc i) = refl

pub low-bytes : (k n : ℕ) → bytes_low_first 0 k n ≡ little k n
low-bytes k n = low-first 0 k n ∙ ap (little k) (div-one n)

-- the number of the bytes from byte i upward
pub number-from : (i : ℕ) (s : List ℕ) → number (drop i s) ≡ get_or s i 0 + 256 * number (drop (suc i) s)
unfolding number
number-from i [] = rw (drop-nil {A = ℕ} i) refl
number-from zero (x ∷ s) = refl
number-from (suc i) (x ∷ s) = number-from i s

pub number-behind : (i : ℕ) (s : List ℕ) → length s ≡ i → number (drop i s) ≡ 0
unfolding number
number-behind i s e = let h : length s ≤ i = omega arith in rw (drop_of_length-le s h) refl

-- ---- a slice with a list in its front, all else as it came

pub record Written {A : Type 0} (p d s : List A) : Type 0 where
  pub fits : length p ≤ length d
  pub is : s ≡ p ++ drop (length p) d

pub written-length : {A : Type 0} {p d s : List A} → Written p d s → length s ≡ length d
written-length {A} {p} {d} {s} W = ap length W.is ∙ length-append p (drop (length p) d) ∙ omega (arith, length-drop (length p) d, W.fits)

-- by the number of elements
pub written_is : {A : Type 0} (n : ℕ) {p d s : List A} → Written p d s → length p ≡ n → s ≡ p ++ drop n d
written_is n W e = rw (← e) W.is

-- the first elements, as they came
pub written_none : {A : Type 0} (at : ℕ) (d : List A) → at ≤ length d → Written (take at d ++ []) d d
written_none {A} at d h =
    let e : length (take at d) ≡ at = length-take-le at d h in
    rw append-nil (record { fits = omega arith; is = rw e (sym (take-append-drop at d)) })

-- the elements of w are put behind p
pub written-more : {A : Type 0} (a m : ℕ) {p d s y : List A} (w : List A) → Written p d s → length p ≡ a → length w ≡ m → a + m ≤ length d
    → y ≡ take a s ++ w ++ drop (a + m) s → Written (p ++ w) d y
written-more {A} a m {p} {d} {s} {y} w W e f h g =
    let i : s ≡ p ++ drop a d = written_is a W e in
    let t : take a s ≡ p = ap (take a) i ∙ take_at p (drop a d) a e in
    let r : drop (a + m) s ≡ drop (a + m) d = sym (drop-drop m a s) ∙ rw (ap (drop a) i ∙ drop_at p (drop a d) a e) (drop-drop m a d) in
    let q : length (p ++ w) ≡ a + m = length-append p w ∙ omega arith in
    record { fits = omega arith; is = rw q (g ∙ rw (t, r)) }

-- a copy over a part of a slice
pub copied : {A : Type 0} (a m : ℕ) (s : List A) {w z : List A} → z ≡ w → put_mid a (a + m - a) s z ≡ take a s ++ w ++ drop (a + m) s
copied a m s e =
    let k : a + m - a ≡ m = omega arith in
    rw (k, e, drop-drop m a s, append_assoc) refl

-- the m elements from a place on, as a part of a slice has them
pub part-same : {A : Type 0} (a m : ℕ) (s : List A) → part a (a + m - a) s ≡ part a m s
part-same a m s = let k : a + m - a ≡ m = omega arith in rw k refl

-- ---- numbers are put one after the other

module _ {A : Type 0} {k : ℕ} {bytes : A → List ℕ} {of_bytes : List ℕ → A} {all_bytes : List A → List ℕ} {all_of : ℕ → List ℕ → List A} (L : LittleLaws k bytes of_bytes all_bytes all_of) where
  all-append : (xs ys : List A) → all_bytes (xs ++ ys) ≡ all_bytes xs ++ all_bytes ys
  all-append [] ys = rw L.none refl
  all-append (x ∷ xs) ys = rw (L.more x (xs ++ ys), L.more x xs, all-append xs ys) (sym (append_assoc (bytes x) (all_bytes xs) (all_bytes ys)))

  all-one : (x : A) → all_bytes (x ∷ []) ≡ bytes x
  all-one x = rw (L.more, L.none) (append-nil (bytes x))

  all-length : (xs : List A) → length (all_bytes xs) ≡ k * length xs
  all-length [] = rw L.none (omega arith)
  all-length (x ∷ xs) = rw (L.more, length-append) (omega (arith, L.long x, all-length xs, mul-suc k (length xs)))

  pub record PuttingAll (at n : ℕ) (v : List A) (d s : List ℕ) (i : ℕ) : Type 0 where
    pub held : n ≤ length v
    pub fits : at + k * n ≤ length d
    pub i≤ : i ≤ n
    pub len : length s ≡ length d
    pub written : Written (take at d ++ all_bytes (take i v)) d s

  all-long : (at i : ℕ) (v : List A) (d : List ℕ) → i ≤ length v → at ≤ length d → length (take at d ++ all_bytes (take i v)) ≡ at + k * i
  all-long at i v d h b =
      let l : length (all_bytes (take i v)) ≡ k * i = all-length (take i v) ∙ rw (length-take-le i v h) in
      length-append (take at d) (all_bytes (take i v)) ∙ rw (length-take-le at d b, l)

  pub all_start : (at n : ℕ) (v : List A) (d : List ℕ) → n ≤ length v → at + k * n ≤ length d → PuttingAll at n v d d 0
  all_start at n v d h f = record { held = h; fits = f; i≤ = zero-le; len = refl; written = rw L.none (written_none at d (omega arith)) }

  pub all-turn : {at n : ℕ} {v : List A} {d s y : List ℕ} {i : ℕ} → (z : A) → PuttingAll at n v d s i → i < n
      → y ≡ take (at + k * i) s ++ bytes (get_or v i z) ++ drop (at + k * i + k) s → PuttingAll at n v d y (i + 1)
  all-turn {at} {n} {v} {d} {s} {y} {i} z P h e =
      let r : at + k * i + k ≤ length d = omega (arith, P.fits, mul-suc k i, mul-le-mul_left k h) in
      let b : i < length v = omega (arith, P.held) in
      let x = get_or v i z in
      let W = written-more (at + k * i) k (bytes x) P.written (all-long at i v d (omega arith) (omega arith)) (L.long x) r e in
      let q : take at d ++ all_bytes (take (i + 1) v) ≡ take at d ++ all_bytes (take i v) ++ bytes x =
      rw (add-one i, take-suc v i z b, all-append, all-one) (sym (append_assoc (take at d) (all_bytes (take i v)) (bytes x))) in
      record { held = P.held; fits = P.fits; i≤ = omega arith; len = written-length W; written = rw q W }

  pub all_end : {at n : ℕ} {v : List A} {d s : List ℕ} {i : ℕ} → PuttingAll at n v d s i → n ≤ i → s ≡ take at d ++ all_bytes (take n v) ++ drop (at + k * n) d
  all_end {at} {n} {v} {d} {s} {i} P h =
      let e : i ≡ n = omega (arith, P.i≤) in
      written_is (at + k * n) (rw e at P.written) (all-long at n v d P.held (omega (arith, P.fits)))

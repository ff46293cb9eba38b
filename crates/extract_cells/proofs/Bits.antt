-- The bits of a number that is made of bits. Assumes nothing.
use Prim.Native.Nat.{ℕ, zero, suc, ◌+◌, ◌-◌, ◌*◌, ◌/◌, ◌%◌, ◌^◌, ◌<◌, ◌≤◌}
use mathlib.Core.Path.{◌≡◌, refl, ap, ◌∙◌}
use mathlib.Core.Bool.{Bool, true, false, not, ◌&&◌, ◌||◌}
use mathlib.Core.Logic.{⊎_elim}
use native.Mathlib.Omega.{arith}
use native.Mathlib.Nat.{pow-suc, add-mul-div_left, div-eq_of_lt, not-suc-le-zero}
use native.Mathlib.Numerals.{add-one}
use lib.Dec.{eqb}
use lib.Pow.{pow_pos, pow-add, pow_mono}
use mir.Val.{bool_byte}
use Rattle.std.proofs.Math.Pow.{shl_exact}
use Rattle.lists.proofs.Laws.{eq-or-ne}
use Rattle.rule_sheet.specs.Quads.{num, pack_to}
use borrow.Author.Tests.{lt-ltb, le-ltb}
use Rattle.rule_extract.specs.Cells.{bit_of, crosses, four_on, pair, parted}
use Rattle.extract_cells.specs.Cells.{kind_bit, kind_of, pair_at, joined_by}

more : (b : Bool) {p q : ℕ} → p < q → p + q * num b < q * 2
more true h = omega arith
more false h = omega arith

-- n bits make a number below 2 ^ n
pub pack-small : (t : ℕ → Bool) (n : ℕ) → pack_to t n < 2 ^ n
unfolding pack_to
pack-small t zero = omega arith
pack-small t (suc n) = rw (pow-suc 2 n) (more (t n) (pack-small t n))

low : (b : Bool) → (0 + num b) % 2 ≡ num b
low true = refl
low false = refl

even : (a r x : ℕ) → (a + 2 * r * x) % 2 ≡ a % 2
even a r x = let e : 2 * r * x ≡ 2 * (r * x) = omega arith in rw e (omega arith)

own-bit : (p q : ℕ) (b : Bool) → p < q → (p + q * num b) / q % 2 ≡ num b
own-bit p q b h = rw (add-mul-div_left p (num b) {y = q} (omega arith), div-eq_of_lt h) (low b)

lower-bit : (p i n : ℕ) (b : Bool) → i < n → (p + 2 ^ n * num b) / 2 ^ i % 2 ≡ p / 2 ^ i % 2
lower-bit p i n b h =
    let k = n - i - 1 in
    let e : n ≡ i + suc k = omega arith in
    let f : 2 ^ n * num b ≡ 2 ^ i * (2 * 2 ^ k * num b) = ap (λ m. 2 ^ m * num b) e ∙ rw (pow-add 2 i (suc k), pow-suc 2 k) (omega arith) in
    rw (f, add-mul-div_left p (2 * 2 ^ k * num b) {y = 2 ^ i} (pow_pos i)) (even (p / 2 ^ i) (2 ^ k) (num b))

bit-num : (t : ℕ → Bool) (n i : ℕ) → i < n → pack_to t n / 2 ^ i % 2 ≡ num (t i)
unfolding pack_to
bit-num t zero i h = absurd (not-suc-le-zero h)
bit-num t (suc n) i h = ⊎_elim
    (λ (e : i ≡ n). rw e (own-bit (pack_to t n) (2 ^ n) (t n) (pack-small t n)))
    (λ (ne : i ≡ n → ⊥). lower-bit (pack_to t n) i n (t n) (omega arith) ∙ bit-num t n i (omega arith))
    (eq-or-ne i n)

is_one : (b : Bool) → eqb (num b) 1 ≡ b
is_one true = refl
is_one false = refl

-- bit i of a number that is made of n bits
pub bit-packed : (t : ℕ → Bool) (n i : ℕ) → i < n → bit_of (pack_to t n) i ≡ t i
unfolding bit_of
bit-packed t n i h = rw (bit-num t n i h) (is_one (t i))

-- ---- the number made bit by bit

-- a bit shifted to its place in 32
shifted : (b : Bool) (i : ℕ) → i < 32 → bool_byte b * 2 ^ i % 2 ^ 32 ≡ 2 ^ i * num b
shifted true i h = shl_exact 1 i 32 (omega arith) (omega arith) ∙ omega arith
shifted false i h = shl_exact 1 i 32 (omega arith) (omega arith) ∙ omega arith

-- one bit more
pub packed-more : (t : ℕ → Bool) {number i k : ℕ} (b : Bool) → number ≡ pack_to t i → i < 32 → b ≡ t i → k ≡ bool_byte b
    → number + k * 2 ^ i % 2 ^ 32 ≡ pack_to t (i + 1)
unfolding pack_to
packed-more t {i = i} b e h f g = rw (add-one i, e, g, f, shifted (t i) i h) refl

-- which the number has room for
pub packed-room : (t : ℕ → Bool) {number i k : ℕ} (b : Bool) → number ≡ pack_to t i → i < 32 → b ≡ t i → k ≡ bool_byte b
    → number + k * 2 ^ i % 2 ^ 32 < 2 ^ 32
packed-room t {i = i} b e h f g =
    let s = pack-small t (i + 1) in
    let l : 2 ^ (i + 1) ≤ 2 ^ 32 = pow_mono {j = 32} (omega arith) in
    rw (packed-more t b e h f g) (omega arith)

-- ---- the bits of a cell's kind

pub kind-edge : (sign : ℕ → Bool) (k e : ℕ) → k ≡ kind_of sign → e < 12 → bit_of k e ≡ crosses sign e
unfolding kind_of kind_bit
kind-edge sign k e q h = rw q (bit-packed (kind_bit sign) 18 e (omega arith) ∙ rw (lt-ltb e 12 h))

pub kind-face : (sign : ℕ → Bool) (k f : ℕ) → k ≡ kind_of sign → f < 6 → bit_of k (12 + f) ≡ four_on sign f
unfolding kind_of kind_bit
kind-face sign k f q h =
    let l : 12 ≤ 12 + f = omega arith in
    let m : 12 + f - 12 ≡ f = omega arith in
    rw q (bit-packed (kind_bit sign) 18 (12 + f) (omega arith) ∙ rw (le-ltb (12 + f) 12 l, m))

-- a pair is joined where the bits of the kind say so
pub joined_by_lem : (sign : ℕ → Bool) (centre : Bool) (t k a b : ℕ) (x y z w : Bool) → t < 36 → k ≡ kind_of sign → a < 12 → b < 12 → pair a b ≡ pair_at t
    → x ≡ bit_of k a → y ≡ bit_of k b → z ≡ bit_of k (12 + t / 6) → w ≡ parted sign centre (pair a b)
    → (x && y && (not z || w)) ≡ joined_by sign centre (t / 6) (pair_at t)
unfolding joined_by
joined_by_lem sign centre t k a b x y z w h q f g e p r s u =
    rw (p ∙ kind-edge sign k a q f, r ∙ kind-edge sign k b q g, s ∙ kind-face sign k (t / 6) q (omega arith), u, ← e) refl

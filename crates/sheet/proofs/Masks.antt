-- The laws of masks. Assumes nothing.
use Prim.Native.Nat.{ℕ, zero, suc, ◌+◌, ◌*◌, ◌/◌, ◌%◌, ◌^◌, ◌≤◌, ◌<◌}
use mathlib.Core.Bool.{Bool, true, false, cond, ◌&&◌, ◌||◌, or-true, or-false, and-false}
use mathlib.Core.List.{List}
use mathlib.Core.Logic.{⊎_elim}
use mathlib.Core.Path.{◌≡◌, refl, sym, ap, ◌∙◌}
use native.Mathlib.Omega.{arith}
use native.Mathlib.Nat.{not-suc-le-zero}
use lib.ListN.{length, get_or, take, replicate, length-replicate, get_or-replicate}
use lib.Dec.{eqb, ltb}
use borrow.Author.Tests.{eq-eqb, ne_eqb, lt-ltb, leb-true, ltb-true}
use Rattle.lists.specs.Sort.{tabulate}
use native.Mathlib.Numerals.{add-one}
use Rattle.lists.proofs.Every.{and_left, and_right, every-at}
use Rattle.lists.proofs.Laws.{eq-or-ne, is-tab, length-tab, get_or-tab, tab-set, tab-ext}
use Rattle.rule_sheet.specs.Quads.{quad, num, pack_to, pack, uses, mask_of, touches}
use Rattle.rule_sheet.specs.Flat.{corner, quad_at, quads_of}
use Rattle.sheet.specs.Flat.{seen, mask_in, Holds}
use Rattle.rule_sheet.specs.Tests.{in_range}
use Rattle.sheet.specs.Tests.{good_quad_at, with_bit, marked}
use Rattle.sheet.proofs.Flat.{touches-suc}
use Rattle.lists.specs.Every.{every}

-- what holds of 0 to 7
pub below8 : (P : ℕ → Type 0) → P 0 → P 1 → P 2 → P 3 → P 4 → P 5 → P 6 → P 7 → (L : ℕ) → L ≤ 7 → P L
below8 P a b c d e f g h zero l = a
below8 P a b c d e f g h (suc zero) l = b
below8 P a b c d e f g h (suc (suc zero)) l = c
below8 P a b c d e f g h (suc (suc (suc zero))) l = d
below8 P a b c d e f g h (suc (suc (suc (suc zero)))) l = e
below8 P a b c d e f g h (suc (suc (suc (suc (suc zero))))) l = f
below8 P a b c d e f g h (suc (suc (suc (suc (suc (suc zero)))))) l = g
below8 P a b c d e f g h (suc (suc (suc (suc (suc (suc (suc zero))))))) l = h
below8 P a b c d e f g h (suc (suc (suc (suc (suc (suc (suc (suc n)))))))) l = absurd (omega arith)

-- a label's bit as the code works it out
pub shl_is : (L : ℕ) → L ≤ 7 → (1 * 2 ^ L) % 2 ^ 32 ≡ 2 ^ L
shl_is = below8 (λ L. (1 * 2 ^ L) % 2 ^ 32 ≡ 2 ^ L) refl refl refl refl refl refl refl refl

pub pow_small : (L : ℕ) → L ≤ 7 → (0 < 2 ^ L) × (2 ^ L ≤ 128)
pow_small = below8 (λ L. (0 < 2 ^ L) × (2 ^ L ≤ 128))
    (omega arith) (omega arith) (omega arith) (omega arith) (omega arith) (omega arith) (omega arith) (omega arith)

num-le : (b : Bool) → num b ≤ 1
num-le true = omega arith
num-le false = omega arith

-- a mask fits a byte
pub pack-lt : (t : ℕ → Bool) → pack t < 256
unfolding pack_to
pack-lt t = omega (arith, num-le (t 0), num-le (t 1), num-le (t 2), num-le (t 3), num-le (t 4), num-le (t 5), num-le (t 6), num-le (t 7))

-- bit L of a mask
pub bit-pack : (t : ℕ → Bool) (L : ℕ) → L ≤ 7 → pack t / 2 ^ L % 2 ≡ num (t L)
unfolding pack_to
bit-pack t =
    let b0 = num-le (t 0) in let b1 = num-le (t 1) in let b2 = num-le (t 2) in let b3 = num-le (t 3) in
    let b4 = num-le (t 4) in let b5 = num-le (t 5) in let b6 = num-le (t 6) in let b7 = num-le (t 7) in
    below8 (λ L. pack t / 2 ^ L % 2 ≡ num (t L))
    (omega arith) (omega arith) (omega arith) (omega arith) (omega arith) (omega arith) (omega arith) (omega arith)

-- ---- a mask with one bit more

pub pack-ext : (t u : ℕ → Bool) (n : ℕ) → ((l : ℕ) → l < n → u l ≡ t l) → pack_to u n ≡ pack_to t n
unfolding pack_to
pack-ext t u zero h = refl
pack-ext t u (suc n) h = rw (pack-ext t u n (λ l b. h l (omega arith)), h n (omega arith))

pub pack-add : (t u : ℕ → Bool) (L n : ℕ) → L < n → ((l : ℕ) → (l ≡ L → ⊥) → u l ≡ t l) → t L ≡ false → u L ≡ true → pack_to u n ≡ pack_to t n + 2 ^ L
unfolding pack_to
pack-add t u L zero b h e f = absurd (not-suc-le-zero b)
pack-add t u L (suc n) b h e f = ⊎_elim
    (λ (q : L ≡ n).
    let below : pack_to u n ≡ pack_to t n = pack-ext t u n (λ l k. h l (λ z. omega arith)) in
    rw (← q, e, f) (rw (q, below) (omega arith)))
    (λ (ne : L ≡ n → ⊥).
    let ih : pack_to u n ≡ pack_to t n + 2 ^ L = pack-add t u L n (omega arith) h e f in
    rw (ih, h n (λ z. ne (sym z))) (omega arith))
    (eq-or-ne L n)

-- t, and L too where e holds
abbrev pub and_label : (ℕ → Bool) → ℕ → Bool → ℕ → Bool
and_label t L e l = t l || (eqb l L && e)

same-label : (t : ℕ → Bool) (L l : ℕ) → l ≡ L → and_label t L true l ≡ true
same-label t L l e = rw (eq-eqb l L e, or-true)

other-label : (t : ℕ → Bool) (L l : ℕ) → (l ≡ L → ⊥) → and_label t L true l ≡ t l
other-label t L l e = rw (ne_eqb l L e, or-false)

go-with : (t : ℕ → Bool) (L : ℕ) → L ≤ 7 → (b : Bool) → t L ≡ b → with_bit (pack t) L ≡ pack (and_label t L true)
unfolding with_bit
go-with t L h true e =
    let f : eqb (pack t / 2 ^ L % 2) 0 ≡ false = rw (bit-pack t L h, e) in
    rw f (sym (pack-ext t (and_label t L true) 8 (λ l _. ⊎_elim
    (λ (q : l ≡ L). same-label t L l q ∙ sym (ap t q ∙ e))
    (λ (ne : l ≡ L → ⊥). other-label t L l ne)
    (eq-or-ne l L))))
go-with t L h false e =
    let f : eqb (pack t / 2 ^ L % 2) 0 ≡ true = rw (bit-pack t L h, e) in
    rw f (sym (pack-add t (and_label t L true) L 8 (omega arith) (λ l ne. other-label t L l ne) e (same-label t L L refl)))

-- setting a bit of a mask
pub with-pack : (t : ℕ → Bool) (L : ℕ) → L ≤ 7 → with_bit (pack t) L ≡ pack (and_label t L true)
with-pack t L h = go-with t L h (t L) refl

-- a mark at point a in the table of masks
pub mark-tab : (t : ℕ → ℕ → Bool) (np a L : ℕ) → a < np → L ≤ 7
    → marked a L (tabulate (λ v. pack (t v)) np) ≡ tabulate (λ v. pack (and_label (t v) L (eqb v a))) np
mark-tab t np a L h l = tab-set (λ v. pack (t v)) (λ v. pack (and_label (t v) L (eqb v a))) np a _ h
    (rw (get_or-tab, eq-eqb a a refl) (sym (with-pack (t a) L l)))
    (λ j _ ne. pack-ext (t j) (and_label (t j) L (eqb j a)) 8 (λ l _. rw (ne_eqb j a ne, and-false, or-false)))

-- ---- the table of masks, and what a mark asks and gives

-- w holds the masks of t, a test of a point and a label
pub record Marks (t : ℕ → ℕ → Bool) (np : ℕ) (w : List ℕ) : Type 0 where
  pub is : w ≡ tabulate (λ v. pack (t v)) np

-- t, and the label L at the point a too
abbrev pub and_at : (ℕ → ℕ → Bool) → ℕ → ℕ → ℕ → ℕ → Bool
and_at t a L v = and_label (t v) L (eqb v a)

pub mark-ready : {t : ℕ → ℕ → Bool} {np : ℕ} {w : List ℕ} (a L x : ℕ) → Marks t np w → x ≡ a → a < np → L ≤ 7 → (x < length w) × ((get_or w x 0 < 256) × (L ≤ 7))
mark-ready {t} {np} {w} a L x M e h l =
    let n : length w ≡ np = ap length M.is ∙ length-tab _ np in
    let g : get_or w a 0 ≡ pack (t a) = rw M.is (get_or-tab _ np a 0 h) in
    rw e (omega arith, (rw g (pack-lt (t a)), l))

pub mark-next : {t : ℕ → ℕ → Bool} {np : ℕ} {w w' : List ℕ} (a L x : ℕ) → Marks t np w → w' ≡ marked x L w → x ≡ a → a < np → L ≤ 7 → Marks (and_at t a L) np w'
mark-next {t} {np} a L x M e q h l = record { is = e ∙ rw (M.is, q) (mark-tab t np a L h l) }

-- what a good quad says of its label and its corners
pub record Good (np : ℕ) (Q labels : List ℕ) (q : ℕ) : Type 0 where
  pub label : get_or labels q 0 ≤ 7
  pub a< : corner Q q 0 < np
  pub b< : corner Q q 1 < np
  pub c< : corner Q q 2 < np
  pub d< : corner Q q 3 < np

pub good-is : (np : ℕ) (Q labels : List ℕ) (q : ℕ) → good_quad_at np Q labels q ≡ true → Good np Q labels q
unfolding in_range
good-is np Q labels q e =
    record {
      label = leb-true _ _ (search (and_left));
      a< = ltb-true _ _ (search (and_left, and_right));
      b< = ltb-true _ _ (search (and_left, and_right));
      c< = ltb-true _ _ (search (and_left, and_right));
      d< = ltb-true _ _ (search (and_left, and_right));
    }

-- ---- four marks are one quad more

eqb-sym : (a b : ℕ) → eqb a b ≡ eqb b a
eqb-sym a b = ⊎_elim
    (λ (e : a ≡ b). eq-eqb a b e ∙ sym (eq-eqb b a (sym e)))
    (λ (n : a ≡ b → ⊥). ne_eqb a b n ∙ sym (ne_eqb b a (λ e. n (sym e))))
    (eq-or-ne a b)

some_of : (a b c d : Bool) → ltb 0 (cond a 1 0 + (cond b 1 0 + (cond c 1 0 + cond d 1 0))) ≡ (a || b || c || d)
some_of true b c d = lt-ltb 0 (1 + (cond b 1 0 + (cond c 1 0 + cond d 1 0))) (omega arith)
some_of false true c d = lt-ltb 0 (0 + (1 + (cond c 1 0 + cond d 1 0))) (omega arith)
some_of false false true d = lt-ltb 0 (0 + (0 + (1 + cond d 1 0))) (omega arith)
some_of false false false true = refl
some_of false false false false = refl

-- one of the four corners is v
uses-is : (a b c d v : ℕ) → ltb 0 (uses v (quad a b c d)) ≡ (eqb v a || eqb v b || eqb v c || eqb v d)
uses-is a b c d v = rw (eqb-sym v a, eqb-sym v b, eqb-sym v c, eqb-sym v d) (some_of (eqb a v) (eqb b v) (eqb c v) (eqb d v))

plus-is : (x u : ℕ) (e : Bool) → ltb 0 (x + cond e u 0) ≡ (ltb 0 x || (e && ltb 0 u))
plus-is zero u true = let e : 0 + u ≡ u = omega arith in rw e
plus-is zero u false = refl
plus-is (suc x) u e = rw (lt-ltb 0 (suc x + cond e u 0) (omega arith), lt-ltb 0 (suc x) (omega arith))

seen-suc : (Q labels : List ℕ) (n v l : ℕ) → n < length labels → seen Q labels (n + 1) v l ≡ (seen Q labels n v l || (eqb l (get_or labels n 0) && ltb 0 (uses v (quad_at Q n))))
seen-suc Q labels n v l h = rw (add-one n, touches-suc Q labels n v l h, eqb-sym l (get_or labels n 0)) (plus-is (touches (quads_of n Q) (take n labels) v l) (uses v (quad_at Q n)) (eqb (get_or labels n 0) l))

bools : (t e a b c d : Bool) → (t || (e && a) || (e && b) || (e && c) || (e && d)) ≡ (t || (e && (a || b || c || d)))
bools true e a b c d = refl
bools false true a b c d = refl
bools false false a b c d = refl

pub quad-more : (Q labels : List ℕ) (q v l : ℕ) → q < length labels
    → and_at (and_at (and_at (and_at (seen Q labels q) (corner Q q 0) (get_or labels q 0)) (corner Q q 1) (get_or labels q 0)) (corner Q q 2) (get_or labels q 0)) (corner Q q 3) (get_or labels q 0) v l
    ≡ seen Q labels (q + 1) v l
quad-more Q labels q v l h =
    rw (seen-suc Q labels q v l h, uses-is (corner Q q 0) (corner Q q 1) (corner Q q 2) (corner Q q 3) v)
    (bools (seen Q labels q v l) (eqb l (get_or labels q 0)) (eqb v (corner Q q 0)) (eqb v (corner Q q 1)) (eqb v (corner Q q 2)) (eqb v (corner Q q 3)))

pub marks-ext : {t : ℕ → ℕ → Bool} {np : ℕ} {w : List ℕ} (u : ℕ → ℕ → Bool) → Marks t np w → ((v l : ℕ) → t v l ≡ u v l) → w ≡ tabulate (λ v. pack (u v)) np
marks-ext {t} {np} u M h = M.is ∙ tab-ext _ _ np (λ v _. pack-ext (u v) (t v) 8 (λ l _. h v l))

-- no quad, no mask
pub mask-zero : (Q labels : List ℕ) (v : ℕ) → mask_in Q labels 0 v ≡ 0
unfolding pack_to mask_of quads_of tabulate
mask-zero Q labels v = refl

-- ---- what a good mask says of the labels: a clash is a pair of opposite labels

pair : (a b : Bool) → eqb (num a + 2 * num b) 3 ≡ (a && b)
pair true true = refl
pair true false = refl
pair false true = refl
pair false false = refl

module _ (t : ℕ → Bool) where
  pub clash-0 : eqb (pack t % 4) 3 ≡ (t 0 && t 1)
  unfolding pack_to
  clash-0 =
      let e : pack t % 4 ≡ num (t 0) + 2 * num (t 1) = omega (arith, num-le (t 0), num-le (t 1)) in
      rw e (pair (t 0) (t 1))

  pub clash-1 : eqb (pack t / 4 % 4) 3 ≡ (t 2 && t 3)
  unfolding pack_to
  clash-1 =
      let e : pack t / 4 % 4 ≡ num (t 2) + 2 * num (t 3) = omega (arith, num-le (t 0), num-le (t 1), num-le (t 2), num-le (t 3)) in
      rw e (pair (t 2) (t 3))

  pub clash-2 : eqb (pack t / 16 % 4) 3 ≡ (t 4 && t 5)
  unfolding pack_to
  clash-2 =
      let e : pack t / 16 % 4 ≡ num (t 4) + 2 * num (t 5) =
      omega (arith, num-le (t 0), num-le (t 1), num-le (t 2), num-le (t 3), num-le (t 4), num-le (t 5)) in
      rw e (pair (t 4) (t 5))

  pub clash-3 : eqb (pack t / 64 % 4) 3 ≡ (t 6 && t 7)
  unfolding pack_to
  clash-3 =
      let e : pack t / 64 % 4 ≡ num (t 6) + 2 * num (t 7) =
      omega (arith, num-le (t 0), num-le (t 1), num-le (t 2), num-le (t 3), num-le (t 4), num-le (t 5), num-le (t 6), num-le (t 7)) in
      rw e (pair (t 6) (t 7))

-- ---- the corners one by one

-- what the masks hold after the first j corners of quad q
pub used_to : List ℕ → List ℕ → ℕ → ℕ → ℕ → ℕ → Bool
used_to Q labels q zero = seen Q labels q
used_to Q labels q (suc j) = and_at (used_to Q labels q j) (corner Q q j) (get_or labels q 0)

pub corner-below : {np : ℕ} {Q labels : List ℕ} {q : ℕ} → Good np Q labels q → (j : ℕ) → j < 4 → corner Q q j < np
corner-below G zero h = G.a<
corner-below G (suc zero) h = G.b<
corner-below G (suc (suc zero)) h = G.c<
corner-below G (suc (suc (suc zero))) h = G.d<
corner-below G (suc (suc (suc (suc j)))) h = absurd (omega arith)

-- the invariant of the loop over the corners: everything that a turn needs, over bare parameters
pub record Used (Q labels : List ℕ) (q np l : ℕ) (w : List ℕ) (j : ℕ) : Type 0 where
  pub j≤ : j ≤ 4
  pub label : l ≡ get_or labels q 0
  pub label< : q < length labels
  pub good : Good np Q labels q
  pub marks : Marks (used_to Q labels q j) np w

pub used_start : (Q labels : List ℕ) (q np l : ℕ) (w : List ℕ) → l ≡ get_or labels q 0 → q < length labels → good_quad_at np Q labels q ≡ true → w ≡ tabulate (mask_in Q labels q) np → Used Q labels q np l w 0
unfolding used_to mask_of
used_start Q labels q np l w el lt eg e = record { j≤ = omega arith; label = el; label< = lt; good = good-is np Q labels q eg; marks = record { is = e } }

pub used-ready : {Q labels : List ℕ} {q np l : ℕ} {w : List ℕ} {j : ℕ} (x : ℕ) → Used Q labels q np l w j → j < 4 → x ≡ corner Q q j → (x < length w) × ((get_or w x 0 < 256) × (l ≤ 7))
used-ready {j = j} x U h ex = rw U.label (mark-ready _ _ x U.marks ex (corner-below U.good j h) U.good.label)

pub used-next : {Q labels : List ℕ} {q np l : ℕ} {w : List ℕ} {j : ℕ} (w' : List ℕ) (x : ℕ) → Used Q labels q np l w j → j < 4 → x ≡ corner Q q j → w' ≡ marked x l w → Used Q labels q np l w' (j + 1)
unfolding used_to
used-next {j = j} w' x U h ex e = record {
  j≤ = omega arith;
  label = U.label;
  label< = U.label<;
  good = U.good;
  marks = rw (add-one j) (mark-next _ _ x U.marks (rw U.label at e) ex (corner-below U.good j h) U.good.label);
}

pub used_all : {Q labels : List ℕ} {q np l : ℕ} {w : List ℕ} {j : ℕ} → Used Q labels q np l w j → 4 ≤ j → w ≡ tabulate (mask_in Q labels (q + 1)) np
unfolding used_to mask_of
used_all {Q = Q} {labels = labels} {q = q} {j = j} U h =
    let e : j ≡ 4 = omega (arith, U.j≤) in
    marks-ext (seen Q labels (q + 1)) (rw e at U.marks) (λ v l. quad-more Q labels q v l U.label<)

-- ---- the quads one by one

-- the masks before the first quad
pub masks-begin : (Q labels w : List ℕ) (np : ℕ) → w ≡ replicate np 0 → w ≡ tabulate (mask_in Q labels 0) np
masks-begin Q labels w np e = is-tab w (mask_in Q labels 0) np (ap length e ∙ length-replicate np 0) (λ v h. rw e (get_or-replicate np v 0 0 h) ∙ sym (mask-zero Q labels v))

-- what the turn of quad q asks
pub record Turn (Q labels w : List ℕ) (q : ℕ) : Type 0 where
  pub quad : 4 * q + 3 < length Q
  pub label : q < length labels
  pub good : good_quad_at (length w) Q labels q ≡ true
  pub masks : w ≡ tabulate (mask_in Q labels q) (length w)

pub masks-turn : (nq np : ℕ) (Q labels w : List ℕ) (q : ℕ) → Holds nq Q labels → every (good_quad_at np Q labels) nq ≡ true → q < nq
    → w ≡ tabulate (mask_in Q labels q) np → (length w ≡ np) × Turn Q labels w q
masks-turn nq np Q labels w q H e h m =
    let l : length w ≡ np = ap length m ∙ length-tab _ np in
    let hq = H.quads in
    let hl = H.labels≤ in
    (l, record { quad = omega arith; label = omega arith; good = rw l (every-at _ nq q e h); masks = rw l m })

-- The counts of corners, and what they add up to. Assumes nothing.
use Prim.Native.Nat.{ℕ, zero, suc, ◌+◌, ◌-◌, ◌*◌, ◌≤◌, ◌<◌, ◌^◌, zero-le}
use mathlib.Core.Path.{◌≡◌, refl, sym, ap, ◌∙◌}
use mathlib.Core.Logic.{⊎_elim}
use mathlib.Core.List.{List, [], ◌∷◌, ◌++◌}
use native.Mathlib.Omega.{arith}
use native.Mathlib.Numerals.{add-one}
use lib.ListN.{length, get_or, take, drop, set, replicate, take-append-drop}
use lib.Seq.{take-suc, length-take-le}
use Rattle.lists.specs.Sort.{tabulate, itself}
use Rattle.lists.proofs.Laws.{lt-or-le, length-tab, get_or-tab, tab-ext, tab-set, tab-same, always}
use Rattle.rule_sheet.specs.Quads.{Quad, is, sum, valence}
use Rattle.rule_sheet.specs.Flat.{quads_of}
use Rattle.rule_sheet.specs.Lent.{limit}
use Rattle.rule_sheet.specs.Squared.{sq, squared}
use Rattle.rule_sheet.proofs.Sums.{upto, sum-append, sum-tab, upto-ext}
use Rattle.rule_sheet.proofs.Weigh.{is_le, sq-low, sq-high}
use Rattle.rule_sheet.proofs.FirstUse.{is-other}
use Rattle.rule_sheet.proofs.Base.{eqb-self}
use Rattle.sheet.specs.Flat.{from}
use Rattle.sheet.proofs.Flat.{count-upto, valence-flat, length-quads}
use Rattle.job_sum.specs.Steps.{named_in}
use Rattle.job_sum.proofs.Bound.{squared-fits}

-- ---- corners

named_none : (Q : List ℕ) (v : ℕ) → named_in Q 0 v ≡ 0
unfolding named_in
named_none Q v = refl

named-suc : (Q : List ℕ) (i v : ℕ) → named_in Q (i + 1) v ≡ is (get_or Q i 0) v + named_in Q i v
unfolding named_in
named-suc Q i v = rw (add-one i) refl

named-le : (Q : List ℕ) (i v : ℕ) → named_in Q i v ≤ i
unfolding named_in
named-le Q zero v = omega arith
named-le Q (suc i) v = omega (arith, named-le Q i v, is_le (get_or Q i 0) v)

-- the corners at a point are its quads
named-valence : (nq : ℕ) (Q : List ℕ) (v : ℕ) → named_in Q (4 * nq) v ≡ valence (quads_of nq Q) v
unfolding named_in
named-valence nq Q v = all (4 * nq) ∙ sym (valence-flat nq Q v ∙ count-upto (from Q) v (4 * nq))
  where
    all : (n : ℕ) → named_in Q n v ≡ upto n (λ c. is (from Q c) v)
    all zero = refl
    all (suc n) = rw (all n) refl

-- ---- counting them, the first i of n

pub record Counting (Q : List ℕ) (n m : ℕ) (w : List ℕ) (i : ℕ) : Type 0 where
  pub small : n < 2 ^ 32
  pub i≤ : i ≤ n
  pub is : w ≡ tabulate (named_in Q i) m

pub counting-long : {Q : List ℕ} {n m : ℕ} {w : List ℕ} {i : ℕ} → Counting Q n m w i → length w ≡ m
counting-long {Q} {n} {m} {w} {i} C = ap length C.is ∙ length-tab (named_in Q i) m

pub counting-start : (Q : List ℕ) (n : ℕ) (w : List ℕ) → n < 2 ^ 32 → w ≡ replicate (length w) 0 → Counting Q n (length w) w 0
counting-start Q n w h e = record {
  small = h;
  i≤ = zero-le;
  is = e ∙ sym (tab-ext (named_in Q 0) (always 0) (length w) (λ v _. named_none Q v) ∙ tab-same 0 (length w));
}

-- what stands at a point
counted : {Q : List ℕ} {n m : ℕ} {w : List ℕ} {i : ℕ} (v : ℕ) → Counting Q n m w i → v < length w → get_or w v 0 ≡ named_in Q i v
counted {Q} {n} {m} {w} {i} v C h = let l = counting-long C in ap (λ (x : List ℕ). get_or x v 0) C.is ∙ get_or-tab (named_in Q i) m v 0 (omega arith)

-- nothing stands behind a list
get_d_past : (l : List ℕ) (v : ℕ) → length l ≤ v → get_or l v 0 ≡ 0
get_d_past [] v h = refl
get_d_past (x ∷ l) zero h = absurd (omega arith)
get_d_past (x ∷ l) (suc v) h = get_d_past l v (omega arith)

pub set_past : (l : List ℕ) (v x : ℕ) → length l ≤ v → set l v x ≡ l
set_past [] v x h = refl
set_past (y ∷ l) zero x h = absurd (omega arith)
set_past (y ∷ l) (suc v) x h = ap (λ (k : List ℕ). y ∷ k) (set_past l v x (omega arith))

pub counting-room : {Q : List ℕ} {n m : ℕ} {w : List ℕ} {i : ℕ} (v : ℕ) → Counting Q n m w i → i < n → get_or w v 0 + 1 < 2 ^ 32
counting-room {Q} {n} {m} {w} {i} v C h = ⊎_elim
    (λ (l : v < length w). omega (arith, C.small, counted v C l, named-le Q i v))
    (λ (l : length w ≤ v). omega (arith, get_d_past w v l))
    (lt-or-le v (length w))

-- a corner in range
counting-at : {Q : List ℕ} {n m : ℕ} {w : List ℕ} {i v : ℕ} → Counting Q n m w i → i < n → v ≡ get_or Q i 0 → v < length w
    → Counting Q n m (set w v (get_or w v 0 + 1)) (i + 1)
counting-at {Q} {n} {m} {w} {i} {v} C h e l =
    let k = counting-long C in
    record {
      small = C.small;
      i≤ = omega arith;
      is = ap (λ (x : List ℕ). set x v (get_or w v 0 + 1)) C.is ∙ tab-set (named_in Q i) (named_in Q (i + 1)) m v _ (omega arith)
          (named-suc Q i v ∙ rw (← e, eqb-self v, counted v C l) (omega arith))
          (λ j _ ne. named-suc Q i j ∙ rw (← e, is-other v j (λ z. ne (sym z))) (omega arith));
    }

-- one out of range
counting-past : {Q : List ℕ} {n m : ℕ} {w : List ℕ} {i v : ℕ} → Counting Q n m w i → i < n → v ≡ get_or Q i 0 → length w ≤ v
    → Counting Q n m w (i + 1)
counting-past {Q} {n} {m} {w} {i} {v} C h e l =
    let k = counting-long C in
    record {
      small = C.small;
      i≤ = omega arith;
      is = C.is ∙ tab-ext (named_in Q i) (named_in Q (i + 1)) m (λ j b. sym (named-suc Q i j ∙ rw (← e, is-other v j (λ z. omega arith)) (omega arith)));
    }

pub counting-turn : {Q : List ℕ} {n m : ℕ} {w w' : List ℕ} {i v : ℕ} → Counting Q n m w i → i < n → v ≡ get_or Q i 0 → w' ≡ set w v (get_or w v 0 + 1)
    → Counting Q n m w' (i + 1)
counting-turn {Q} {n} {m} {w} {w'} {i} {v} C h e f = rw f (⊎_elim
    (λ (l : v < length w). counting-at C h e l)
    (λ (l : length w ≤ v). rw (set_past w v (get_or w v 0 + 1) l) (counting-past C h e l))
    (lt-or-le v (length w)))

-- ---- adding their squares, the first i of them

-- how far a number is from 4, squared
pub far_squared : (k r : ℕ) → r ≡ (k - 4) + (4 - k) → r * r ≡ sq k
far_squared k r e = ⊎_elim
    (λ (l : k < 4). let h : r ≡ 4 - k = omega arith in rw h (sq-low k (omega arith)))
    (λ (l : 4 ≤ k). let h : r ≡ k - 4 = omega arith in rw h (sq-high k (omega arith)))
    (lt-or-le k 4)

pub record Adding (l : List ℕ) (s i : ℕ) : Type 0 where
  pub i≤ : i ≤ length l
  pub is : s ≡ sum sq (take i l)

take-le : (i : ℕ) (l : List ℕ) → sum sq (take i l) ≤ sum sq l
take-le i l = let e = ap (sum sq) (take-append-drop i l) in omega (arith, sum-append sq (take i l) (drop i l))

pub adding-turn : {l : List ℕ} {s i r : ℕ} → Adding l s i → i < length l → r ≡ sq (get_or l i 0) → Adding l (s + r) (i + 1)
adding-turn {l} {s} {i} {r} A h e = record {
  i≤ = omega arith;
  is = rw (add-one i, take-suc l i 0 h, sum-append) (omega (arith, A.is));
}

-- the sum so far fits
pub adding-fits : {l : List ℕ} {s i r : ℕ} → Adding l s i → i < length l → r ≡ sq (get_or l i 0) → sum sq l < 2 ^ 64 → s + r < 2 ^ 64
adding-fits {l} {s} {i} {r} A h e f = omega (arith, (adding-turn A h e).is, take-le (i + 1) l)

-- ---- the squared sum

module _ (nq n : ℕ) (Q : List ℕ) where
  -- how many quads each point has
  abbrev quad_counts : List ℕ
  quad_counts = tabulate (named_in Q (4 * nq)) n

  pub squared-counts : sum sq quad_counts ≡ squared n (quads_of nq Q)
  unfolding squared
  squared-counts =
      sum-tab sq (named_in Q (4 * nq)) n
      ∙ upto-ext (λ v. sq (named_in Q (4 * nq) v)) (λ v. sq (valence (quads_of nq Q) v)) n (λ v _. ap sq (named-valence nq Q v))
      ∙ sym (sum-tab (λ v. sq (valence (quads_of nq Q) v)) itself n)

  pub counts-fit : nq ≤ limit → n ≤ limit → sum sq quad_counts < 2 ^ 64
  counts-fit h k = omega (arith, squared-counts, squared-fits n (quads_of nq Q) k (omega (arith, length-quads nq Q)))

-- ---- the slices

-- counts that were zeros, once they are cleared
pub zeros-again : (f : ℕ → ℕ) {v w y : List ℕ} → w ≡ tabulate f (length v) → v ≡ replicate (length v) 0 → y ≡ replicate (length w) 0 → y ≡ v
zeros-again f {v} e z h = let l = ap length e ∙ length-tab f (length v) in h ∙ rw l (sym z)

-- the front of a slice of zeros
take-zeros : (m n : ℕ) → take {A = ℕ} m (replicate n 0) ≡ replicate (length (take {A = ℕ} m (replicate n 0))) 0
take-zeros zero n = refl
take-zeros (suc m) zero = refl
take-zeros (suc m) (suc n) = ap (λ (l : List ℕ). 0 ∷ l) (take-zeros m n)

pub front-zeros : (m : ℕ) (w : List ℕ) → w ≡ replicate (length w) 0 → take m w ≡ replicate (length (take m w)) 0
front-zeros m w e = let t = take-zeros m (length w) in rw (← e) at t

-- what is said of the front is said of the slice
pub front-sum : (n : ℕ) (w : List ℕ) (S : List Quad) {r : ℕ} → n ≤ length w → r ≡ squared (length (take n w)) S → r ≡ squared n S
front-sum n w S h e = let l = length-take-le n w h in rw l at e

pub front_kept : (n : ℕ) (w : List ℕ) {y : List ℕ} → y ≡ take n w → y ++ drop n w ≡ w
front_kept n w e = rw e (take-append-drop n w)

-- Sums over the corners of quads are sums over the corners of the flat list. Assumes nothing.
use Prim.Native.Nat.{ℕ, zero, suc, ◌+◌, ◌*◌, ◌/◌, ◌%◌, ◌<◌}
use mathlib.Core.Path.{◌≡◌, refl, sym, ap, ◌∙◌}
use mathlib.Core.Bool.{Bool, true, false, cond}
use mathlib.Core.List.{List, [], ◌∷◌, ◌++◌}
use native.Mathlib.Omega.{arith}
use lib.ListN.{length, get_or, take, length-append}
use lib.Seq.{take-suc, length-take-le}
use lib.Dec.{eqb}
use Rattle.lists.specs.Sort.{tabulate, bucket, cons_if, itself}
use Rattle.lists.specs.Steps.{count_of}
use Rattle.lists.proofs.Laws.{tab-suc, length-tab, bucket-append}
use Rattle.rule_sheet.specs.Quads.{Quad, num, is, corners, total, at, uses, valence, label_sum, touches}
use Rattle.rule_sheet.specs.Flat.{quad_at, quads_of}
use Rattle.sheet.specs.Flat.{from, before, to}
use Rattle.rule_sheet.proofs.Sums.{upto, sum-tab, upto-ext}

-- four at a time
upto-four : (f : ℕ → ℕ) (n : ℕ) → upto (4 * n) f ≡ upto n (λ q. f (4 * q) + (f (4 * q + 1) + (f (4 * q + 2) + f (4 * q + 3))))
upto-four f zero = refl
upto-four f (suc n) =
    let e : 4 * suc n ≡ suc (suc (suc (suc (4 * n)))) = omega arith in
    let a : f (suc (4 * n)) ≡ f (4 * n + 1) = ap f (omega arith) in
    let b : f (suc (suc (4 * n))) ≡ f (4 * n + 2) = ap f (omega arith) in
    let c : f (suc (suc (suc (4 * n)))) ≡ f (4 * n + 3) = ap f (omega arith) in
    rw e (omega (arith, upto-four f n, a, b, c))

module _ (f : ℕ → ℕ → ℕ → ℕ) (Q : List ℕ) where
  -- the weight of corner c
  abbrev pub weight : ℕ → ℕ
  weight c = f (before Q c) (from Q c) (to Q c)

  -- the places of the corners before and after the corner j of quad q
  place : (q i j k : ℕ) → i / 4 * 4 + j % 4 ≡ 4 * q + k → get_or Q (i / 4 * 4 + j % 4) 0 ≡ get_or Q (4 * q + k) 0
  place q i j k e = ap (λ (c : ℕ). get_or Q c 0) e

  quad-weight : (q : ℕ) → corners f (quad_at Q q) ≡ weight (4 * q) + (weight (4 * q + 1) + (weight (4 * q + 2) + weight (4 * q + 3)))
  quad-weight q =
      rw (
        place q (4 * q) (4 * q + 3) 3 (omega arith),
        place q (4 * q) (4 * q + 1) 1 (omega arith),
        place q (4 * q + 1) (4 * q + 1 + 3) 0 (omega arith),
        place q (4 * q + 1) (4 * q + 1 + 1) 2 (omega arith),
        place q (4 * q + 2) (4 * q + 2 + 3) 1 (omega arith),
        place q (4 * q + 2) (4 * q + 2 + 1) 3 (omega arith),
        place q (4 * q + 3) (4 * q + 3 + 3) 2 (omega arith),
        place q (4 * q + 3) (4 * q + 3 + 1) 0 (omega arith),
        zero-place q,
      )
    where
      zero-place : (q : ℕ) → get_or Q (4 * q + 0) 0 ≡ get_or Q (4 * q) 0
      zero-place q = ap (λ (c : ℕ). get_or Q c 0) (omega arith)

  -- a sum over all corners of the first n quads
  pub total-flat : (n : ℕ) → total f (quads_of n Q) ≡ upto (4 * n) weight
  unfolding quads_of
  total-flat n = sum-tab (corners f) (quad_at Q) n ∙ upto-ext _ _ n (λ q _. quad-weight q) ∙ sym (upto-four weight n)

-- ---- the corners of a key, counted

-- how many numbers below n have the key k
pub count-upto : (key : ℕ → ℕ) (k n : ℕ) → count_of key (tabulate itself n) k ≡ upto n (λ c. is (key c) k)
unfolding bucket tabulate
count-upto key k zero = refl
count-upto key k (suc n) = rw (bucket-append key k (tabulate itself n) (n ∷ []), length-append) (omega (arith, count-upto key k n, one (eqb (key n) k)))
  where
    one : (b : Bool) → length (cons_if b n []) ≡ num b
    one true = refl
    one false = refl

-- the quads at v are the corners at v
pub valence-flat : (n : ℕ) (Q : List ℕ) (v : ℕ) → valence (quads_of n Q) v ≡ count_of (from Q) (tabulate itself (4 * n)) v
valence-flat n Q v = total-flat (at v (λ p m. 1)) Q n ∙ upto-ext _ _ (4 * n) (λ c _. pick (eqb (from Q c) v)) ∙ sym (count-upto (from Q) v (4 * n))
  where
    pick : (b : Bool) → cond b 1 0 ≡ num b
    pick true = refl
    pick false = refl

-- ---- one quad more

pub quads-suc : (n : ℕ) (Q : List ℕ) → quads_of (suc n) Q ≡ quads_of n Q ++ (quad_at Q n ∷ [])
unfolding quads_of
quads-suc n Q = tab-suc (quad_at Q) n

pub length-quads : (n : ℕ) (Q : List ℕ) → length (quads_of n Q) ≡ n
unfolding quads_of
length-quads n Q = length-tab (quad_at Q) n

label-append : (f : Quad → ℕ) (l : ℕ) (S : List Quad) (labels : List ℕ) (q : Quad) (k : ℕ) → length S ≡ length labels
    → label_sum f l (S ++ (q ∷ [])) (labels ++ (k ∷ [])) ≡ label_sum f l S labels + cond (eqb k l) (f q) 0
label-append f l [] [] q k e = omega arith
label-append f l [] (x ∷ labels) q k e = absurd (omega arith)
label-append f l (x ∷ S) [] q k e = absurd (omega arith)
label-append f l (x ∷ S) (y ∷ labels) q k e = omega (arith, label-append f l S labels q k (omega arith))

pub touches-suc : (Q labels : List ℕ) (n v l : ℕ) → n < length labels
    → touches (quads_of (suc n) Q) (take (suc n) labels) v l ≡ touches (quads_of n Q) (take n labels) v l + cond (eqb (get_or labels n 0) l) (uses v (quad_at Q n)) 0
touches-suc Q labels n v l h =
    rw (quads-suc n Q, take-suc labels n 0 h) (label-append (uses v) l (quads_of n Q) (take n labels) (quad_at Q n) (get_or labels n 0) (length-quads n Q ∙ sym (length-take-le n labels (omega arith))))

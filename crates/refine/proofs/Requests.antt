-- The requests of a sheet's quads by their places, and the points that they make. Assumes nothing.
use Prim.Native.Nat.{ℕ, zero, suc, ◌+◌, ◌*◌, ◌/◌, ◌%◌, ◌≤◌, ◌<◌}
use mathlib.Core.Path.{◌≡◌, refl, sym, ap, ◌∙◌}
use mathlib.Core.Bool.{Bool, true, false, cond}
use mathlib.Core.List.{List, [], ◌∷◌, ◌++◌, map, append_assoc, append-nil}
use native.Mathlib.Omega.{arith}
use lib.ListN.{length, take}
use lib.Seq.{take-suc}
use lib.Dec.{eqb}
use borrow.Author.Tests.{eq-eqb, ne_eqb}
use Rattle.points.specs.declared.Point.{Point}
use Rattle.points.specs.Points.{point_at}
use Rattle.lists.specs.Sort.{tabulate}
use Rattle.lists.proofs.Laws.{tab-add, map-tab}
use Rattle.rule_sheet.specs.Quads.{Quad, quad, is, sum}
use Rattle.rule_sheet.specs.Flat.{corner, quad_at, quads_of}
use Rattle.rule_sheet.specs.FirstUse.{firsts}
use Rattle.sheet.proofs.Flat.{length-quads}
use Rattle.rule_finer.specs.Finer.{split, four_labels, keys, asked, Request, requests, made}
use Rattle.refine.specs.Finer.{key_of}
use Rattle.refine.specs.Requests.{position_in, key_at, request_at, keys_of, child_at, label_at}

-- ---- the requests in order

requests-snoc : (at : ℕ → Point) (n i : ℕ) (S : List Quad) (q : Quad) → requests at n i (S ++ (q ∷ [])) ≡ requests at n i S ++ requests at n (i + length S) (q ∷ [])
requests-snoc at n i [] (quad a b c d) = let e : i + 0 ≡ i = omega arith in rw e
requests-snoc at n i (quad x y z w ∷ S) q =
    let e : suc i + length S ≡ i + suc (length S) = omega arith in
    rw (requests-snoc at n (suc i) S q, e)

-- five requests for a quad
five : (at : ℕ → Point) (n : ℕ) (Q : List ℕ) (k : ℕ) → tabulate (λ i. request_at at n Q (5 * k + i)) 5 ≡ requests at n k (quad_at Q k ∷ [])
unfolding tabulate key_at position_in
five at n Q k =
    let d : (j : ℕ) → j < 5 → (5 * k + j) / 5 ≡ k = λ j h. omega arith in
    let r : (j : ℕ) → j < 5 → (5 * k + j) % 5 ≡ j = λ j h. omega arith in
    rw (
      d 0 (omega arith),
      r 0 (omega arith),
      d 1 (omega arith),
      r 1 (omega arith),
      d 2 (omega arith),
      r 2 (omega arith),
      d 3 (omega arith),
      r 3 (omega arith),
      d 4 (omega arith),
      r 4 (omega arith),
    )

pub requests-flat : (at : ℕ → Point) (n nq : ℕ) (Q : List ℕ) → requests at n 0 (quads_of nq Q) ≡ tabulate (request_at at n Q) (5 * nq)
unfolding tabulate quads_of
requests-flat at n zero Q = refl
requests-flat at n (suc k) Q =
    let e : 5 * suc k ≡ 5 * k + 5 = omega arith in
    let z : 0 + k ≡ k = omega arith in
    rw (e, tab-add (request_at at n Q) (5 * k) 5, five at n Q k)
    (requests-snoc at n 0 (quads_of k Q) (quad_at Q k) ∙ rw (length-quads k Q, z, requests-flat at n k Q))

pub keys-requests : (at : ℕ → Point) (n i : ℕ) (S : List Quad) → map key_of (requests at n i S) ≡ keys n i S
keys-requests at n i [] = refl
keys-requests at n i (quad a b c d ∷ S) = rw (keys-requests at n (suc i) S)

-- the keys in order
pub keys-flat : (n nq : ℕ) (Q : List ℕ) → keys n 0 (quads_of nq Q) ≡ keys_of n nq Q
keys-flat n nq Q =
    let at : ℕ → Point = point_at [] in
    sym (keys-requests at n 0 (quads_of nq Q)) ∙ ap (map key_of) (requests-flat at n nq Q) ∙ map-tab key_of (request_at at n Q) (5 * nq)

-- ---- the first request of each key

-- the keys of the points that are made are those asked for
pub keys-made : (seen : List ℕ) (l : List Request) → seen ++ map key_of (made seen l) ≡ firsts seen (map key_of l)
keys-made seen [] = append-nil seen
keys-made seen (r ∷ l) = go (eqb (sum (is r.key) seen) 0) (keys-made (seen ++ (r.key ∷ [])) l) (keys-made seen l)
  where
    go : (b : Bool) → (seen ++ (r.key ∷ [])) ++ map key_of (made (seen ++ (r.key ∷ [])) l) ≡ firsts (seen ++ (r.key ∷ [])) (map key_of l)
        → seen ++ map key_of (made seen l) ≡ firsts seen (map key_of l)
        → seen ++ map key_of (cond b (r ∷ made (seen ++ (r.key ∷ [])) l) (made seen l)) ≡ firsts (cond b (seen ++ (r.key ∷ [])) seen) (map key_of l)
    go true p q = sym (append_assoc seen (r.key ∷ []) (map key_of (made (seen ++ (r.key ∷ [])) l))) ∙ p
    go false p q = q

pub asked-made : (at : ℕ → Point) (n : ℕ) (S : List Quad) → map key_of (made [] (requests at n 0 S)) ≡ asked n S
unfolding asked
asked-made at n S = keys-made [] (requests at n 0 S) ∙ ap (firsts []) (keys-requests at n 0 S)

-- one request more
pub made-snoc : (seen : List ℕ) (l : List Request) (r : Request) → made seen (l ++ (r ∷ [])) ≡ made seen l ++ made (firsts seen (map key_of l)) (r ∷ [])
made-snoc seen [] r = refl
made-snoc seen (x ∷ l) r = go (eqb (sum (is x.key) seen) 0) (made-snoc (seen ++ (x.key ∷ [])) l r) (made-snoc seen l r)
  where
    go : (b : Bool) → made (seen ++ (x.key ∷ [])) (l ++ (r ∷ [])) ≡ made (seen ++ (x.key ∷ [])) l ++ made (firsts (seen ++ (x.key ∷ [])) (map key_of l)) (r ∷ [])
        → made seen (l ++ (r ∷ [])) ≡ made seen l ++ made (firsts seen (map key_of l)) (r ∷ [])
        → cond b (x ∷ made (seen ++ (x.key ∷ [])) (l ++ (r ∷ []))) (made seen (l ++ (r ∷ [])))
        ≡ cond b (x ∷ made (seen ++ (x.key ∷ [])) l) (made seen l) ++ made (firsts (cond b (seen ++ (x.key ∷ [])) seen) (map key_of l)) (r ∷ [])
    go true p q = rw p
    go false p q = q

pub made-new : (seen : List ℕ) (r : Request) → sum (is r.key) seen ≡ 0 → made seen (r ∷ []) ≡ r ∷ []
made-new seen r h = rw (eq-eqb (sum (is r.key) seen) 0 h)

pub made-old : (seen : List ℕ) (r : Request) → 0 < sum (is r.key) seen → made seen (r ∷ []) ≡ []
made-old seen r h = rw (ne_eqb (sum (is r.key) seen) 0 (λ e. omega arith))

-- ---- the labels and the quads in order

labels-snoc : (l : List ℕ) (x : ℕ) → four_labels (l ++ (x ∷ [])) ≡ four_labels l ++ (x ∷ x ∷ x ∷ x ∷ [])
labels-snoc [] x = refl
labels-snoc (y ∷ l) x = rw (labels-snoc l x)

pub labels-flat : (n : ℕ) (labels : List ℕ) → n ≤ length labels → four_labels (take n labels) ≡ tabulate (label_at labels) (4 * n)
unfolding tabulate
labels-flat zero labels h = refl
labels-flat (suc k) labels h =
    let e : 4 * suc k ≡ 4 * k + 4 = omega arith in
    let d : (j : ℕ) → j < 4 → (4 * k + j) / 4 ≡ k = λ j b. omega arith in
    rw (e, tab-add (label_at labels) (4 * k) 4, take-suc labels k 0 (omega arith), labels-snoc, labels-flat k labels (omega arith), d 0 (omega arith), d 1 (omega arith), d 2 (omega arith), d 3 (omega arith))

split-snoc : (mid : ℕ → ℕ → ℕ) (cen : ℕ → ℕ) (i : ℕ) (S : List Quad) (q : Quad) → split mid cen i (S ++ (q ∷ [])) ≡ split mid cen i S ++ split mid cen (i + length S) (q ∷ [])
split-snoc mid cen i [] (quad a b c d) = let e : i + 0 ≡ i = omega arith in rw e
split-snoc mid cen i (quad x y z w ∷ S) q =
    let e : suc i + length S ≡ i + suc (length S) = omega arith in
    rw (split-snoc mid cen (suc i) S q, e)

-- N t is the number that mid and cen give to request t of the quads below nq
pub record Numbers (mid : ℕ → ℕ → ℕ) (cen : ℕ → ℕ) (Q : List ℕ) (nq : ℕ) (N : ℕ → ℕ) : Type 0 where
  pub edge : (q j : ℕ) → q < nq → j < 4 → mid (corner Q q j) (corner Q q ((j + 1) % 4)) ≡ N (5 * q + j)
  pub centre : (q : ℕ) → q < nq → cen q ≡ N (5 * q + 4)

four : {mid : ℕ → ℕ → ℕ} {cen : ℕ → ℕ} {Q : List ℕ} {nq : ℕ} {N : ℕ → ℕ} (k : ℕ) → Numbers mid cen Q nq N → k < nq → tabulate (λ i. child_at N Q (4 * k + i)) 4 ≡ split mid cen k (quad_at Q k ∷ [])
unfolding tabulate
four {mid} {cen} {Q} {nq} {N} k R h =
    let d : (j : ℕ) → j < 4 → (4 * k + j) / 4 ≡ k = λ j b. omega arith in
    let r : (j : ℕ) → j < 4 → (4 * k + j) % 4 ≡ j = λ j b. omega arith in
    let e0 : mid (corner Q k 0) (corner Q k 1) ≡ N (5 * k + 0) = R.edge k 0 h (omega arith) in
    let e1 : mid (corner Q k 1) (corner Q k 2) ≡ N (5 * k + 1) = R.edge k 1 h (omega arith) in
    let e2 : mid (corner Q k 2) (corner Q k 3) ≡ N (5 * k + 2) = R.edge k 2 h (omega arith) in
    let e3 : mid (corner Q k 3) (corner Q k 0) ≡ N (5 * k + 3) = R.edge k 3 h (omega arith) in
    rw (
      e0,
      e1,
      e2,
      e3,
      R.centre k h,
      d 0 (omega arith),
      r 0 (omega arith),
      d 1 (omega arith),
      r 1 (omega arith),
      d 2 (omega arith),
      r 2 (omega arith),
      d 3 (omega arith),
      r 3 (omega arith),
    )

pub split-flat : {mid : ℕ → ℕ → ℕ} {cen : ℕ → ℕ} {Q : List ℕ} {nq : ℕ} {N : ℕ → ℕ} (k : ℕ) → Numbers mid cen Q nq N → k ≤ nq → split mid cen 0 (quads_of k Q) ≡ tabulate (child_at N Q) (4 * k)
unfolding tabulate quads_of
split-flat zero R h = refl
split-flat {mid} {cen} {Q} {nq} {N} (suc k) R h =
    let e : 4 * suc k ≡ 4 * k + 4 = omega arith in
    let z : 0 + k ≡ k = omega arith in
    rw (e, tab-add (child_at N Q) (4 * k) 4, four k R (omega arith))
    (split-snoc mid cen 0 (quads_of k Q) (quad_at Q k) ∙ rw (length-quads k Q, z, split-flat k R (omega arith)))

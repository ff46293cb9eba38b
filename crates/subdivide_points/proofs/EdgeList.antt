-- In a sheet whose edges have two quads each, the corners in the order of their edges stand two by two. Assumes nothing.
use Prim.Native.Nat.{ℕ, zero, suc, ◌+◌, ◌*◌, ◌/◌, ◌%◌, ◌≤◌, ◌<◌, min, max}
use mathlib.Core.Path.{◌≡◌, refl, sym, ap, ◌∙◌}
use mathlib.Core.Bool.{Bool, true, false, not, ◌&&◌}
use mathlib.Core.Logic.{⊎_elim}
use mathlib.Core.List.{List, [], ◌∷◌, map, map-append}
use native.Mathlib.Omega.{arith}
use lib.ListN.{length, get_or, length-map}
use lib.Dec.{eqb, ltb}
use borrow.Author.Tests.{eqb-true, ne_eqb, lt-ltb, ltb-true}
use Rattle.lists.specs.Sort.{tabulate, itself, cons_if, bucket, keep}
use Rattle.lists.proofs.Laws.{eq-or-ne, bucket-append, tab-add, keep_append}
use Rattle.lists.proofs.Every.{bool_iff}
use Rattle.rule_sheet.specs.Quads.{all, side, is_edge}
use Rattle.sheet.specs.Flat.{from}
use Rattle.rule_sheet.specs.Flat.{quads_of}
use Rattle.rule_sheet.specs.Edges.{Pair, pair, join_to, join_of, edges_of, is_boundary, is_nonmanifold, boundary_edges, nonmanifold_edges}
use Rattle.sheet.specs.Edges.{smaller, larger, point_corners, edge_corners}
use Rattle.rule_sheet.specs.Tests.{proper}
use Rattle.rule_sheet.proofs.All.{all-get}
use Rattle.incidence.specs.Corners.{Cornered, edge_order}
use Rattle.incidence.proofs.Corners.{edge-order-runs}
use Rattle.edges.proofs.Blocks.{key-smaller, key-larger}
use Rattle.edges.proofs.Sides.{no_loop, length-block}
use Rattle.edges.proofs.AllEdges.{edges-pass, edge-passes, all-and, all_none}
use Rattle.refine.proofs.Edges.{sorted}
use Rattle.rule_finer.specs.Smoothed.{edge_quads, is_paired, paired}
use Rattle.subdivide_points.specs.Steps.{end_at, Ends, other_end}
use Rattle.subdivide_points.proofs.Quads.{quad_of, edge-quads}
use Rattle.subdivide_points.proofs.Joins.{join-list, length-twos, twos-at, others}

-- the pair that stands for one out of range
abbrev pub no_pair : Pair
no_pair = record { low = 0; high = 0 }

-- the two points of an edge differ
edge-rises : (np : ℕ) (nq : ℕ) (Q : List ℕ) (a b : ℕ) → all (proper np) (quads_of nq Q) ≡ true → a ≤ b → 0 < side (quads_of nq Q) a b + side (quads_of nq Q) b a → a < b
edge-rises np nq Q a b good h pos = ⊎_elim
    (λ (e : a ≡ b).
    let p : 0 < side (quads_of nq Q) b b + side (quads_of nq Q) b b = rw e at pos in
    absurd (omega (arith, no_loop np (quads_of nq Q) b good)))
    (λ (ne : a ≡ b → ⊥). omega arith)
    (eq-or-ne a b)

-- the quads of an edge are those up and down it
length-quads-at : (nq : ℕ) (Q : List ℕ) (a b : ℕ) → a < b → length (edge_quads (quads_of nq Q) a b) ≡ side (quads_of nq Q) a b + side (quads_of nq Q) b a
length-quads-at nq Q a b h =
    let lo : min a b ≡ a = omega arith in
    let hi : max a b ≡ b = omega arith in
    rw (edge-quads nq Q a b h) (length-map (edge_corners Q nq (pair a b)) quad_of ∙ rw (lo, hi) (length-block nq Q a b h))

-- ---- every edge has two quads exactly if none has one or more than two

two_is : (m : ℕ) → 0 < m → eqb m 2 ≡ (not (eqb m 1) && not (ltb 2 m))
two_is zero h = absurd (omega arith)
two_is (suc zero) h = refl
two_is (suc (suc zero)) h = refl
two_is (suc (suc (suc m))) h = ne_eqb (suc (suc (suc m))) 2 (λ e. omega arith) ∙ rw (lt-ltb 2 (suc (suc (suc m))) (omega arith)) (no (not (eqb (suc (suc (suc m))) 1)))
  where
    no : (b : Bool) → false ≡ (b && false)
    no true = refl
    no false = refl

module _ (np nq : ℕ) (Q : List ℕ) (good : all (proper np) (quads_of nq Q) ≡ true) where
  abbrev neither : Pair → Bool
  neither e = not (is_boundary (quads_of nq Q) e) && not (is_nonmanifold (quads_of nq Q) e)

  at_edge : (a b : ℕ) → a ≤ b → 0 < side (quads_of nq Q) a b + side (quads_of nq Q) b a → is_paired (quads_of nq Q) (pair a b) ≡ neither (pair a b)
  at_edge a b h pos =
      let lo : min a b ≡ a = omega arith in
      let hi : max a b ≡ b = omega arith in
      rw (lo, hi, length-quads-at nq Q a b (edge-rises np nq Q a b good h pos)) (two_is (side (quads_of nq Q) a b + side (quads_of nq Q) b a) pos)

  pub paired-counts : paired np (quads_of nq Q) ≡ (eqb (boundary_edges np (quads_of nq Q)) 0 && eqb (nonmanifold_edges np (quads_of nq Q)) 0)
  unfolding paired boundary_edges nonmanifold_edges
  paired-counts =
      bool_iff (all (is_paired (quads_of nq Q)) (edges_of np (quads_of nq Q))) (all neither (edges_of np (quads_of nq Q)))
      (λ t. edges-pass np (quads_of nq Q) neither (λ a b h k l pos. sym (at_edge a b h pos) ∙ edge-passes np (quads_of nq Q) (is_paired (quads_of nq Q)) t a b h k l pos))
      (λ t. edges-pass np (quads_of nq Q) (is_paired (quads_of nq Q)) (λ a b h k l pos. at_edge a b h pos ∙ edge-passes np (quads_of nq Q) neither t a b h k l pos))
      ∙ all-and (λ e. not (is_boundary (quads_of nq Q) e)) (λ e. not (is_nonmanifold (quads_of nq Q) e)) (edges_of np (quads_of nq Q))
      ∙ rw (all_none (is_boundary (quads_of nq Q)) (edges_of np (quads_of nq Q)), all_none (is_nonmanifold (quads_of nq Q)) (edges_of np (quads_of nq Q)))

-- ---- the corners of edge j are at the places 2 j and 2 j + 1

-- an edge with its two corners
pub record Edge (nq : ℕ) (Q : List ℕ) (e : Pair) : Type 0 where
  pub rises : e.low < e.high
  pub two : length (edge_corners Q nq e) ≡ 2
  pub quads_are : edge_quads (quads_of nq Q) e.low e.high ≡ map quad_of (edge_corners Q nq e)
  pub joined : is_edge (quads_of nq Q) e.low e.high ≡ true

module _ {np nq : ℕ} {Q : List ℕ} (C : Cornered np nq Q) (good : all (proper np) (quads_of nq Q) ≡ true) (pr : paired np (quads_of nq Q) ≡ true) where
  -- edge j
  abbrev pub edge_no : ℕ → Pair
  edge_no j = get_or (edges_of np (quads_of nq Q)) j no_pair

  rising : all (λ e. ltb e.low e.high) (edges_of np (quads_of nq Q)) ≡ true
  rising = edges-pass np (quads_of nq Q) (λ e. ltb e.low e.high) (λ a b h k l pos.
      let r = edge-rises np nq Q a b good h pos in
      let lo : min a b ≡ a = omega arith in
      let hi : max a b ≡ b = omega arith in
      rw (lo, hi) (lt-ltb a b r))

  joining : all (λ e. is_edge (quads_of nq Q) e.low e.high) (edges_of np (quads_of nq Q)) ≡ true
  joining = edges-pass np (quads_of nq Q) (λ e. is_edge (quads_of nq Q) e.low e.high) (λ a b h k l pos.
      let lo : min a b ≡ a = omega arith in
      let hi : max a b ≡ b = omega arith in
      rw (lo, hi) (lt-ltb 0 _ pos))

  edge_in : (j : ℕ) → j < length (edges_of np (quads_of nq Q)) → Edge nq Q (edge_no j)
  unfolding paired
  edge_in j h = go (edge_no j) (ltb-true _ _ (all-get (λ e. ltb e.low e.high) (edges_of np (quads_of nq Q)) j no_pair rising h))
      (eqb-true _ _ (all-get (is_paired (quads_of nq Q)) (edges_of np (quads_of nq Q)) j no_pair pr h))
      (all-get (λ e. is_edge (quads_of nq Q) e.low e.high) (edges_of np (quads_of nq Q)) j no_pair joining h)
    where
      go : (e : Pair) → e.low < e.high → length (edge_quads (quads_of nq Q) e.low e.high) ≡ 2 → is_edge (quads_of nq Q) e.low e.high ≡ true → Edge nq Q e
      go e r t x =
          let lo : min e.low e.high ≡ e.low = omega arith in
          let hi : max e.low e.high ≡ e.high = omega arith in
          let q : edge_quads (quads_of nq Q) e.low e.high ≡ map quad_of (edge_corners Q nq e) = rw (lo, hi) at (edge-quads nq Q e.low e.high r) in
          record { rises = r; two = sym (length-map (edge_corners Q nq e) quad_of) ∙ ap length (sym q) ∙ t; quads_are = q; joined = x }

  edges-many : length (edges_of np (quads_of nq Q)) ≡ 2 * nq
  edges-many = omega (arith, length-twos no_pair 0 (edge_corners Q nq) (edges_of np (quads_of nq Q)) (λ j h. (edge_in j h).two), (sorted C).len, ap length (edge-order-runs np nq Q))

  pub edge_of : (j : ℕ) → j < 2 * nq → Edge nq Q (edge_no j)
  edge_of j h = edge_in j (omega (arith, edges-many))

  -- the two corners of edge j
  pub corner-of : (j t : ℕ) → j < 2 * nq → t < 2 → get_or (edge_order np nq Q) (2 * j + t) 0 ≡ get_or (edge_corners Q nq (edge_no j)) t 0
  corner-of j t h b = ap (λ (l : List ℕ). get_or l (2 * j + t) 0) (edge-order-runs np nq Q)
      ∙ twos-at no_pair 0 (edge_corners Q nq) (edges_of np (quads_of nq Q)) (λ i k. (edge_in i k).two) j t (omega (arith, edges-many)) b

  pub corner-low : (j t : ℕ) → j < 2 * nq → t < 2 → smaller Q (get_or (edge_order np nq Q) (2 * j + t) 0) ≡ (edge_no j).low
  corner-low j t h b = ap (smaller Q) (corner-of j t h b) ∙ key-smaller np nq Q (edge_no j).low (edge_no j).high t (omega (arith, (edge_of j h).two))

  pub corner-high : (j t : ℕ) → j < 2 * nq → t < 2 → larger Q (get_or (edge_order np nq Q) (2 * j + t) 0) ≡ (edge_no j).high
  corner-high j t h b = ap (larger Q) (corner-of j t h b) ∙ key-larger np nq Q (edge_no j).low (edge_no j).high t (omega (arith, (edge_of j h).two))

  end_low : (j : ℕ) → j < 2 * nq → end_at Q (edge_order np nq Q) (2 * j) ≡ (edge_no j).low
  unfolding end_at
  end_low j h =
      let r : 2 * j % 2 ≡ 0 = omega arith in
      let z : 2 * j + 0 ≡ 2 * j = omega arith in
      rw r (rw z at (corner-low j 0 h (omega arith)))

  end-high : (j : ℕ) → j < 2 * nq → end_at Q (edge_order np nq Q) (2 * j + 1) ≡ (edge_no j).high
  unfolding end_at
  end-high j h =
      let r : (2 * j + 1) % 2 ≡ 1 = omega arith in
      rw r (corner-high j 1 h (omega arith))

  -- ---- the ends of the edges by their points

  module _ (H : List ℕ) (ends : Ends nq Q (edge_order np nq Q) H) (t : Pair → Bool) (test : ℕ → Bool)
      (tested : (j : ℕ) → j < 2 * nq → (test (2 * j) ≡ t (edge_no j)) × (test (2 * j + 1) ≡ t (edge_no j))) (v : ℕ) where
    low_end : (j : ℕ) → j < 2 * nq → get_or H (2 * j) 0 ≡ (edge_no j).low
    low_end j h = ends (2 * j) (omega arith) ∙ end_low j h

    high_end : (j : ℕ) → j < 2 * nq → get_or H (2 * j + 1) 0 ≡ (edge_no j).high
    high_end j h = ends (2 * j + 1) (omega arith) ∙ end-high j h

    from_low : (j : ℕ) → j < 2 * nq → other_end H (2 * j) ≡ (edge_no j).high
    unfolding other_end
    from_low j h = let e : 2 * j / 2 * 2 + (2 * j + 1) % 2 ≡ 2 * j + 1 = omega arith in rw e (high_end j h)

    from-high : (j : ℕ) → j < 2 * nq → other_end H (2 * j + 1) ≡ (edge_no j).low
    unfolding other_end
    from-high j h = let e : (2 * j + 1) / 2 * 2 + (2 * j + 1 + 1) % 2 ≡ 2 * j = omega arith in rw e (low_end j h)

    -- the places of one edge
    one : (j : ℕ) → j < 2 * nq → map (other_end H) (keep test (bucket (from H) v ((2 * j) ∷ (2 * j + 1) ∷ []))) ≡ others t v (edge_no j)
    unfolding bucket
    one j h = rw (low_end j h, high_end j h) (go (eqb (edge_no j).low v) (eqb (edge_no j).high v) (t (edge_no j)) (tested j h).0 (tested j h).1)
      where
        go : (a b c : Bool) → test (2 * j) ≡ c → test (2 * j + 1) ≡ c
            → map (other_end H) (keep test (cons_if a (2 * j) (cons_if b (2 * j + 1) []))) ≡ cons_if (a && c) (edge_no j).high (cons_if (b && c) (edge_no j).low [])
        go true true true p q = rw (p, q, from_low j h, from-high j h)
        go true true false p q = rw (p, q)
        go true false true p q = rw (p, from_low j h)
        go true false false p q = rw p
        go false true true p q = rw (q, from-high j h)
        go false true false p q = rw q
        go false false c p q = refl

    pub others-to : (k : ℕ) → k ≤ 2 * nq → map (other_end H) (keep test (bucket (from H) v (tabulate itself (2 * k)))) ≡ join_to (λ j. others t v (edge_no j)) k
    unfolding join_to bucket tabulate
    others-to zero h = refl
    others-to (suc k) h =
        let e : 2 * suc k ≡ 2 * k + 2 = omega arith in
        let z : 2 * k + 0 ≡ 2 * k = omega arith in
        rw (e, tab-add itself (2 * k) 2, z, bucket-append (from H) v (tabulate itself (2 * k)) ((2 * k) ∷ (2 * k + 1) ∷ []), keep_append test (bucket (from H) v (tabulate itself (2 * k))), map-append (other_end H) (keep test (bucket (from H) v (tabulate itself (2 * k)))), others-to k (omega arith), one k (omega arith))

    -- where the edges at v lead, those that pass the test
    pub others-flat : map (other_end H) (keep test (point_corners H nq v)) ≡ join_of (others t v) (edges_of np (quads_of nq Q))
    others-flat =
        let e : 4 * nq ≡ 2 * (2 * nq) = omega arith in
        rw (e, others-to (2 * nq) (omega arith), join-list no_pair (others t v) (edges_of np (quads_of nq Q)), edges-many)

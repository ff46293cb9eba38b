-- The test of the edges says yes exactly if the sheet is closed, and exactly if no edge is counted in the three counts of edges; tight by the counts. Assumes nothing.
use Prim.Native.Nat.{ℕ, ◌+◌, ◌≤◌, ◌<◌}
use mathlib.Core.Path.{◌≡◌, sym, ap₂, ◌∙◌}
use mathlib.Core.Bool.{Bool, true, false, not, ◌&&◌}
use mathlib.Core.Logic.{⊎_elim}
use mathlib.Core.List.{List}
use native.Mathlib.Omega.{arith}
use lib.Dec.{eqb, ltb}
use borrow.Author.Tests.{eqb-true, eq-eqb, ne_eqb, lt-ltb}
use Rattle.lists.proofs.Laws.{eq-or-ne, lt-or-le}
use Rattle.lists.proofs.Every.{and_left, and_right, bool_iff}
use Rattle.rule_sheet.specs.Quads.{Quad, all, side}
use Rattle.rule_sheet.specs.Edges.{Pair, pair, edges_of, up, down, is_boundary, is_nonmanifold, is_turned, boundary_edges, nonmanifold_edges, orientation_errors}
use Rattle.rule_sheet.specs.Closed.{Closed}
use Rattle.rule_sheet.specs.Tests.{proper}
use Rattle.rule_quality.specs.Census.{runs_both_ways, is_closed, bad_links, tight}
use Rattle.edges.specs.Steps.{edge_counts}
use Rattle.edges.proofs.Corners.{pos-split, side-below}
use Rattle.edges.proofs.AllEdges.{pair-low, pair-high, edges-pass, edge-passes, all-and, all_none}
use Rattle.quality_counts.specs.Steps.{closed_by, tight_by}

-- ---- closed

module _ (n : ℕ) (S : List Quad) where
  ordered : (a b : ℕ) → a ≤ b → runs_both_ways S (pair a b) ≡ true → (side S a b ≡ 1) × (side S b a ≡ 1)
  ordered a b h e =
      let f : runs_both_ways S (record { low = a; high = b }) ≡ true = ap₂ (λ x y. runs_both_ways S (record { low = x; high = y })) (sym (pair-low a b h)) (sym (pair-high a b h)) ∙ e in
      (eqb-true _ _ (and_left (eqb (side S a b) 1) (eqb (side S b a) 1) f), eqb-true _ _ (and_right (eqb (side S a b) 1) (eqb (side S b a) 1) f))

  -- the yes of the test says that the sheet is closed
  pub is-closed : all (proper n) S ≡ true → is_closed n S ≡ true → Closed S
  unfolding is_closed Closed
  is-closed good t u v h =
      let b : (u < n) × (v < n) = ⊎_elim
      (λ (k : 0 < side S u v). side-below n S u v good k)
      (λ (k : 0 < side S v u). let q = side-below n S v u good k in (q.1, q.0))
      (pos-split (side S u v) (side S v u) h) in
      ⊎_elim
      (λ (l : u < v). ordered u v (omega arith) (edge-passes n S (runs_both_ways S) t u v (omega arith) b.0 b.1 h))
      (λ (l : v ≤ u). let q = ordered v u l (edge-passes n S (runs_both_ways S) t v u l b.1 b.0 (omega arith)) in (q.1, q.0))
      (lt-or-le u v)

  -- of a closed sheet the test says yes
  pub closed_is : Closed S → is_closed n S ≡ true
  unfolding is_closed Closed
  closed_is c = edges-pass n S (runs_both_ways S) (λ a b h k l pos.
      let e = c a b pos in
      rw (pair-low a b h, pair-high a b h, eq-eqb _ _ e.0, eq-eqb _ _ e.1))

-- ---- closed by the three counts, tight by these and the bad links

-- the three tests of an edge, over the quads up and down it
abbrev three : ℕ → ℕ → Bool
three u d = not (eqb (u + d) 1) && not (ltb 2 (u + d)) && not (eqb (u + d) 2 && not (eqb u 1))

three-is : (u d : ℕ) → 0 < u + d → (eqb u 1 && eqb d 1) ≡ three u d
three-is u d h = ⊎_elim
    (λ (e : u + d ≡ 2). ⊎_elim
    (λ (f : u ≡ 1). rw (e, eq-eqb u 1 f, eq-eqb d 1 (omega arith)))
    (λ (f : u ≡ 1 → ⊥). rw (e, ne_eqb u 1 f))
    (eq-or-ne u 1))
    (λ (n : u + d ≡ 2 → ⊥). not-both (λ a b. n (omega arith)) ∙ ⊎_elim
    (λ (k : 2 < u + d). rw (lt-ltb 2 (u + d) k, ne_eqb (u + d) 1 (λ e. omega arith)))
    (λ (k : u + d ≤ 2). rw (eq-eqb (u + d) 1 (omega arith)))
    (lt-or-le 2 (u + d)))
    (eq-or-ne (u + d) 2)
  where
    not-both : (u ≡ 1 → d ≡ 1 → ⊥) → (eqb u 1 && eqb d 1) ≡ false
    not-both k = ⊎_elim (λ (e : u ≡ 1). rw (eq-eqb u 1 e, ne_eqb d 1 (k e))) (λ (e : u ≡ 1 → ⊥). rw (ne_eqb u 1 e)) (eq-or-ne u 1)

module _ (n : ℕ) (S : List Quad) where
  abbrev three_of : Pair → Bool
  three_of e = three (up S e) (down S e)

  at_edge : (a b : ℕ) → a ≤ b → 0 < side S a b + side S b a → runs_both_ways S (pair a b) ≡ three_of (pair a b)
  at_edge a b h pos = rw (pair-low a b h, pair-high a b h) (three-is (side S a b) (side S b a) pos)

  -- a sheet is closed where three counts are 0
  pub closed-counts : is_closed n S ≡ closed_by (edge_counts n S)
  unfolding is_closed closed_by edge_counts boundary_edges nonmanifold_edges orientation_errors
  closed-counts =
      bool_iff (all (runs_both_ways S) (edges_of n S)) (all three_of (edges_of n S))
      (λ t. edges-pass n S three_of (λ a b h k l pos. sym (at_edge a b h pos) ∙ edge-passes n S (runs_both_ways S) t a b h k l pos))
      (λ t. edges-pass n S (runs_both_ways S) (λ a b h k l pos. at_edge a b h pos ∙ edge-passes n S three_of t a b h k l pos))
      ∙ all-and (λ e. not (is_boundary S e) && not (is_nonmanifold S e)) (λ e. not (is_turned S e)) (edges_of n S)
      ∙ ap₂ ◌&&◌ (all-and (λ e. not (is_boundary S e)) (λ e. not (is_nonmanifold S e)) (edges_of n S) ∙ ap₂ ◌&&◌ (all_none (is_boundary S) (edges_of n S)) (all_none (is_nonmanifold S) (edges_of n S)))
      (all_none (is_turned S) (edges_of n S))

  -- and tight where no link is bad either
  pub tight-counts : tight n S ≡ tight_by (edge_counts n S) (bad_links n S)
  unfolding tight tight_by
  tight-counts = rw closed-counts

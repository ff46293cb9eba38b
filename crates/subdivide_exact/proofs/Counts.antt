-- In a sheet whose edges all have two quads, a point has as many quads as edges. Assumes nothing.
use Prim.Native.Nat.{ℕ, zero, suc, ◌+◌, ◌≤◌, ◌<◌, min, max}
use mathlib.Core.Path.{◌≡◌, refl, ◌∙◌}
use mathlib.Core.Logic.{◌⊎◌, inl, inr, ⊎_elim}
use mathlib.Core.Bool.{Bool, true}
use mathlib.Core.List.{List, [], ◌∷◌}
use native.Mathlib.Omega.{arith}
use lib.ListN.{length, replicate, length-append, length-replicate}
use borrow.Author.Tests.{eqb-true, lt-ltb}
use Rattle.lists.proofs.Laws.{lt-or-le}
use Rattle.rule_sheet.specs.Quads.{Quad, num, is, sum, corners, at, valence, side, is_edge}
use Rattle.rule_sheet.specs.Claims.{Below, Differ, All}
use Rattle.rule_sheet.specs.Sheet.{Sheet}
use Rattle.rule_sheet.proofs.Sums.{upto, upto-ext}
use Rattle.rule_sheet.proofs.Rings.{zero_or}
use Rattle.rule_sheet.proofs.Base.{pos-split}
use Rattle.edges.proofs.AllEdges.{edge-passes}
use Rattle.rule_finer.specs.Smoothed.{those, timed, sides, edge_quads, point_quads, is_paired, paired, neighbours}
use Rattle.safety_rules.proofs.Edges.{length-if, length-join, sides-at, sides-to}
use Rattle.safety_rules.proofs.Numbers.{from_low, to_low}

-- ---- lengths

length-timed : (f : Quad → ℕ) (i : ℕ) (S : List Quad) → length (timed f i S) ≡ sum f S
length-timed f i [] = refl
length-timed f i (q ∷ S) = omega (arith, length-append (replicate (f q) i) (timed f (suc i) S), length-replicate (f q) i, length-timed f (suc i) S)

length-those : (p : ℕ → Bool) (n : ℕ) → length (those p n) ≡ upto n (λ i. num (p i))
unfolding those
length-those p n = length-join _ n ∙ upto-ext _ (λ i. num (p i)) n (λ i l. length-if (p i) i)

-- the quads at a point
pub quads-at : (S : List Quad) (v : ℕ) → length (point_quads S v) ≡ valence S v
unfolding point_quads
quads-at S v = length-timed _ 0 S

-- the quads of an edge go along it from one end or from the other
quads-of : (S : List Quad) (u v : ℕ) → length (edge_quads S u v) ≡ side S u v + side S v u
unfolding edge_quads
quads-of S u v = length-timed (sides u v) 0 S ∙ both (corners (at u (λ p n. is v n))) (corners (at v (λ p n. is u n))) S
  where
    both : (f g : Quad → ℕ) (S : List Quad) → sum (λ q. f q + g q) S ≡ sum f S + sum g S
    both f g [] = refl
    both f g (q ∷ S) = omega (arith, both f g S)

-- ---- pairs

module _ (n : ℕ) (S : List Quad) (below : Below n S) (differ : All Differ S) (pr : paired n S ≡ true) where
  pub edge-low : (u v : ℕ) → 0 < side S u v + side S v u → (u < n) × (v < n)
  edge-low u v h = go (pos-split (side S u v) (side S v u) h)
    where
      go : (0 < side S u v) ⊎ (0 < side S v u) → (u < n) × (v < n)
      go (inl k) = (from_low n S below differ u v k, to_low n S below differ u v k)
      go (inr k) = (to_low n S below differ v u k, from_low n S below differ v u k)

  -- an edge from its smaller point has two quads
  two_up : (u v : ℕ) → u ≤ v → 0 < side S u v + side S v u → length (edge_quads S u v) ≡ 2
  unfolding paired
  two_up u v le h =
      let lo : min u v ≡ u = omega arith in
      let hi : max u v ≡ v = omega arith in
      let l = edge-low u v h in
      rw (lo, hi) at (eqb-true (length (edge_quads S (min u v) (max u v))) 2 (edge-passes n S (is_paired S) pr u v le l.0 l.1 h))

  two-sides : (u v : ℕ) → 0 < side S u v + side S v u → side S u v + side S v u ≡ 2
  two-sides u v h = ⊎_elim
      (λ (l : u < v). omega (arith, quads-of S u v, two_up u v (omega arith) h))
      (λ (l : v ≤ u). omega (arith, quads-of S v u, two_up v u l (omega arith)))
      (lt-or-le u v)

  -- every edge has two quads
  pub two-quads : (u v : ℕ) → 0 < side S u v + side S v u → length (edge_quads S u v) ≡ 2
  two-quads u v h = quads-of S u v ∙ two-sides u v h

  -- the sides between two points, by whether they are an edge
  edge-sides : (u v : ℕ) → side S u v + side S v u ≡ num (is_edge S u v) + num (is_edge S u v)
  edge-sides u v = go (zero_or (side S u v + side S v u))
    where
      go : (side S u v + side S v u ≡ 0) ⊎ (0 < side S u v + side S v u) → side S u v + side S v u ≡ num (is_edge S u v) + num (is_edge S u v)
      go (inl e) = rw e
      go (inr h) = rw (lt-ltb 0 (side S u v + side S v u) h) (omega (arith, two-sides u v h))

-- ---- the quads and the edges at a point

upto-plus : (n : ℕ) (f g : ℕ → ℕ) → upto n (λ i. f i + g i) ≡ upto n f + upto n g
upto-plus zero f g = refl
upto-plus (suc n) f g = omega (arith, upto-plus n f g)

pub as_many : (s : Sheet) → Below (length s.points) s.quads → All Differ s.quads → paired (length s.points) s.quads ≡ true
    → (v : ℕ) → length (neighbours s v) ≡ length (point_quads s.quads v)
unfolding neighbours
as_many s below differ pr v =
    let n = length s.points in
    let S = s.quads in
    let edge : ℕ → ℕ = λ x. num (is_edge S v x) in
    omega (
      arith,
      length-those (is_edge S v) n,
      quads-at S v,
      sides-at n S below v,
      sides-to n S below v,
      upto-plus n (side S v) (λ x. side S x v),
      upto-plus n edge edge,
      upto-ext (λ x. side S v x + side S x v) (λ x. edge x + edge x) n (λ x l. edge-sides n S below differ pr v x),
    )

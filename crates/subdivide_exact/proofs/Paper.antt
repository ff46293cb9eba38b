-- In exact fractions the points that no crease moves are those of Catmull and Clark. Assumes nothing.
use Prim.Native.Nat.{ℕ, ◌+◌, ◌≤◌, ◌<◌, min, max}
use mathlib.Core.Path.{◌≡◌, refl, ◌∙◌, fun_ext}
use mathlib.Core.Logic.{◌⊎◌, inl, inr, ⊎_elim}
use mathlib.Core.Bool.{true, false}
use mathlib.Core.List.{List, [], ◌∷◌, map}
use native.Mathlib.Nat.{add_comm}
use native.Mathlib.Omega.{arith}
use lib.ListN.{length, get_or, length-append, length-map}
use borrow.Author.Tests.{ltb-true, lt-ltb}
use Rattle.lists.proofs.Laws.{lt-or-le, length-tab}
use Rattle.smoothing.specs.Fractions.{Fraction, ◌≈◌, whole_q, exact}
use Rattle.smoothing.specs.CatmullClark.{average, midpoint, new_face_point, new_edge_point, new_vertex_point}
use Rattle.smoothing.proofs.Fractions.{≈-of, zero-plus, plus_comm}
use Rattle.smoothing.proofs.Exact.{face-point, edge-point, vertex-point}
use Rattle.rule_sheet.specs.Quads.{Quad, quad, side}
use Rattle.rule_sheet.specs.Sheet.{Sheet}
use Rattle.rule_finer.specs.Finer.{asked, mid_of, cen_of, split, finer, finer_sheet}
use Rattle.rule_finer.specs.Smoothed.{edge_quads, point_quads, paired, is_crease, neighbours, creases, label_count, centre_with, centre_at, old_point, edge_place, smooth_places, smooth_sheet}
use Rattle.safety_rules.proofs.Fine.{Fine, fine_of}
use Rattle.safety_rules.proofs.Numbers.{covers}
use Rattle.subdivide_exact.specs.Paper.{corners_of, edge_no, quad_no, Source, of_point, of_edge, of_quad, face_at, EdgePoint, FollowsPaper, EverySheet}
use Rattle.subdivide_exact.proofs.Counts.{quads-at, edge-low, two-quads, as_many}
use Rattle.subdivide_exact.proofs.Pairs.{quads-swap, two-of}
use Rattle.subdivide_exact.proofs.Positions.{old-at, centre-at, edge_at}

-- a new edge point is the same from either end
edge-turned : (a b f g : Fraction) → new_edge_point a b f g ≡ new_edge_point b a f g
unfolding new_edge_point midpoint average
edge-turned a b f g = rw (zero-plus a, zero-plus b, plus_comm a b)

module _ (s : Sheet) (at : ℕ → Fraction) where
  abbrev n : ℕ
  n = length s.points

  abbrev S : List Quad
  S = s.quads

  -- the centre of a quad is its new face point
  centre-face : (i : ℕ) → centre_at exact s at i ≡ face_at s at i
  unfolding centre_at
  centre-face i = go (get_or S i (quad 0 0 0 0))
    where
      go : (q : Quad) → centre_with exact at q ≡ new_face_point (map at (corners_of q))
      go (quad a b c d) = face-point (at a) (at b) (at c) (at d)

  -- the point of an edge inside one label
  inside : (u v f g : ℕ) → is_crease s u v ≡ false → edge_quads S u v ≡ f ∷ g ∷ [] → edge_place exact s at u v ≈ new_edge_point (at u) (at v) (face_at s at f) (face_at s at g)
  unfolding edge_place
  inside u v f g c e = rw (c, e, centre-face f, centre-face g) (edge-point (at u) (at v) (face_at s at f) (face_at s at g))

  -- an old point with no crease edge
  old-point : (v : ℕ) → label_count s v ≤ 2 → creases s v ≡ [] → 0 < length (point_quads S v) → 0 < length (neighbours s v)
      → old_point exact s at v ≈ new_vertex_point (at v) (map (face_at s at) (point_quads S v)) (map at (neighbours s v))
  unfolding old_point
  old-point v l c h k =
      rw (c, fun_ext centre-face)
      (vertex-point (label_count s v) (at v) (map (face_at s at) (point_quads S v)) (map at (neighbours s v)) l (rw length-map h) (rw length-map k))

  -- ---- an edge from its other end

  crease-turned : (u v : ℕ) → is_crease s v u ≡ is_crease s u v
  unfolding is_crease
  crease-turned u v = rw (quads-swap S v u, add_comm (side S v u) (side S u v))

  mid-turned : (u v : ℕ) → mid_of n S u v ≡ mid_of n S v u
  unfolding mid_of
  mid-turned u v =
      let lo : min u v ≡ min v u = omega arith in
      let hi : max u v ≡ max v u = omega arith in
      rw (lo, hi)

  turned : (u v : ℕ) → EdgePoint s at v u → EdgePoint s at u v
  turned u v p = record {
    f = p.f;
    g = p.g;
    different = p.different;
    quads = quads-swap S u v ∙ p.quads;
    point = rw (mid-turned u v, edge-turned (at u) (at v)) p.point;
  }

  -- ---- an accepted sheet whose edges have two quads

  module _ (F : Fine s) (pr : paired n S ≡ true) where
    edge-up : (u v : ℕ) → u ≤ v → 0 < side S u v + side S v u → is_crease s u v ≡ false → EdgePoint s at u v
    edge-up u v l h c =
        let t = two-of S F.differ u v (two-quads n S F.in_range F.differ pr u v h) in
        let b = edge-low n S F.in_range F.differ pr u v h in
        record {
          f = t.f;
          g = t.g;
          different = t.different;
          quads = t.quads;
          point = rw (edge_at exact s at (whole_q 0) F.in_range F.differ u v l b.1 h) (inside u v t.f t.g c t.quads);
        }

    -- ---- what the points of the finer sheet come from

    newer : (k : ℕ) → ((u : ℕ) × (v : ℕ) × (0 < side S u v) × (k ≡ mid_of n S u v)) ⊎ ((i : ℕ) × (i < length S) × (k ≡ cen_of n S i)) → Source s k
    newer k (inl (u, v, h, e)) = of_edge u v (lt-ltb 0 (side S u v + side S v u) (omega arith)) e
    newer k (inr (i, h, e)) = of_quad i h e

    places-length : length (smooth_places exact s at) ≡ n + length (asked n S)
    unfolding smooth_places
    places-length = simp (length-append, length-tab, length-map)

    faces : (smooth_sheet s).quads ≡ split (edge_no s) (quad_no s) 0 S
    unfolding smooth_sheet finer_sheet finer
    faces = refl

    follows : FollowsPaper s at
    follows = record {
      sources = λ k h. ⊎_elim (λ (l : k < n). of_point l) (λ (l : n ≤ k). newer k (covers n S F.in_range F.differ k l (omega (arith, places-length)))) (lt-or-le k n);
      face_points = λ i h. ≈-of (centre-at exact s at (whole_q 0) F.in_range F.differ i h ∙ centre-face i);
      edge_points = λ u v e c.
          let h : 0 < side S u v + side S v u = ltb-true 0 _ e in
          ⊎_elim
          (λ (l : u < v). edge-up u v (omega arith) h c)
          (λ (l : v ≤ u). turned u v (edge-up v u l (omega arith) (crease-turned u v ∙ c)))
          (lt-or-le u v);
      vertex_points = λ v h l c.
          let some : 0 < length (point_quads S v) = omega (arith, quads-at S v, F.in_use v h) in
          let same = as_many s F.in_range F.differ pr v in
          record {
            some = some;
            as_many = same;
            point = rw (old-at exact s at (whole_q 0) v h) (old-point v l c some (omega arith));
          };
      new_faces = faces;
    }

-- the theorem
pub catmull-clark : EverySheet
unfolding EverySheet
catmull-clark s at a pr = follows s at (fine_of s a) pr

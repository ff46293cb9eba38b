-- Where the old points come to, by the corners around them and the ends of their edges. Assumes nothing.
use Prim.Native.Nat.{ℕ, zero, suc, ◌+◌, ◌*◌, ◌/◌, ◌%◌, ◌≤◌, ◌<◌, min, max}
use mathlib.Core.Path.{◌≡◌, refl, sym, ap, ◌∙◌}
use mathlib.Core.Bool.{Bool, true, false, not, ◌&&◌}
use mathlib.Core.Logic.{⊎_elim}
use mathlib.Core.List.{List, [], ◌∷◌, ◌++◌, map}
use native.Mathlib.Omega.{arith}
use native.Mathlib.Nat.{zero-add}
use lib.ListN.{get_or, take, get_or-map}
use lib.Seq.{get_or-take}
use lib.Dec.{eqb}
use lib.Ieee.{Float}
use Rattle.points.specs.declared.Point.{Point}
use Rattle.points.specs.Points.{point_at}
use Rattle.lists.specs.Sort.{tabulate, itself, cons_if, keep}
use Rattle.lists.specs.Every.{count_to}
use Rattle.lists.proofs.Laws.{lt-or-le, get_or-tab}
use Rattle.lists.proofs.Order.{Each, each-bucket, below-tab}
use Rattle.rule_sheet.specs.Quads.{Quad, quad, num, all, corners, at, is, is_edge, pack, has_label, mask_of}
use Rattle.rule_sheet.specs.Flat.{corner, quad_at, quads_of}
use Rattle.sheet.specs.Flat.{from}
use Rattle.rule_sheet.specs.Edges.{Pair, pair, join_to}
use Rattle.sheet.specs.Edges.{point_corners, edge_corners}
use Rattle.rule_sheet.specs.Sheet.{Sheet, points_of}
use Rattle.rule_sheet.specs.Tests.{proper}
use Rattle.sheet.proofs.Edges.{join-ext}
use Rattle.sheet.proofs.Masks.{bit-pack}
use Rattle.sheet.proofs.Tests.{length-points}
use Rattle.incidence.specs.Corners.{Cornered, edge_order}
use Rattle.refine.proofs.Edges.{sorted}
use Rattle.rule_finer.specs.Smoothed.{those, timed, sides, edge_quads, point_quads, paired, is_crease, neighbours, creases, label_count, point_of, centre_at, old_point, edge_place, new_place}
use Rattle.rule_sheet.specs.Places.{centre_of}
use Rattle.smoothing.specs.Rounded.{pointwise}
use Rattle.smoothing.proofs.ByPoints.{centre-by}
use Rattle.subdivide_points.specs.Steps.{ones_of, Ends, corner_centre, other_end, crease_at, crease_ends, moved_point, flat_sheet}
use Rattle.subdivide_points.proofs.Quads.{quad_of, num-cond, point-quads}
use Rattle.subdivide_points.proofs.Joins.{others-ascend}
use Rattle.subdivide_points.proofs.EdgeList.{edge_no, edge_of, corner-of, others-flat}

-- ---- the rule at IEEE 754, for the points of a sheet

abbrev pub centre_in : Sheet → ℕ → Point
centre_in s = centre_at pointwise s (point_of s)

abbrev pub old_in : Sheet → ℕ → Point
old_in s = old_point pointwise s (point_of s)

abbrev pub edge_in : Sheet → ℕ → ℕ → Point
edge_in s = edge_place pointwise s (point_of s)

abbrev pub new_in : Sheet → ℕ → Point
new_in s = new_place pointwise s (point_of s)

-- ---- lists

pub map-map : {A B D : Type 0} (f : B → D) (g : A → B) (l : List A) → map f (map g l) ≡ map (λ x. f (g x)) l
map-map f g [] = refl
map-map f g (x ∷ l) = rw (map-map f g l)

pub map-ext : {A B : Type 0} (d : A) (f g : A → B) (l : List A) → Each d (λ x. f x ≡ g x) l → map f l ≡ map g l
map-ext d f g [] h = refl
map-ext d f g (x ∷ l) h =
    let e : f x ≡ g x = h 0 (omega arith) in
    rw (e, map-ext d f g l (λ i b. h (suc i) (omega arith)))

pub each_append : {A : Type 0} (d : A) (P : A → Type 0) (l m : List A) → Each d P l → Each d P m → Each d P (l ++ m)
each_append d P [] m a b i h = b i h
each_append d P (x ∷ l) m a b zero h = a 0 (omega arith)
each_append d P (x ∷ l) m a b (suc i) h = each_append d P l m (λ j k. a (suc j) (omega arith)) b i (omega arith)

-- the numbers below n that pass a test are below n
pub those-below : (p : ℕ → Bool) (m n : ℕ) → n ≤ m → Each 0 (λ x. x < m) (those p n)
unfolding those join_to
those-below p m zero h i l = absurd (omega arith)
those-below p m (suc n) h i l = each_append 0 (λ x. x < m) (those p n) (cons_if (p n) n []) (those-below p m n (omega arith)) (one (p n)) i l
  where
    one : (b : Bool) → Each 0 (λ x. x < m) (cons_if b n [])
    one true zero k = omega arith
    one true (suc j) k = absurd (omega arith)
    one false j k = absurd (omega arith)

keep_all : (l : List ℕ) → keep (λ x. true) l ≡ l
keep_all [] = refl
keep_all (x ∷ l) = rw (keep_all l)

-- ---- the bits of a mask

pub ones-count : (t : ℕ → Bool) → ones_of (pack t) ≡ count_to t 8
unfolding ones_of count_to
ones-count t =
    let z : pack t / 1 ≡ pack t = omega arith in
    let b0 : pack t % 2 ≡ num (t 0) = rw z at (bit-pack t 0 (omega arith)) in
    let b1 : pack t / 2 % 2 ≡ num (t 1) = bit-pack t 1 (omega arith) in
    let b2 : pack t / 4 % 2 ≡ num (t 2) = bit-pack t 2 (omega arith) in
    let b3 : pack t / 8 % 2 ≡ num (t 3) = bit-pack t 3 (omega arith) in
    let b4 : pack t / 16 % 2 ≡ num (t 4) = bit-pack t 4 (omega arith) in
    let b5 : pack t / 32 % 2 ≡ num (t 5) = bit-pack t 5 (omega arith) in
    let b6 : pack t / 64 % 2 ≡ num (t 6) = bit-pack t 6 (omega arith) in
    let b7 : pack t / 128 % 2 ≡ num (t 7) = bit-pack t 7 (omega arith) in
    rw (b0, b1, b2, b3, b4, b5, b6, b7, num-cond (t 0), num-cond (t 1), num-cond (t 2), num-cond (t 3), num-cond (t 4), num-cond (t 5), num-cond (t 6), num-cond (t 7), zero-add (num (t 0)))

-- ---- the quads of an edge, from either end

timed-ext : (f g : Quad → ℕ) (i : ℕ) (S : List Quad) → ((q : Quad) → f q ≡ g q) → timed f i S ≡ timed g i S
timed-ext f g i [] h = refl
timed-ext f g i (q ∷ S) h = rw (h q, timed-ext f g (suc i) S h)

quads-swap : (S : List Quad) (u v : ℕ) → edge_quads S u v ≡ edge_quads S v u
unfolding edge_quads
quads-swap S u v = timed-ext (sides u v) (sides v u) 0 S (λ q. swap (corners (at u (λ p n. is v n)) q) (corners (at v (λ p n. is u n)) q))
  where
    swap : (m n : ℕ) → m + n ≡ n + m
    swap m n = omega arith

-- ---- the sheet in slices

module _ {np nq : ℕ} {Q : List ℕ} (C : Cornered np nq Q) (P : List Float) (labels : List ℕ) where
  pub point_is : (v : ℕ) → v < np → point_of (flat_sheet np nq P Q labels) v ≡ point_at P v
  unfolding points_of
  point_is v h = get_or-tab (point_at P) np v _ h

  pub centre-is : (i : ℕ) → i < nq → centre_of (point_at P) (quad_at Q i) ≡ centre_in (flat_sheet np nq P Q labels) i
  unfolding centre_of centre_at quads_of
  centre-is i h =
      let c : (j : ℕ) → j < 4 → point_of (flat_sheet np nq P Q labels) (corner Q i j) ≡ point_at P (corner Q i j) = λ j b. point_is (corner Q i j) (C.points (4 * i + j) (omega arith)) in
      rw (get_or-tab (quad_at Q) nq i (quad 0 0 0 0) h, c 0 (omega arith), c 1 (omega arith), c 2 (omega arith), c 3 (omega arith), centre-by)

  pub centres-are : (v : ℕ) → map (corner_centre P Q) (point_corners Q nq v) ≡ map (centre_in (flat_sheet np nq P Q labels)) (point_quads (quads_of nq Q) v)
  unfolding corner_centre
  centres-are v =
      rw (point-quads nq Q v, map-map (centre_in (flat_sheet np nq P Q labels)) quad_of (point_corners Q nq v))
      (map-ext 0 _ _ (point_corners Q nq v) (λ i h.
      centre-is (get_or (point_corners Q nq v) i 0 / 4) (low (get_or (point_corners Q nq v) i 0) (each-bucket 0 (λ c. c < 4 * nq) (from Q) v (tabulate itself (4 * nq)) (below-tab (4 * nq)).each i h))))
    where
      low : (c : ℕ) → c < 4 * nq → c / 4 < nq
      low c h = omega arith

  -- the points of the numbers that pass a test
  points-of : (p : ℕ → Bool) → map (point_at P) (those p np) ≡ map (point_of (flat_sheet np nq P Q labels)) (those p np)
  points-of p = map-ext 0 (point_at P) (point_of (flat_sheet np nq P Q labels)) (those p np) (λ i h. sym (point_is (get_or (those p np) i 0) (those-below p np np (omega arith) i h)))

-- ---- neighbours and creases

-- the labels of the two quads of the edge of u and v differ
abbrev pub differ : ℕ → List ℕ → List ℕ → ℕ → ℕ → Bool
differ nq Q labels u v = not (eqb (get_or (take nq labels) (get_or (edge_quads (quads_of nq Q) u v) 0 0) 0) (get_or (take nq labels) (get_or (edge_quads (quads_of nq Q) u v) 1 0) 0))

abbrev pub differ_of : ℕ → List ℕ → List ℕ → Pair → Bool
differ_of nq Q labels e = differ nq Q labels e.low e.high

differ-pair : (nq : ℕ) (Q labels : List ℕ) (u v : ℕ) → differ nq Q labels u v ≡ differ_of nq Q labels (pair u v)
differ-pair nq Q labels u v = ⊎_elim
    (λ (h : u < v).
    let lo : min u v ≡ u = omega arith in
    let hi : max u v ≡ v = omega arith in
    rw (lo, hi))
    (λ (h : v ≤ u).
    let lo : min u v ≡ v = omega arith in
    let hi : max u v ≡ u = omega arith in
    rw (lo, hi, quads-swap (quads_of nq Q) u v))
    (lt-or-le u v)

module _ {np nq : ℕ} {Q : List ℕ} (C : Cornered np nq Q) (good : all (proper np) (quads_of nq Q) ≡ true) (pr : paired np (quads_of nq Q) ≡ true) (P : List Float) (labels : List ℕ) where
  -- a quad of edge j, and its label
  pub quad-of : (j t : ℕ) → j < 2 * nq → t < 2 → get_or (edge_quads (quads_of nq Q) (edge_no C good pr j).low (edge_no C good pr j).high) t 0 ≡ get_or (edge_order np nq Q) (2 * j + t) 0 / 4
  quad-of j t h b = rw ((edge_of C good pr j h).quads_are, corner-of C good pr j t h b) (get_or-map quad_of (edge_corners Q nq (edge_no C good pr j)) t 0)

  pub label_of : (j t : ℕ) → j < 2 * nq → t < 2
      → get_or (take nq labels) (get_or (edge_quads (quads_of nq Q) (edge_no C good pr j).low (edge_no C good pr j).high) t 0) 0 ≡ get_or labels (get_or (edge_order np nq Q) (2 * j + t) 0 / 4) 0
  label_of j t h b =
      let l : get_or (edge_order np nq Q) (2 * j + t) 0 < 4 * nq = (sorted C).below (2 * j + t) (omega arith) in
      rw (quad-of j t h b) (get_or-take nq labels (get_or (edge_order np nq Q) (2 * j + t) 0 / 4) 0 (omega arith))

  crease-is : (j i : ℕ) → j < 2 * nq → i / 2 * 2 ≡ 2 * j → crease_at labels (edge_order np nq Q) i ≡ differ_of nq Q labels (edge_no C good pr j)
  unfolding crease_at
  crease-is j i h e =
      let z : 2 * j + 0 ≡ 2 * j = omega arith in
      rw (e, label_of j 0 h (omega arith), label_of j 1 h (omega arith), z)

  module _ (H : List ℕ) (ends : Ends nq Q (edge_order np nq Q) H) (v : ℕ) (hv : v < np) where
    neighbours-are : map (other_end H) (point_corners H nq v) ≡ neighbours (flat_sheet np nq P Q labels) v
    unfolding neighbours those
    neighbours-are =
        ap (map (other_end H)) (sym (keep_all (point_corners H nq v)))
        ∙ others-flat C good pr H ends (λ e. true) (λ i. true) (λ j h. (refl, refl)) v
        ∙ others-ascend np (quads_of nq Q) (λ e. true) v good hv
        ∙ rw (length-points np P) (join-ext _ _ np (λ x _. rw (yes (is_edge (quads_of nq Q) v x))))
      where
        yes : (b : Bool) → (b && true) ≡ b
        yes true = refl
        yes false = refl

    creases-are : crease_ends labels (edge_order np nq Q) H (point_corners H nq v) ≡ creases (flat_sheet np nq P Q labels) v
    unfolding creases those is_crease
    creases-are =
        others-flat C good pr H ends (differ_of nq Q labels) (crease_at labels (edge_order np nq Q)) (λ j h. (crease-is j (2 * j) h (omega arith), crease-is j (2 * j + 1) h (omega arith))) v
        ∙ others-ascend np (quads_of nq Q) (differ_of nq Q labels) v good hv
        ∙ rw (length-points np P) (join-ext _ _ np (λ x _. rw (differ-pair nq Q labels v x)))

    -- where point v comes to
    pub moved-is : (m : ℕ) → m ≡ mask_of (quads_of nq Q) (take nq labels) v → moved_point nq P Q labels (edge_order np nq Q) H m v ≡ old_in (flat_sheet np nq P Q labels) v
    unfolding moved_point old_point label_count mask_of neighbours creases
    moved-is m e = rw (e, ones-count (has_label (quads_of nq Q) (take nq labels) v), creases-are, neighbours-are, centres-are C P labels v, point_is C P labels v hv, length-points np P, points-of C P labels (is_crease (flat_sheet np nq P Q labels) v), points-of C P labels (is_edge (quads_of nq Q) v))

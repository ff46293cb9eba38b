-- The quads and labels that are drawn pass the tests of a sheet's corners: four different points each, and labels of at most 7. Assumes nothing.
use Prim.Native.Nat.{ℕ, ◌-◌, ◌*◌, ◌<◌}
use mathlib.Core.Path.{◌≡◌, refl, sym, ap}
use mathlib.Core.Bool.{Bool, true, false, cond}
use native.Mathlib.Omega.{arith}
use lib.ListN.{length}
use borrow.Author.Tests.{le-leb}
use Rattle.rule_sheet.specs.Quads.{quad, all}
use Rattle.rule_sheet.specs.Edges.{join_to}
use Rattle.rule_sheet.specs.Tests.{proper, low_label, good_corners}
use Rattle.rule_sheet.proofs.All.{all-if, all-joined}
use Rattle.sheet.proofs.Corners.{Four, four-proper}
use Rattle.rule_extract.specs.declared.Grid.{Grid}
use Rattle.rule_extract.specs.Crossings.{crossing_of, crossed_label}
use Rattle.rule_extract.specs.Lattice.{inside_at}
use Rattle.rule_extract.specs.Drawing.{points_to, place_on, Inner, inner_count, inner_at, inner_site, corner_of, inner_quad, inner_crosses, quad_if, label_if}
use Rattle.extract_points.proofs.Numbers.{sample-low}
use Rattle.extract_points.proofs.DrawnNumbers.{numbers_apart}
use Rattle.extract_quads.specs.Faces.{cell_by, edge_by, DualCell}
use Rattle.extract_paths.proofs.Edges.{below3}
use Rattle.extract_quads.proofs.Dual.{InnerIn, at_inner, dual-cell-complete}

-- ---- the four cells are different

place_same : (axis a b d c e : ℕ) → axis < 3 → place_on axis a b d ≡ place_on axis a c e → (b ≡ c) × (d ≡ e)
unfolding place_on
place_same axis a b d c e = below3 (λ k. place_on k a b d ≡ place_on k a c e → (b ≡ c) × (d ≡ e))
    (λ q. (ap (λ s. s.y) q, ap (λ s. s.z) q))
    (λ q. (ap (λ s. s.z) q, ap (λ s. s.x) q))
    (λ q. (ap (λ s. s.x) q, ap (λ s. s.y) q))
    axis

-- one of the two offsets differs
cells-apart : {n : ℕ} (i : Inner) (u w v z : ℕ) → InnerIn n i → u < 2 → w < 2 → v < 2 → z < 2 → (u ≡ v → w ≡ z → ⊥) → cell_by i u w ≡ cell_by i v z → ⊥
cells-apart i u w v z I h k l m ne q =
    let s = place_same i.axis i.a (i.b - u) (i.d - w) (i.b - v) (i.d - z) I.axis< q in
    ne (omega (arith, s.0, I.b>)) (omega (arith, s.1, I.d>))

corners-apart : (g : Grid) (n : ℕ) (i : Inner) (u w v z : ℕ) → InnerIn n i → u < 2 → w < 2 → v < 2 → z < 2 → (u ≡ v → w ≡ z → ⊥) → DualCell g n i u w → DualCell g n i v z
    → corner_of g n i u w ≡ corner_of g n i v z → ⊥
unfolding corner_of
corners-apart g n i u w v z I h k l m ne C D =
    numbers_apart g n (cell_by i u w) (cell_by i v z) (edge_by i u w) (edge_by i v z) C.within D.within (omega (arith, I.axis<)) (omega (arith, I.axis<)) C.crosses D.crosses
    (cells-apart i u w v z I h k l m ne)

-- ---- a quad of four different points

reversed : {m a b c d : ℕ} → Four m a b c d → Four m d c b a
reversed F = record {
  a< = F.d<;
  b< = F.c<;
  c< = F.b<;
  d< = F.a<;
  ab = λ e. F.cd (sym e);
  ac = λ e. F.bd (sym e);
  ad = λ e. F.ad (sym e);
  bc = λ e. F.bc (sym e);
  bd = λ e. F.ac (sym e);
  cd = λ e. F.ab (sym e);
}

-- ---- the quad of an inner edge

module _ (g : Grid) (n t : ℕ) (h : t < inner_count n) (x : inner_crosses g n t ≡ true) where
  abbrev i : Inner
  i = inner_at n t

  abbrev inner_corner : ℕ → ℕ → ℕ
  inner_corner u w = corner_of g n i u w

  abbrev count : ℕ
  count = length (points_to g n (n * n * n))

  below : (u w : ℕ) → u < 2 → w < 2 → inner_corner u w < count
  below u w p q = (dual-cell-complete g n t u w h x p q).corner

  apart : (u w v z : ℕ) → u < 2 → w < 2 → v < 2 → z < 2 → (u ≡ v → w ≡ z → ⊥) → inner_corner u w ≡ inner_corner v z → ⊥
  apart u w v z a b c d ne = corners-apart g n i u w v z (at_inner n t h) a b c d ne (dual-cell-complete g n t u w h x a b) (dual-cell-complete g n t v z h x c d)

  four : Four count (inner_corner 1 1) (inner_corner 0 1) (inner_corner 0 0) (inner_corner 1 0)
  four = record {
    a< = below 1 1 (omega arith) (omega arith);
    b< = below 0 1 (omega arith) (omega arith);
    c< = below 0 0 (omega arith) (omega arith);
    d< = below 1 0 (omega arith) (omega arith);
    ab = apart 1 1 0 1 (omega arith) (omega arith) (omega arith) (omega arith) (λ e f. omega (arith, e));
    ac = apart 1 1 0 0 (omega arith) (omega arith) (omega arith) (omega arith) (λ e f. omega (arith, e));
    ad = apart 1 1 1 0 (omega arith) (omega arith) (omega arith) (omega arith) (λ e f. omega (arith, f));
    bc = apart 0 1 0 0 (omega arith) (omega arith) (omega arith) (omega arith) (λ e f. omega (arith, f));
    bd = apart 0 1 1 0 (omega arith) (omega arith) (omega arith) (omega arith) (λ e f. omega (arith, e));
    cd = apart 0 0 1 0 (omega arith) (omega arith) (omega arith) (omega arith) (λ e f. omega (arith, e));
  }

  quad-proper : proper count (inner_quad g n i) ≡ true
  unfolding inner_quad
  quad-proper = by (inside_at g (inner_site i))
    where
      by : (b : Bool) → proper count (cond b (quad (inner_corner 1 1) (inner_corner 0 1) (inner_corner 0 0) (inner_corner 1 0)) (quad (inner_corner 1 0) (inner_corner 0 0) (inner_corner 0 1) (inner_corner 1 1))) ≡ true
      by true = four-proper count _ _ _ _ four
      by false = four-proper count _ _ _ _ (reversed four)

-- ---- all quads and labels

-- a label is at most 7
low-label : (l : ℕ) → l < 8 → low_label l ≡ true
low-label l h = le-leb l 7 (omega arith)

label-low : (g : Grid) (n t : ℕ) → low_label (crossed_label g (inner_site (inner_at n t)) (inner_at n t).axis) ≡ true
unfolding crossed_label
label-low g n t = low-label _ (sample-low g (crossing_of g (inner_site (inner_at n t)) (inner_at n t).axis))

-- 6, corner, finds nothing
pub drawn-good : (g : Grid) (n : ℕ) → good_corners (length (points_to g n (n * n * n))) (join_to (quad_if g n) (inner_count n)) (join_to (label_if g n) (inner_count n)) ≡ true
unfolding good_corners
drawn-good g n =
    let a : all low_label (join_to (label_if g n) (inner_count n)) ≡ true = all-joined low_label (label_if g n) (inner_count n) (λ t h. all-if low_label _ (inner_crosses g n t) (λ x. label-low g n t)) in
    let b : all (proper (length (points_to g n (n * n * n)))) (join_to (quad_if g n) (inner_count n)) ≡ true =
    all-joined (proper (length (points_to g n (n * n * n)))) (quad_if g n) (inner_count n) (λ t h. all-if (proper (length (points_to g n (n * n * n)))) (inner_quad g n (inner_at n t)) (inner_crosses g n t) (λ x. quad-proper g n t h x)) in
    rw (a, b) refl

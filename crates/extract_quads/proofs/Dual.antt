-- The four cells of an inner edge: they are cells of the grid, they all have the edge, and so the slots of each have its number. Assumes nothing.
use Prim.Native.Nat.{ℕ, zero, suc, ◌+◌, ◌-◌, ◌*◌, ◌/◌, ◌%◌, ◌<◌}
use mathlib.Core.Path.{◌≡◌, refl, sym, ap, ◌∙◌}
use mathlib.Core.Bool.{Bool, true, false, cond}
use mathlib.Core.List.{List}
use native.Mathlib.Omega.{arith}
use native.Mathlib.Nat.{mod-lt, div-lt_iff_lt-mul, mul-pos}
use lib.ListN.{length, get_or, set}
use lib.Dec.{eqb}
use Rattle.rule_sheet.specs.Quads.{quad}
use Rattle.sheet.specs.Flat.{with_quad}
use Rattle.rule_extract.specs.declared.Grid.{Grid}
use Rattle.rule_extract.specs.declared.Site.{Site}
use Rattle.rule_extract.specs.Samples.{sample_of}
use Rattle.rule_extract.specs.Crossings.{crossing_of, crossed_label}
use Rattle.rule_extract.specs.Cells.{low_end}
use Rattle.extract_grid.specs.Lattice.{Within}
use Rattle.rule_extract.specs.Lattice.{index_of, inside_at, corner_site, edge_site}
use Rattle.extract_grid.proofs.Places.{index-lt, site-index}
use Rattle.rule_extract.specs.Paths.{crossed_at, edge_crosses}
use Rattle.extract_paths.proofs.Edges.{below12, crosses-is}
use Rattle.rule_extract.specs.Drawing.{crossing_at, place_on, Inner, inner_count, inner_at, inner_site, corner_of, inner_quad, inner_crosses}
use Rattle.extract_points.specs.Slots.{label_of}
use Rattle.extract_points.proofs.Numbers.{sample-low, label_is}
use Rattle.extract_points.specs.Vertices.{AllNumbered}
use Rattle.extract_points.proofs.DrawnNumbers.{number-below}
use Rattle.extract_edges.specs.declared.Row.{Row}
use Rattle.extract_quads.specs.Faces.{offset_u, offset_w, cell_by, edge_by, slot_by, DualCell}
use Rattle.extract_edges.specs.Rows.{edge_in, RowIn}
use Rattle.extract_edges.proofs.Rows.{place-within}

-- ---- inner edges

-- an edge with four cells round it
pub record InnerIn (n : ℕ) (i : Inner) : Type 0 where
  pub axis< : i.axis < 3
  pub a< : i.a < n
  pub b> : 0 < i.b
  pub b< : i.b < n
  pub d> : 0 < i.d
  pub d< : i.d < n

pub row-inner : {n : ℕ} {row : Row} (j : ℕ) → RowIn n row → j < n - 1 → InnerIn n (edge_in row j)
row-inner j R h = record { axis< = R.axis<; a< = R.a<; b> = R.b>; b< = R.b<; d> = omega arith; d< = omega arith }

some-edge : (n t : ℕ) → t < inner_count n → 1 < n
some-edge zero t h = absurd (omega arith)
some-edge (suc zero) t h = absurd (omega arith)
some-edge (suc (suc n)) t h = omega arith

pub at_inner : (n t : ℕ) → t < inner_count n → InnerIn n (inner_at n t)
unfolding inner_at
at_inner n t h =
    let p = some-edge n t h in
    let k : 0 < n - 1 = omega arith in
    let z : 0 < n = omega arith in
    record {
      axis< = (div-lt_iff_lt-mul (mul-pos z (mul-pos k k))).1 h;
      a< = mod-lt (t / ((n - 1) * (n - 1))) z;
      b> = omega arith;
      b< = let l = mod-lt (t / (n - 1)) k in omega arith;
      d> = omega arith;
      d< = let l = mod-lt t k in omega arith;
    }

-- ---- the same edge in four cells

-- where the edge e of a cell begins
edge-from : (a b d e : ℕ) → e < 12 → edge_site (place_on (e / 4) a b d) e ≡ place_on (e / 4) (a + 0) (b + e / 2 % 2) (d + e % 2)
unfolding edge_site corner_site low_end place_on
edge-from a b d = below12 (λ e. edge_site (place_on (e / 4) a b d) e ≡ place_on (e / 4) (a + 0) (b + e / 2 % 2) (d + e % 2)) refl refl refl refl refl refl refl refl refl refl refl refl

module _ (i : Inner) (u w : ℕ) (h : u < 2) (l : w < 2) where
  edge-axis : edge_by i u w / 4 ≡ i.axis
  edge-axis = omega arith

  -- it begins where the inner edge begins
  same-edge : {n : ℕ} → InnerIn n i → edge_site (cell_by i u w) (edge_by i u w) ≡ inner_site i
  unfolding inner_site
  same-edge I =
      let q = edge-axis in
      let a : i.a + 0 ≡ i.a = omega arith in
      let b : i.b - u + edge_by i u w / 2 % 2 ≡ i.b = omega (arith, I.b>) in
      let d : i.d - w + edge_by i u w % 2 ≡ i.d = omega (arith, I.d>) in
      let e = edge-from i.a (i.b - u) (i.d - w) (edge_by i u w) (omega (arith, I.axis<)) in
      rw (a, b, d) at (rw q at e)

  pub cell-within : {n : ℕ} → InnerIn n i → Within n (cell_by i u w)
  cell-within {n} I = place-within n i.axis i.a (i.b - u) (i.d - w) I.axis< I.a< (omega (arith, I.b<)) (omega (arith, I.d<))

  cell-crosses : {n : ℕ} (g : Grid) → InnerIn n i → crossed_at g (inner_site i) i.axis ≡ true → edge_crosses g (cell_by i u w) (edge_by i u w) ≡ true
  cell-crosses g I x = crosses-is g (cell_by i u w) (edge_by i u w) (omega (arith, I.axis<)) ∙ (rw (same-edge I, edge-axis) x)

  -- the slot of the edge there, and what it has
  pub slot-in : {g : Grid} {n : ℕ} {s : List ℕ} {c : Site} (x : ℕ) → AllNumbered g n s → InnerIn n i → c ≡ cell_by i u w → x ≡ index_of n c → 12 * x + edge_by i u w < length s
  slot-in {n = n} x N I q f =
      let e : edge_by i u w < 12 = omega (arith, I.axis<) in
      let l : x < n * n * n = rw (f, q) (index-lt n (cell_by i u w) (cell-within I)) in
      omega (arith, N.fits)

  pub slot_read : {g : Grid} {n : ℕ} {s : List ℕ} {c : Site} (x : ℕ) → AllNumbered g n s → InnerIn n i → crossed_at g (inner_site i) i.axis ≡ true → c ≡ cell_by i u w → x ≡ index_of n c
      → get_or s (12 * x + edge_by i u w) 0 ≡ slot_by g n i u w
  slot_read {g} {n} x N I y q f =
      let W = cell-within I in
      let z = site-index n (cell_by i u w) W in
      rw (f, q) (rw z at (N.is (index_of n (cell_by i u w)) (edge_by i u w) (index-lt n (cell_by i u w) W) (omega (arith, I.axis<)) (rw z (cell-crosses g I y))))

-- ---- what a slot says

label-low : (g : Grid) (c : Site) (e : ℕ) → label_of g c e < 8
unfolding label_of
label-low g c e = by (eqb (e % 4) 0)
  where
    by : (b : Bool) → cond b (sample_of g (crossing_at g c e)).label 0 < 8
    by true = sample-low g (crossing_at g c e)
    by false = omega arith

-- the number of the point
slot-number : (g : Grid) (n : ℕ) (i : Inner) (u w s : ℕ) → s ≡ slot_by g n i u w → s / 8 ≡ corner_of g n i u w
unfolding corner_of
slot-number g n i u w s e = let l = label-low g (cell_by i u w) (edge_by i u w) in omega arith

-- the label, in the cell at the edge's own place
slot-label : {n : ℕ} (g : Grid) (i : Inner) (s : ℕ) → InnerIn n i → s ≡ slot_by g n i 0 0 → s % 8 ≡ crossed_label g (inner_site i) i.axis
unfolding crossed_label crossing_at
slot-label {n} g i s I e =
    let c = cell_by i 0 0 in
    let k = edge_by i 0 0 in
    let l = label-low g c k in
    let f : label_of g c k ≡ (sample_of g (crossing_of g (edge_site c k) (k / 4))).label = sym (label_is g c k {s = sample_of g (crossing_at g c k)} {p = crossing_at g c k} (omega arith) refl refl).0 in
    let m : s % 8 ≡ label_of g c k = omega arith in
    let q : k / 4 ≡ i.axis = omega arith in
    m ∙ f ∙ rw (same-edge i 0 0 (omega arith) (omega arith) I, q) refl

-- the quad and the label by the four slots, of an edge that begins inside and of one that begins outside
module _ (g : Grid) (n : ℕ) (i : Inner) (p q s t place : ℕ) (Q labels : List ℕ) (I : InnerIn n i) (ep : p ≡ slot_by g n i 1 1) (eq : q ≡ slot_by g n i 0 1) (es : s ≡ slot_by g n i 0 0) (et : t ≡ slot_by g n i 1 0) where
  pub put-inside : {b : Bool} {r : List ℕ} → b ≡ inside_at g (inner_site i) → b ≡ true → r ≡ with_quad Q place (quad (p / 8) (q / 8) (s / 8) (t / 8))
      → (r ≡ with_quad Q place (inner_quad g n i)) × (set labels place (s % 8) ≡ set labels place (crossed_label g (inner_site i) i.axis))
  unfolding inner_quad
  put-inside e f h =
      (rw (← e, f) (rw (slot-number g n i 1 1 p ep, slot-number g n i 0 1 q eq, slot-number g n i 0 0 s es, slot-number g n i 1 0 t et) at h), ap (set labels place) (slot-label g i s I es))

  pub put-outside : {b : Bool} {r : List ℕ} → b ≡ inside_at g (inner_site i) → b ≡ false → r ≡ with_quad Q place (quad (t / 8) (s / 8) (q / 8) (p / 8))
      → (r ≡ with_quad Q place (inner_quad g n i)) × (set labels place (s % 8) ≡ set labels place (crossed_label g (inner_site i) i.axis))
  unfolding inner_quad
  put-outside e f h =
      (rw (← e, f) (rw (slot-number g n i 1 1 p ep, slot-number g n i 0 1 q eq, slot-number g n i 0 0 s es, slot-number g n i 1 0 t et) at h), ap (set labels place) (slot-label g i s I es))

-- ---- offsets

pub offset-low : (k : ℕ) → k < 4 → (offset_u k < 2) × (offset_w k < 2)
offset-low zero h = (omega arith, omega arith)
offset-low (suc zero) h = (omega arith, omega arith)
offset-low (suc (suc zero)) h = (omega arith, omega arith)
offset-low (suc (suc (suc zero))) h = (omega arith, omega arith)
offset-low (suc (suc (suc (suc k)))) h = absurd (omega arith)

-- ---- no dual cell is incomplete

dual-cell : (g : Grid) (n : ℕ) (i : Inner) (u w : ℕ) → InnerIn n i → crossed_at g (inner_site i) i.axis ≡ true → u < 2 → w < 2 → DualCell g n i u w
unfolding corner_of
dual-cell g n i u w I x h l =
    let W = cell-within i u w h l I in
    let y = cell-crosses i u w h l g I x in
    let z = site-index n (cell_by i u w) W in
    record {
      within = W;
      crosses = y;
      corner = rw z at (number-below g n (index_of n (cell_by i u w)) (edge_by i u w) (index-lt n (cell_by i u w) W) (omega (arith, I.axis<)) (rw z y));
    }

-- "'Incomplete dual cell' never arises": each of the four cells of an inner edge that crosses has a point for it
pub dual-cell-complete : (g : Grid) (n t u w : ℕ) → t < inner_count n → inner_crosses g n t ≡ true → u < 2 → w < 2 → DualCell g n (inner_at n t) u w
dual-cell-complete g n t u w h x = dual-cell g n (inner_at n t) u w (at_inner n t h) x

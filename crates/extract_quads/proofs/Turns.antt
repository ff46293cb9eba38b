-- The quads and labels in two slices, edge by edge and row by row. Assumes nothing.
use Prim.Native.Nat.{ℕ, zero, suc, ◌+◌, ◌-◌, ◌*◌, ◌≤◌, ◌<◌}
use mathlib.Core.Path.{◌≡◌, refl, sym, ◌∙◌}
use mathlib.Core.Bool.{Bool, true, false}
use mathlib.Core.List.{List, [], ◌∷◌, ◌++◌, append-nil}
use native.Mathlib.Omega.{arith}
use lib.ListN.{length, set, length-set, length-append}
use Rattle.lists.specs.Sort.{cons_if}
use Rattle.rule_sheet.specs.Edges.{join_to}
use Rattle.rule_sheet.specs.Flat.{flat_quads}
use Rattle.sheet.specs.Flat.{with_quad}
use Rattle.sheet.specs.Results.{Front}
use Rattle.sheet.proofs.Fronts.{front-none, front-next, front-quad, length-with-quad}
use Rattle.rule_extract.specs.declared.Grid.{Grid}
use Rattle.rule_extract.specs.Crossings.{crossed_label}
use Rattle.rule_extract.specs.Drawing.{inner_count, inner_at, inner_site, inner_quad, inner_crosses, quad_if, label_if}
use Rattle.extract_grid.proofs.Joins.{join-below, join-suc}
use Rattle.extract_edges.specs.declared.Row.{Row}
use Rattle.extract_edges.specs.Rows.{edge_in, row_count, edge_number, RowAt}
use Rattle.extract_quads.specs.Faces.{Drawn}
use Rattle.extract_edges.proofs.Counts.{quads-same, quads-more, none, counted_start, counted_same, counted-more, edge-lt, row-after, rows_all}

-- ---- one edge

module _ (g : Grid) (n t : ℕ) where
  labels-same : inner_crosses g n t ≡ false → join_to (label_if g n) (t + 1) ≡ join_to (label_if g n) t
  labels-same x = join-suc (label_if g n) t ∙ (rw x (append-nil (join_to (label_if g n) t)))

  labels-more : inner_crosses g n t ≡ true → join_to (label_if g n) (t + 1) ≡ join_to (label_if g n) t ++ (crossed_label g (inner_site (inner_at n t)) (inner_at n t).axis ∷ [])
  labels-more x = join-suc (label_if g n) t ∙ (rw x refl)

-- there are as many labels as quads
pub labels-many : (g : Grid) (n t : ℕ) → length (join_to (label_if g n) t) ≡ length (join_to (quad_if g n) t)
unfolding join_to
labels-many g n zero = refl
labels-many g n (suc t) =
    length-append (join_to (label_if g n) t) (label_if g n t) ∙ rw (labels-many g n t, one (inner_crosses g n t)) (sym (length-append (join_to (quad_if g n) t) (quad_if g n t)))
  where
    one : (b : Bool) → length (cons_if b (crossed_label g (inner_site (inner_at n t)) (inner_at n t).axis) []) ≡ length (cons_if b (inner_quad g n (inner_at n t)) [])
    one true = refl
    one false = refl

-- ---- quads and labels

pub drawn-start : {g : Grid} {n : ℕ} {Q labels : List ℕ} → 4 * length (join_to (quad_if g n) (inner_count n)) ≤ length Q → length (join_to (label_if g n) (inner_count n)) ≤ length labels → Drawn g n (edge_number n 0 0) 0 Q labels
unfolding join_to flat_quads
drawn-start {g} {n} {Q} {labels} h l = record { counted = counted_start g n; quads = rw (none n) (front-none Q); labelled = rw (none n) (front-none labels); quads≤ = h; labels≤ = l }

pub drawn-same : {g : Grid} {n t count : ℕ} {Q labels : List ℕ} → Drawn g n t count Q labels → inner_crosses g n t ≡ false → Drawn g n (t + 1) count Q labels
drawn-same {g} {n} {t} D x = record {
  counted = counted_same D.counted x;
  quads = rw (quads-same g n t x) D.quads;
  labelled = rw (labels-same g n t x) D.labelled;
  quads≤ = D.quads≤;
  labels≤ = D.labels≤;
}

-- one quad more fits
pub record Fits (count : ℕ) (Q labels : List ℕ) : Type 0 where
  pub quads : 4 * count + 4 ≤ length Q
  pub labels< : count < length labels

pub drawn-fits : {g : Grid} {n r count : ℕ} {row : Row} {Q labels : List ℕ} (j : ℕ) → Drawn g n (edge_number n r j) count Q labels → RowAt n r row → j < n - 1 → inner_crosses g n (edge_number n r j) ≡ true
    → Fits count Q labels
drawn-fits {g} {n} {r} j D R h x =
    let q : length (quad_if g n (edge_number n r j)) ≡ 1 = rw x refl in
    let b = join-below (quad_if g n) (edge_number n r j) (inner_count n) (edge-lt n r j R.r< h) in
    let m = labels-many g n (inner_count n) in
    record { quads = omega (arith, D.counted.is, D.quads≤); labels< = omega (arith, D.counted.is, D.labels≤) }

pub drawn-more : {g : Grid} {n r count : ℕ} {row : Row} {Q labels Q' labels' : List ℕ} (j : ℕ) → Drawn g n (edge_number n r j) count Q labels → RowAt n r row → j < n - 1
    → inner_crosses g n (edge_number n r j) ≡ true
    → (Q' ≡ with_quad Q count (inner_quad g n (edge_in row j))) × (labels' ≡ set labels count (crossed_label g (inner_site (edge_in row j)) row.axis))
    → Drawn g n (edge_number n r j + 1) (count + 1) Q' labels'
drawn-more {g} {n} {r} {count} {row} {Q} {labels} j D R h x E =
    let t = edge_number n r j in
    let i = edge_in row j in
    let F = drawn-fits j D R h x in
    let q : join_to (quad_if g n) (t + 1) ≡ join_to (quad_if g n) t ++ (inner_quad g n i ∷ []) = rw (R.edges j h) at (quads-more g n t x) in
    let l : join_to (label_if g n) (t + 1) ≡ join_to (label_if g n) t ++ (crossed_label g (inner_site i) row.axis ∷ []) = rw (R.edges j h) at (labels-more g n t x) in
    record {
      counted = counted-more D.counted x;
      quads = rw (E.0, q) (front-quad (join_to (quad_if g n) t) count (inner_quad g n i) D.quads D.counted.is F.quads);
      labelled = rw (E.1, l) (front-next count (crossed_label g (inner_site i) row.axis) D.labelled (D.counted.is ∙ sym (labels-many g n t)) F.labels<);
      quads≤ = rw (E.0, length-with-quad Q count (inner_quad g n i)) D.quads≤;
      labels≤ = rw (E.1, length-set labels count (crossed_label g (inner_site i) row.axis)) D.labels≤;
    }

-- ---- rows

pub drawn-next : {g : Grid} {n count : ℕ} {Q labels : List ℕ} (r j : ℕ) → Drawn g n (edge_number n r j + 1) count Q labels → Drawn g n (edge_number n r (j + 1)) count Q labels
drawn-next {n = n} r j D = let e : edge_number n r j + 1 ≡ edge_number n r (j + 1) = omega arith in rw e at D

pub drawn-row : {g : Grid} {n count : ℕ} {Q labels : List ℕ} (r j : ℕ) → Drawn g n (edge_number n r j) count Q labels → j ≡ n - 1 → Drawn g n (edge_number n (r + 1) 0) count Q labels
drawn-row {n = n} r j D e = rw (row-after n r j e) at D

pub drawn-all : {g : Grid} {n count : ℕ} {Q labels : List ℕ} (r : ℕ) → Drawn g n (edge_number n r 0) count Q labels → r ≡ row_count n
    → Front (flat_quads (join_to (quad_if g n) (inner_count n))) Q × Front (join_to (label_if g n) (inner_count n)) labels
drawn-all {g} {n} {count} {Q} {labels} r D e = let K : Drawn g n (inner_count n) count Q labels = rw (rows_all n r e) at D in (K.quads, K.labelled)

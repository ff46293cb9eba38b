-- The count of the quads, edge by edge and row by row. Assumes nothing.
use Prim.Native.Nat.{ℕ, zero, suc, ◌+◌, ◌-◌, ◌*◌, ◌≤◌, ◌<◌}
use mathlib.Core.Path.{◌≡◌, refl, sym, ap, ◌∙◌}
use mathlib.Core.Bool.{Bool, true, false, not, beq}
use mathlib.Core.List.{[], ◌∷◌, ◌++◌, append-nil}
use native.Mathlib.Omega.{arith}
use native.Mathlib.Numerals.{add-one}
use Rattle.std.proofs.Common.{add-zero}
use native.Mathlib.Nat.{mul-le-mul_right}
use lib.ListN.{length, length-append}
use mir.Val.{bool_byte}
use Rattle.rule_sheet.specs.Edges.{join_to}
use Rattle.rule_extract.specs.declared.Grid.{Grid}
use Rattle.rule_extract.specs.Crossings.{next_site}
use Rattle.rule_extract.specs.Lattice.{inside_at}
use Rattle.rule_extract.specs.Paths.{crossed_at}
use Rattle.rule_extract.specs.Drawing.{inner_count, inner_at, inner_site, inner_quad, inner_crosses, quad_if}
use Rattle.extract_grid.proofs.Joins.{join-suc}
use Rattle.extract_edges.specs.declared.Row.{Row}
use Rattle.extract_edges.specs.Rows.{edge_in, row_count, edge_number, RowAt, Counted}

-- ---- one edge

-- an edge crosses where the signs at its ends differ
pub edge-crosses : (g : Grid) {n r : ℕ} {row : Row} {a b : Bool} (j : ℕ) (s : Bool) → RowAt n r row → j < n - 1 → a ≡ inside_at g (inner_site (edge_in row j)) → b ≡ inside_at g (next_site (inner_site (edge_in row j)) row.axis)
    → beq a b ≡ s → (crossed_at g (inner_site (edge_in row j)) row.axis ≡ not s) × (inner_crosses g n (edge_number n r j) ≡ not s)
unfolding crossed_at
edge-crosses g {n} {r} {row} {a} {b} j s R h e f q =
    let x : not (beq (inside_at g (inner_site (edge_in row j))) (inside_at g (next_site (inner_site (edge_in row j)) row.axis))) ≡ not s = rw (← e, ← f, q) refl in
    (x, rw (R.edges j h) x)

module _ (g : Grid) (n t : ℕ) where
  pub quads-same : inner_crosses g n t ≡ false → join_to (quad_if g n) (t + 1) ≡ join_to (quad_if g n) t
  quads-same x = join-suc (quad_if g n) t ∙ (rw x (append-nil (join_to (quad_if g n) t)))

  pub quads-more : inner_crosses g n t ≡ true → join_to (quad_if g n) (t + 1) ≡ join_to (quad_if g n) t ++ (inner_quad g n (inner_at n t) ∷ [])
  quads-more x = join-suc (quad_if g n) t ∙ (rw x refl)

-- ---- counts

-- no edge is before the first one of the first row
pub none : (n : ℕ) → edge_number n 0 0 ≡ 0
none n = omega arith

pub counted_start : (g : Grid) (n : ℕ) → Counted g n (edge_number n 0 0) 0
unfolding join_to
counted_start g n = rw (none n) (record { is = refl; count≤ = omega arith })

pub counted_same : {g : Grid} {n t count : ℕ} → Counted g n t count → inner_crosses g n t ≡ false → Counted g n (t + 1) count
counted_same {g} {n} {t} C x = record { is = C.is ∙ ap length (sym (quads-same g n t x)); count≤ = omega (arith, C.count≤) }

pub counted-more : {g : Grid} {n t count : ℕ} → Counted g n t count → inner_crosses g n t ≡ true → Counted g n (t + 1) (count + 1)
counted-more {g} {n} {t} C x = record {
  is = let q = ap length (quads-more g n t x) ∙ length-append (join_to (quad_if g n) t) _ in omega (arith, C.is);
  count≤ = omega (arith, C.count≤);
}

-- with the edge t, where it crosses
pub counted-by : {g : Grid} {n t count k : ℕ} (b : Bool) → Counted g n t count → inner_crosses g n t ≡ b → k ≡ bool_byte b → Counted g n (t + 1) (count + k)
counted-by true C x e = rw e (counted-more C x)
counted-by false C x e = rw (e, add-zero) (counted_same C x)

pub byte-le : (b : Bool) → bool_byte b ≤ 1
byte-le true = omega arith
byte-le false = omega arith

-- ---- numbers of edges

-- an edge of a row is one of all
pub edge-lt : (n r j : ℕ) → r < row_count n → j < n - 1 → edge_number n r j < inner_count n
edge-lt n r j h l =
    let b : suc r * (n - 1) ≤ 3 * (n * (n - 1)) * (n - 1) = mul-le-mul_right (n - 1) h in
    omega arith

pub edges_few : (n : ℕ) → n ≤ 130 → inner_count n ≤ 6489990
edges_few n h =
    let a : (n - 1) * (n - 1) ≤ 129 * (n - 1) = mul-le-mul_right (n - 1) (omega arith) in
    let b : n * ((n - 1) * (n - 1)) ≤ 130 * ((n - 1) * (n - 1)) = mul-le-mul_right ((n - 1) * (n - 1)) h in
    omega arith

-- ---- rows

-- the row after begins behind the last edge
pub row-after : (n r j : ℕ) → j ≡ n - 1 → edge_number n r j ≡ edge_number n (r + 1) 0
row-after n r j e = rw e (omega arith)

pub rows_all : (n r : ℕ) → r ≡ row_count n → edge_number n r 0 ≡ inner_count n
rows_all n r e = rw e (omega arith)

pub counted_next : {g : Grid} {n count : ℕ} (r j : ℕ) → Counted g n (edge_number n r j + 1) count → Counted g n (edge_number n r (j + 1)) count
counted_next {n = n} r j C = let e : edge_number n r j + 1 ≡ edge_number n r (j + 1) = omega arith in rw e at C

pub counted-row : {g : Grid} {n count : ℕ} (r j : ℕ) → Counted g n (edge_number n r j) count → j ≡ n - 1 → Counted g n (edge_number n (r + 1) 0) count
counted-row {n = n} r j C e = rw (row-after n r j e) at C

pub counted-all : {g : Grid} {n count : ℕ} (r : ℕ) → Counted g n (edge_number n r 0) count → r ≡ row_count n → (count ≡ length (join_to (quad_if g n) (inner_count n))) × (count ≤ inner_count n)
counted-all {g} {n} {count} r C e = let K : Counted g n (inner_count n) count = rw (rows_all n r e) at C in (K.is, K.count≤)

-- the count of the rows, and the numbers on the way to it
pub rows_are : (n : ℕ) → 3 * (n * n - n) ≡ row_count n
rows_are zero = refl
rows_are (suc n) =
    let e : n + 1 - 1 ≡ n = omega arith in
    rw (← add-one n, e) (omega arith)

square-from : (n : ℕ) → n ≤ n * n
square-from zero = omega arith
square-from (suc n) = rw (← add-one n) (omega arith)

pub record RowsRoom (n : ℕ) : Type 0 where
  pub from : n ≤ n * n
  pub to : n * n ≤ 16900

pub rows-room : (n : ℕ) → n ≤ 130 → RowsRoom n
rows-room n h = let a : n * n ≤ 130 * n = mul-le-mul_right n h in record { from = square-from n; to = omega arith }

-- The inner edges of the grid, row by row, and the count of the quads of the first of them.
use Rattle.std.specs.Prelude.{ℕ, ◌+◌, ◌-◌, ◌*◌, ◌%◌, ◌≤◌, ◌<◌, ◌≡◌, length}
use Rattle.rule_sheet.specs.Edges.{join_to}
use Rattle.rule_extract.specs.declared.Grid.{Grid}
use Rattle.rule_extract.specs.Lattice.{index_of}
use Rattle.extract_paths.specs.Paths.{stride_of}
use Rattle.rule_extract.specs.Drawing.{place_on, Inner, inner_at, quad_if}
use Rattle.extract_edges.specs.declared.Row.{Row}

-- the edge j of a row
abbrev pub edge_in : Row → ℕ → Inner
edge_in row j = record { axis = row.axis; a = row.a; b = row.b; d = j + 1 }

-- a row of a grid of n cells a side, with the numbers of its samples
pub record RowIn (n : ℕ) (row : Row) : Type 0 where
  pub n≤ : n ≤ 130
  pub axis< : row.axis < 3
  pub a< : row.a < n
  pub b> : 0 < row.b
  pub b< : row.b < n
  pub from_is : row.from ≡ index_of (n + 1) (place_on row.axis row.a row.b 1)
  pub next_is : row.next ≡ stride_of (n + 1) row.axis
  pub step_is : row.step ≡ stride_of (n + 1) ((row.axis + 2) % 3)

-- how many rows there are
abbrev pub row_count : ℕ → ℕ
row_count n = 3 * (n * (n - 1))

-- the number of the edge j of the row r
abbrev pub edge_number : ℕ → ℕ → ℕ → ℕ
edge_number n r j = r * (n - 1) + j

-- the row r
pub record RowAt (n r : ℕ) (row : Row) : Type 0 where
  pub r< : r < row_count n
  pub within : RowIn n row
  pub edges : (j : ℕ) → j < n - 1 → inner_at n (edge_number n r j) ≡ edge_in row j

-- ---- counts

-- the count of the quads of the first t inner edges
pub record Counted (g : Grid) (n t count : ℕ) : Type 0 where
  pub is : count ≡ length (join_to (quad_if g n) t)
  pub count≤ : count ≤ t

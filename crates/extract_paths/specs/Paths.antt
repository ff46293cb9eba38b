-- The paths of all crossings in a list of twelve slots a cell: slot 12 × e + j is for the edge j of the cell with
-- the number e.
use Rattle.std.specs.Prelude.{ℕ, ◌+◌, ◌-◌, ◌*◌, ◌/◌, ◌%◌, ◌≤◌, ◌<◌, ◌≡◌, true, cond, ◌&&◌, List, eqb, ltb, length}
use Rattle.std.specs.Prelude.{get_or}
use Rattle.rule_extract.specs.declared.Grid.{Grid}
use Rattle.rule_extract.specs.declared.Site.{Site}
use Rattle.extract_crossings.specs.Crossings.{path_of}
use Rattle.extract_grid.specs.Lattice.{Within}
use Rattle.rule_extract.specs.Lattice.{site_at, index_of, edge_site}
use Rattle.rule_extract.specs.Paths.{edge_crosses}

-- the path of its crossing
abbrev pub edge_path : Grid → Site → ℕ → ℕ
edge_path g c j = path_of g (edge_site c j) (j / 4)

-- the cell of a slot
abbrev pub cell_of : ℕ → ℕ → Site
cell_of n i = site_at n (i / 12)

-- the first i slots of a list have the paths of those edges that cross
pub record Pathed (g : Grid) (n : ℕ) (w : List ℕ) (i : ℕ) : Type 0 where
  pub fits : i ≤ length w
  pub is : (k : ℕ) → k < i → edge_crosses g (cell_of n k) (k % 12) ≡ true
      → get_or w k 0 ≡ edge_path g (cell_of n k) (k % 12)

-- ---- where a path stands already

-- the place of c along an axis
unfoldable pub along_of : Site → ℕ → ℕ
along_of c axis = cond (eqb axis 0) c.x (cond (eqb axis 1) c.y c.z)

-- how far the numbers of two cells next to each other along an axis are apart
unfoldable pub stride_of : ℕ → ℕ → ℕ
stride_of n axis = cond (eqb axis 0) (n * n) (cond (eqb axis 1) n 1)

-- the slot of the same edge in the cell before c along one of the two other axes, or the slot itself
unfoldable pub source_of : ℕ → Site → ℕ → ℕ → ℕ
source_of n c slot j =
    cond (eqb (j / 2 % 2) 0 && ltb 0 (along_of c ((j / 4 + 1) % 3))) (slot + 2 - 12 * stride_of n ((j / 4 + 1) % 3))
    (cond (eqb (j % 2) 0 && ltb 0 (along_of c ((j / 4 + 2) % 3))) (slot + 1 - 12 * stride_of n ((j / 4 + 2) % 3)) slot)

-- the cell that begins at c has the number e, and a list of l elements holds its slots
pub record CellAt (n : ℕ) (c : Site) (e l : ℕ) : Type 0 where
  pub n≤ : n ≤ 130
  pub within : Within n c
  pub number : e ≡ index_of n c
  pub room : 12 * e + 12 ≤ l

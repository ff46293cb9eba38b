-- The four cells of an inner edge, and the quads and labels of the first of the inner edges in two slices.
use Rattle.std.specs.Prelude.{ℕ, ◌+◌, ◌-◌, ◌*◌, ◌≤◌, ◌<◌, ◌≡◌, true, List, [], ◌∷◌, length, get_or}
use Rattle.rule_sheet.specs.Edges.{join_to}
use Rattle.rule_sheet.specs.Flat.{flat_quads}
use Rattle.sheet.specs.Results.{Front}
use Rattle.rule_extract.specs.declared.Grid.{Grid}
use Rattle.rule_extract.specs.declared.Site.{Site}
use Rattle.extract_grid.specs.Lattice.{Within}
use Rattle.rule_extract.specs.Paths.{edge_crosses}
use Rattle.rule_extract.specs.Drawing.{points_to, place_on, Inner, inner_count, corner_of, quad_if, label_if}
use Rattle.extract_points.specs.Slots.{slot_number}
use Rattle.extract_edges.specs.Rows.{Counted}

-- ---- the four cells of an inner edge

-- "offsets (1,1), (0,1), (0,0), (1,0)": how far cell k begins before its edge, along the next axis and along the
-- one after
abbrev pub offsets : List (ℕ × ℕ)
offsets = (1, 1) ∷ (0, 1) ∷ (0, 0) ∷ (1, 0) ∷ []

abbrev pub offset_u : ℕ → ℕ
offset_u k = (get_or offsets k (0, 0)).0

abbrev pub offset_w : ℕ → ℕ
offset_w k = (get_or offsets k (0, 0)).1

-- the cell u and w before an edge
abbrev pub cell_by : Inner → ℕ → ℕ → Site
cell_by i u w = place_on i.axis i.a (i.b - u) (i.d - w)

-- the number of the edge in that cell
abbrev pub edge_by : Inner → ℕ → ℕ → ℕ
edge_by i u w = i.axis * 4 + u * 2 + w

-- what the slot of the edge has there
abbrev pub slot_by : Grid → ℕ → Inner → ℕ → ℕ → ℕ
slot_by g n i u w = slot_number g n (cell_by i u w) (edge_by i u w)

-- "'Incomplete dual cell' never arises": the cell is one of the grid, its edge crosses, and its corner is a point
pub record DualCell (g : Grid) (n : ℕ) (i : Inner) (u w : ℕ) : Type 0 where
  pub within : Within n (cell_by i u w)
  pub crosses : edge_crosses g (cell_by i u w) (edge_by i u w) ≡ true
  pub corner : corner_of g n i u w < length (points_to g n (n * n * n))

-- ---- the first t inner edges

-- their quads and labels, in slices that hold those of all
pub record Drawn (g : Grid) (n t count : ℕ) (Q labels : List ℕ) : Type 0 where
  pub counted : Counted g n t count
  pub quads : Front (flat_quads (join_to (quad_if g n) t)) Q
  pub labelled : Front (join_to (label_if g n) t) labels
  pub quads≤ : 4 * length (join_to (quad_if g n) (inner_count n)) ≤ length Q
  pub labels≤ : length (join_to (label_if g n) (inner_count n)) ≤ length labels

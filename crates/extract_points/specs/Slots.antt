-- What the loops of extraction know of a cell: its kind, its groups and the paths in its slots.
use Rattle.std.specs.Prelude.{ℕ, ◌+◌, ◌*◌, ◌%◌, ◌≤◌, ◌<◌, ◌≡◌, Bool, true, cond, ◌&&◌, List, [], ◌∷◌, eqb, length}
use Rattle.std.specs.Prelude.{get_or, set, Float}
use Rattle.lists.specs.Every.{some, count_to}
use Rattle.points.specs.declared.Point.{Point}
use Rattle.points.specs.Points.{add_p}
use Rattle.points.specs.Steps.{with_point}
use Rattle.rule_extract.specs.declared.Grid.{Grid}
use Rattle.rule_extract.specs.declared.Site.{Site}
use Rattle.rule_extract.specs.Cells.{bit_of}
use Rattle.extract_cells.specs.Cells.{kind_of}
use Rattle.rule_extract.specs.Lattice.{case_of, cell_groups}
use Rattle.rule_extract.specs.Paths.{edge_crosses}
use Rattle.extract_paths.specs.Paths.{edge_path}
use Rattle.rule_extract.specs.Samples.{sample_of}
use Rattle.extract_points.specs.declared.Sum.{Sum}
use Rattle.rule_extract.specs.Drawing.{crossing_at, number_of}

-- an edge that crosses and has the group k, by the kind of its cell
abbrev pub is_member_in : ℕ → ℕ → ℕ → ℕ → Bool
is_member_in kind group k e = bit_of kind e && eqb group k

-- the same with the groups of all edges
abbrev pub member_in : ℕ → List ℕ → ℕ → ℕ → Bool
member_in kind G k e = is_member_in kind (get_or G e 0) k e

-- the group k has a crossing
abbrev pub has_in : ℕ → List ℕ → ℕ → Bool
has_in kind G k = some (member_in kind G k) 12

-- how many of the groups below k have a crossing
abbrev pub rank_in : ℕ → List ℕ → ℕ → ℕ
rank_in kind G k = count_to (has_in kind G) k

-- the kind and the groups of the cell at c
pub record Known (g : Grid) (c : Site) (kind : ℕ) (G : List ℕ) : Type 0 where
  pub kinds : kind ≡ kind_of (bit_of (case_of g c))
  pub groups : G ≡ cell_groups g c

-- the slots of the cell at c, which has the number i, have the paths of its crossings
pub record CellPaths (g : Grid) (c : Site) (i : ℕ) (w : List ℕ) : Type 0 where
  pub fits : 12 * i + 12 ≤ length w
  pub is : (e : ℕ) → e < 12 → edge_crosses g c e ≡ true → get_or w (12 * i + e) 0 ≡ edge_path g c e

-- a sum with one point more where the test holds
unfoldable pub added_if : Bool → Sum → Point → Sum
added_if b s p = cond b (record { point = add_p s.point p; count = s.count + 1 }) s

-- the coordinates s with points from place k on
unfoldable pub put_points : List Point → ℕ → List Float → List Float
put_points [] k s = s
put_points (p ∷ l) k s = put_points l (k + 1) (with_point s k p)

-- the label of the crossing on an edge that begins at its cell's own place; 0 on the others
unfoldable pub label_of : Grid → Site → ℕ → ℕ
label_of g c e = cond (eqb (e % 4) 0) (sample_of g (crossing_at g c e)).label 0

-- what a slot has in the end: the number of its point, times 8, and its label
abbrev pub slot_number : Grid → ℕ → Site → ℕ → ℕ
slot_number g n c e = 8 * number_of g n c e + label_of g c e

-- the slots w with the number of the edge e of a cell where it crosses; `first` is the number of the cell's first point
unfoldable pub numbered_if : Grid → Site → ℕ → ℕ → ℕ → List ℕ → ℕ → List ℕ → List ℕ
numbered_if g c i first kind G e w =
    cond (bit_of kind e) (set w (12 * i + e) (8 * (first + rank_in kind G (get_or G e 0)) + label_of g c e)) w

-- the slots of the cell with the number i have the numbers of the points of its crossings, and the others are those
-- of v
pub record Numbered (g : Grid) (n : ℕ) (c : Site) (i : ℕ) (v w : List ℕ) : Type 0 where
  pub is : (e : ℕ) → e < 12 → edge_crosses g c e ≡ true → get_or w (12 * i + e) 0 ≡ slot_number g n c e
  pub below : (k : ℕ) → k < 12 * i → get_or w k 0 ≡ get_or v k 0
  pub above : (k : ℕ) → 12 * i + 12 ≤ k → get_or w k 0 ≡ get_or v k 0

-- Which points are copied, the numbers of the copies, the corners at which strips run, and what is gathered of them,
-- over flat lists: coordinates P, corners Q, labels and masks M.
use Rattle.std.specs.Prelude.{ℕ, ◌+◌, ◌*◌, ◌/◌, ◌%◌, ◌^◌, ◌≤◌, ◌<◌, Bool, cond, not, ◌&&◌, List, [], ◌∷◌, eqb, ltb}
use Rattle.std.specs.Prelude.{length, get_or, Float}
use Rattle.lists.specs.Sort.{tabulate}
use Rattle.lists.specs.Every.{count_to}
use Rattle.lists.specs.Regions.{Part}
use Rattle.rule_sheet.specs.declared.Counts.{Counts}
use Rattle.rule_sheet.specs.Lent.{limit}
use Rattle.rule_sheet.specs.Edges.{join_to}
use Rattle.incidence.specs.Corners.{Cornered, edge_order, Positioned}
use Rattle.incidence.specs.Marks.{Incident}
use Rattle.edges.specs.Steps.{pair_at}
use Rattle.refine.specs.Loops.{order_at}
use Rattle.subdivide_points.specs.Steps.{ones_of}
use Rattle.rule_rows.specs.Rows.{key_point, key_label}

-- ---- the copies

-- a mask of two or more bits, bit l among them
unfoldable pub copied_by : ℕ → ℕ → Bool
copied_by m l = ltb 1 (ones_of m) && eqb (m / 2 ^ l % 2) 1

-- the key k has a copy
unfoldable pub copied_in : List ℕ → ℕ → Bool
copied_in M k = copied_by (get_or M (key_point k) 0) (key_label k)

-- the number of the copy of the key k
unfoldable pub number_in : ℕ → List ℕ → ℕ → ℕ
number_in np M k = np + count_to (copied_in M) k

-- how many points the sheet with rows has
abbrev pub points_after : ℕ → List ℕ → ℕ
points_after np M = number_in np M (8 * np)

-- ---- the strips

-- the label of the quad of corner c
abbrev pub corner_label : List ℕ → ℕ → ℕ
corner_label labels c = get_or labels (c / 4) 0

-- an edge of two quads with different labels begins at place i of the corners L
unfoldable pub seam_at : List ℕ → List ℕ → ℕ → List ℕ → ℕ → Bool
seam_at Q labels n L i =
    pair_at Q n L i && not (eqb (corner_label labels (get_or L i 0)) (corner_label labels (get_or L (i + 1) 0)))

-- its two corners
unfoldable pub seam_corners : List ℕ → List ℕ → ℕ → List ℕ → ℕ → List ℕ
seam_corners Q labels n L i = cond (seam_at Q labels n L i) (get_or L i 0 ∷ get_or L (i + 1) 0 ∷ []) []

-- the corners at which strips run, in the order L of the edges
unfoldable pub seams_to : List ℕ → List ℕ → ℕ → List ℕ → ℕ → List ℕ
seams_to Q labels n L i = join_to (seam_corners Q labels n L) i

-- all of them
unfoldable pub seams_of : ℕ → ℕ → List ℕ → List ℕ → List ℕ
seams_of np nq Q labels = seams_to Q labels (4 * nq) (edge_order np nq Q) (4 * nq)

-- ---- the work slice: behind the corners in the order of their edges stand the corners of each point behind where
-- they begin, the masks, the numbers of the copies, and the corners at which strips run

abbrev pub starts_at : ℕ → ℕ → ℕ
starts_at np nq = 9 * (np + nq)

abbrev pub list_at : ℕ → ℕ → ℕ
list_at np nq = 10 * (np + nq)

abbrev pub masks_at : ℕ → ℕ → ℕ
masks_at np nq = 14 * (np + nq)

abbrev pub numbers_at : ℕ → ℕ → ℕ
numbers_at np nq = 15 * (np + nq)

abbrev pub seams_at : ℕ → ℕ → ℕ
seams_at np nq = 23 * (np + nq)

-- the sheet in the slices, of good quads and labels
pub record Labelled (np nq : ℕ) (P : List Float) (Q labels : List ℕ) : Type 0 where
  pub held : Positioned np nq P Q
  pub few : np ≤ limit
  pub labelled : nq ≤ length labels
  pub low : (i : ℕ) → i < nq → get_or labels i 0 ≤ 7

-- the masks and the numbers of the copies in the work slice
pub record Numbered (np nq : ℕ) (M w : List ℕ) : Type 0 where
  pub masks : Part (masks_at np nq) np M w
  pub numbers : Part (numbers_at np nq) (8 * np) (tabulate (number_in np M) (8 * np)) w

-- all that is gathered of the sheet
pub record Worked (np nq : ℕ) (Q labels M w : List ℕ) : Type 0 where
  pub corners : Incident np nq Q (starts_at np nq) (list_at np nq) 0 w
  pub order : Part (order_at np nq) (4 * nq) (edge_order np nq Q) w
  pub numbered : Numbered np nq M w
  pub seams : Part (seams_at np nq) (length (seams_of np nq Q labels)) (seams_of np nq Q labels) w

-- the sheet, and what is gathered of it
pub record Gathered (np nq : ℕ) (P : List Float) (Q labels M w : List ℕ) : Type 0 where
  pub sheet : Labelled np nq P Q labels
  pub some : 0 < nq
  pub work : Worked np nq Q labels M w

-- what the list of the corners at which strips run asks once i places are seen: the order of the edges, and room
pub record Seaming (np nq : ℕ) (Q labels : List ℕ) (i next : ℕ) (w : List ℕ) : Type 0 where
  pub cornered : Cornered np nq Q
  pub labelled : nq ≤ length labels
  pub order : Part (order_at np nq) (4 * nq) (edge_order np nq Q) w
  pub room : seams_at np nq + 8 * nq ≤ length w
  pub next≤ : next ≤ 2 * i
  pub done : Part (seams_at np nq) next (seams_to Q labels (4 * nq) (edge_order np nq Q) i) w

-- the counts of the sheet with rows
abbrev pub counts_after : ℕ → ℕ → List ℕ → List ℕ → List ℕ → Counts
counts_after np nq Q labels M = record {
  points = points_after np M;
  quads = nq + length (seams_of np nq Q labels);
  labels = nq + length (seams_of np nq Q labels);
}

-- what the gathering asks: the masks, and room
pub record Gathering (np nq : ℕ) (Q labels M w : List ℕ) : Type 0 where
  pub cornered : Cornered np nq Q
  pub few : np ≤ limit
  pub some : 0 < nq
  pub labelled : nq ≤ length labels
  pub work : 64 * (np + nq) ≤ length w
  pub masks : Part (masks_at np nq) np M w

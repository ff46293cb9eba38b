-- What the maps of a sheet are in regions of one work slice, and what the search and the walk ask.
use Rattle.std.specs.Prelude.{ℕ, ◌+◌, ◌*◌, ◌≤◌, ◌<◌, List, length, get_or}
use Rattle.lists.specs.Sort.{tabulate}
use Rattle.lists.specs.Regions.{part, Part}
use Rattle.sheet.specs.Edges.{larger}
use Rattle.incidence.specs.Corners.{Known, Cornered, edge_order, corners_at, first_at}
use Rattle.edges.specs.Steps.{first_edge}

-- the edge map: w has the quads at `was`, their corners by edge at `order`, and where those of each smaller point begin
-- at `starts`
pub record EdgeMapHolds (np nq was starts order : ℕ) (w : List ℕ) : Type 0 where
  pub sheet : Cornered np nq (part was (4 * nq) w)
  pub in_was : was + 4 * nq ≤ length w
  pub at : Part order (4 * nq) (edge_order np nq (part was (4 * nq) w)) w
  pub begin : Part starts (np + 1) (tabulate (first_edge np nq (part was (4 * nq) w)) (np + 1)) w

-- the point map: w has the quads at `was`, their corners by point at `order`, and where those of each point begin at
-- `starts`
pub record PointMapHolds (np nq was starts order : ℕ) (w : List ℕ) : Type 0 where
  pub sheet : Cornered np nq (part was (4 * nq) w)
  pub in_was : was + 4 * nq ≤ length w
  pub at : Part order (4 * nq) (corners_at np nq (part was (4 * nq) w)) w
  pub begin : Part starts (np + 1) (tabulate (first_at nq (part was (4 * nq) w)) (np + 1)) w

-- the corners cs are corners of Q, and the larger points of their edges ascend
pub record Ascending (Q cs : List ℕ) : Type 0 where
  pub known : (i : ℕ) → i < length cs → Known Q (get_or cs i 0)
  pub rise : (i j : ℕ) → i ≤ j → j < length cs → larger Q (get_or cs i 0) ≤ larger Q (get_or cs j 0)

-- the corners before lo have larger points below b, those from hi on have not
pub record Narrowed (Q cs : List ℕ) (b lo hi : ℕ) : Type 0 where
  pub lo≤ : lo ≤ hi
  pub hi≤ : hi ≤ length cs
  pub below : (i : ℕ) → i < lo → larger Q (get_or cs i 0) < b
  pub above : (i : ℕ) → hi ≤ i → i < length cs → b ≤ larger Q (get_or cs i 0)

-- n corners stand at `order`, and Q has the quad of each
pub record WalkAsks (Q : List ℕ) (order n : ℕ) (w : List ℕ) : Type 0 where
  pub few : n ≤ 4194304
  pub fits : order + n ≤ length w
  pub known : (i : ℕ) → i < n → Known Q (get_or (part order n w) i 0)

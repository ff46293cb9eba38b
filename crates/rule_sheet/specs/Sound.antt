-- Sheets that demand 3 may start from, and what it counts of them. Document 01, "The finer sheet and the rows".
use Rattle.std.specs.Prelude.{ℕ, ◌+◌, ◌≡◌, true, false, length}
use Rattle.rule_sheet.specs.Edges.{edges_of}
use Rattle.rule_sheet.specs.Tests.{good_corners, good_masks}
use Rattle.rule_sheet.specs.Sheet.{Sheet, counts_of, is_bare}
use Rattle.rule_sheet.specs.Lent.{is_large}
use Rattle.rule_sheet.specs.Closed.{Closed, Rings}
use Rattle.rule_sheet.specs.Squared.{squared}

-- "In demand 3 a sheet is accepted if 12, 5, 6 and 7 find nothing in it"
pub record AcceptedSheet (s : Sheet) : Type 0 where
  pub not_large : is_large (counts_of s) ≡ false
  pub not_bare : is_bare s ≡ false
  pub corners : good_corners (length s.points) s.quads s.labels ≡ true
  pub masks : good_masks (length s.points) s.quads s.labels ≡ true

-- demand 3's start, and what holds after every list: accepted, closed, and one ring at each point
pub record Sound (s : Sheet) : Type 0 where
  pub accepted : AcceptedSheet s
  pub closed : Closed s.quads
  pub rings : Rings s.quads

-- the number of edges
abbrev pub edge_count : Sheet → ℕ
edge_count s = length (edges_of (length s.points) s.quads)

-- points minus edges plus quads is the same for both
unfoldable pub SameEuler : Sheet → Sheet → Type 0
SameEuler s t =
    length t.points + length t.quads + edge_count s ≡ length s.points + length s.quads + edge_count t

-- demand 3's sum of a sheet
abbrev pub squared_of : Sheet → ℕ
squared_of s = squared (length s.points) s.quads

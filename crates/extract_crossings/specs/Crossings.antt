-- The path of a crossing: the decisions of its halvings.
use Rattle.std.specs.Prelude.{ℕ, zero, suc, ◌+◌, ◌*◌, ◌/◌, ◌%◌, ◌^◌, ◌<◌, Bool, cond, eqb}
use Rattle.points.specs.declared.Point.{Point}
use Rattle.rule_extract.specs.declared.Grid.{Grid}
use Rattle.rule_extract.specs.declared.Site.{Site}
use Rattle.rule_extract.specs.Samples.{is_inside}
use Rattle.rule_extract.specs.Grids.{grid_point}
use Rattle.rule_extract.specs.declared.Span.{Span}
use Rattle.rule_extract.specs.Crossings.{edge_span, mid_of, keeps, narrowed, halvings}

-- a place whose next ones can be counted
pub record Near (c : Site) : Type 0 where
  pub x< : c.x < 2 ^ 32
  pub y< : c.y < 2 ^ 32
  pub z< : c.z < 2 ^ 32

-- ---- paths

-- the decisions of n halvings as the bits of a number, the first one lowest
unfoldable pub path_from : ℕ → Grid → Bool → Span → ℕ
path_from zero g sign s = 0
path_from (suc n) g sign s = cond (keeps g sign s) 1 0 + 2 * path_from n g sign (narrowed s (keeps g sign s))

-- the middle after n halvings by the decisions of a path
unfoldable pub replay_from : ℕ → Span → ℕ → Point
replay_from zero s p = mid_of s
replay_from (suc n) s p = replay_from n (narrowed s (eqb (p % 2) 1)) (p / 2)

-- the path of the crossing of the edge from a place along an axis
abbrev pub path_of : Grid → Site → ℕ → ℕ
path_of g c axis = path_from halvings g (is_inside g (grid_point g c)) (edge_span g c axis)

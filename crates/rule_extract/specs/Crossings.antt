-- The crossing of an edge of the grid, and its path. Document 01, "The drawn sheet".
use Rattle.std.specs.Prelude.{ℕ, zero, suc, ◌+◌, Bool, cond, eqb}
use Rattle.std.specs.Bool.{beq}
use Rattle.points.specs.declared.Point.{Point}
use Rattle.points.specs.Points.{halfway_p}
use Rattle.rule_extract.specs.declared.Grid.{Grid}
use Rattle.rule_extract.specs.declared.Site.{Site}
use Rattle.rule_extract.specs.Samples.{sample_of, is_inside}
use Rattle.rule_extract.specs.Grids.{grid_point}
use Rattle.rule_extract.specs.declared.Span.{Span}

-- the next place along an axis
unfoldable pub next_site : Site → ℕ → Site
next_site c axis =
    cond (eqb axis 0) (record { x = c.x + 1; y = c.y; z = c.z })
    (cond (eqb axis 1) (record { x = c.x; y = c.y + 1; z = c.z }) (record { x = c.x; y = c.y; z = c.z + 1 }))

-- the edge from a place along an axis
unfoldable pub edge_span : Grid → Site → ℕ → Span
edge_span g c axis = record { a = grid_point g c; b = grid_point g (next_site c axis) }

-- the middle of a span
unfoldable pub mid_of : Span → Point
mid_of s = halfway_p s.a s.b

-- the middle has the sign of the first end
unfoldable pub keeps : Grid → Bool → Span → Bool
keeps g sign s = beq (is_inside g (mid_of s)) sign

-- the half of a span that begins at its middle, or the one that ends there
unfoldable pub narrowed : Span → Bool → Span
narrowed s keep = cond keep (record { a = mid_of s; b = s.b }) (record { a = s.a; b = mid_of s })

-- the middle after n halvings
unfoldable pub halved : ℕ → Grid → Bool → Span → Point
halved zero g sign s = mid_of s
halved (suc n) g sign s = halved n g sign (narrowed s (keeps g sign s))

-- "A crossing is halved 32 times."
abbrev pub halvings : ℕ
halvings = 32

-- the crossing of the edge from a place along an axis
unfoldable pub crossing_of : Grid → Site → ℕ → Point
crossing_of g c axis = halved halvings g (is_inside g (grid_point g c)) (edge_span g c axis)

-- the level or face that is crossed there
unfoldable pub crossed_label : Grid → Site → ℕ → ℕ
crossed_label g c axis = (sample_of g (crossing_of g c axis)).label

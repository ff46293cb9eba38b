-- Quads by the places of their corners. `at` places the points.
use Rattle.std.specs.Prelude.{ℕ}
use Rattle.points.specs.declared.Point.{Point}
use Rattle.points.specs.Points.{centre_p}
use Rattle.rule_sheet.specs.Quads.{Quad, quad}

-- the centre of a quad
unfoldable pub centre_of : (ℕ → Point) → Quad → Point
centre_of at (quad a b c d) = centre_p (at a) (at b) (at c) (at d)

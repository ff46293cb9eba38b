-- What the code does with points in a slice of coordinates.
use Rattle.std.specs.Prelude.{ℕ, ◌+◌, ◌*◌, List, set, Float}
use Rattle.points.specs.declared.Point.{Point}

-- the list with the point p at place i
unfoldable pub with_point : List Float → ℕ → Point → List Float
with_point l i p = set (set (set l (i * 3) p.x) (i * 3 + 1) p.y) (i * 3 + 2) p.z

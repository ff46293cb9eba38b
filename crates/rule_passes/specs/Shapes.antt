-- The shapes of quads by the places of their corners, and the figures that swaps and merges hold them against. `at`
-- places the points.
use Rattle.std.specs.Prelude.{ℕ, Bool, not, Float}
use Rattle.std.specs.Float.{binary64}
use Rattle.std.specs.Float.Ieee.{lt, of_bits}
use Rattle.numeric.specs.Num.{quarter, min_of}
use Rattle.points.specs.declared.Point.{Point}
use Rattle.shape.specs.Shapes.{shape_of}
use Rattle.rule_sheet.specs.Quads.{Quad, quad}

-- ---- figures

-- 0.25: "no less than the smaller of the old and 0.25"
abbrev pub good_shape : Float
good_shape = quarter

-- 0.02: "if the least shape rises by 0.02 or more"
abbrev pub least_rise : Float
least_rise = of_bits binary64 0x3f94_7ae1_47ae_147b

-- ---- shapes

-- the shape of a quad with the normal n
unfoldable pub quad_shape : (ℕ → Point) → Point → Quad → Float
quad_shape at n (quad a b c d) = shape_of (at a) (at b) (at c) (at d) n

-- the new shape is "no less than the smaller of the old and 0.25"
unfoldable pub no_worse : Float → Float → Bool
no_worse next old = not (lt next (min_of old good_shape))

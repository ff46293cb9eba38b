-- Samples of a band. Document 01, "The drawn sheet", and `sample` in `extract_candidate` of 000.
use Rattle.std.specs.Prelude.{ℕ, ◌+◌, Bool, cond, Float}
use Rattle.std.specs.Float.{binary64}
use Rattle.std.specs.Float.Ieee.{div, lt}
use Rattle.numeric.specs.Num.{zero_f}
use Rattle.points.specs.declared.Point.{Point}
use Rattle.points.specs.Points.{◌⊖◌}
use Rattle.field.specs.Fields.{value_of}
use Rattle.rule_extract.specs.declared.Sampled.{Sampled}
use Rattle.rule_extract.specs.declared.Grid.{Grid}

-- "a later one only if greater"
unfoldable pub farther_of : Sampled → Float → ℕ → Sampled
farther_of best d l = cond (lt best.distance d) (record { distance = d; label = l }) best

-- "the scaled upper distance, the scaled lower one"
unfoldable pub levels_of : Float → Float → Float → Float → Sampled
levels_of v lower upper scale =
    farther_of (record { distance = div binary64 (v ⊖ upper) scale; label = 0 }) (div binary64 (lower ⊖ v) scale) 1

-- the two box distances of an axis, whose low face has the label l
unfoldable pub axis_of : Sampled → Float → Float → Float → ℕ → Sampled
axis_of best lo hi x l = farther_of (farther_of best (lo ⊖ x) l) (x ⊖ hi) (l + 1)

-- "`sample` takes the largest of the scaled upper distance, the scaled lower one and the six box distances, a later
-- one only if greater."
unfoldable pub sample_of : Grid → Point → Sampled
sample_of g p =
    axis_of (axis_of (axis_of (levels_of (value_of g.field p) g.lower g.upper g.scale) g.low.x g.high.x
    p.x 2) g.low.y g.high.y p.y 4)
    g.low.z g.high.z p.z 6

-- the sample at a point is negative
unfoldable pub is_inside : Grid → Point → Bool
is_inside g p = lt (sample_of g p).distance zero_f

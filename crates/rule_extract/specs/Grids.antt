-- The grid that extraction lays over the box of a band. Document 01, "The drawn sheet".
use Rattle.std.specs.Prelude.{ℕ, Bool, cond, eqb, Float}
use Rattle.std.specs.Float.{binary64}
use Rattle.std.specs.Float.Ieee.{div, of_bits}
use Rattle.numeric.specs.Num.{half, float}
use Rattle.points.specs.declared.Point.{Point}
use Rattle.points.specs.Points.{◌⊕◌, ◌⊖◌, ◌⊗◌}
use Rattle.setting.specs.Settings.{Domain, band_in}
use Rattle.band.specs.Bands.{length_of}
use Rattle.rule_extract.specs.declared.Grid.{Grid}
use Rattle.rule_extract.specs.declared.Site.{Site}

-- 0.513
abbrev pub below : Float
below = of_bits binary64 0x3fe0_6a7e_f9db_22d1

-- "Step h per axis is box side ÷ cells"
unfoldable pub step_of : Float → Float → ℕ → Float
step_of lo hi cells = div binary64 (hi ⊖ lo) (float cells)

-- "the grid starts 0.513·h below the box"
unfoldable pub start_of : Float → Float → Float
start_of lo h = lo ⊖ below ⊗ h

-- the scale of the levels: their distance over the length of the box diagonal
unfoldable pub scale_of : Domain → Float
scale_of d = let b = band_in d in div binary64 (b.upper ⊖ b.lower) (length_of b)

-- the steps along the three axes
unfoldable pub steps_of : Point → Point → ℕ → Point
steps_of low high cells =
    record {
      x = step_of low.x high.x cells;
      y = step_of low.y high.y cells;
      z = step_of low.z high.z
          cells;
    }

-- where the grid starts, by its steps
unfoldable pub starts_of : Point → Point → Point
starts_of low h = record { x = start_of low.x h.x; y = start_of low.y h.y; z = start_of low.z h.z }

-- the grid of a domain
unfoldable pub grid_of : Domain → ℕ → Grid
grid_of d cells = let b = band_in d in record {
  field = b.field;
  low = b.low;
  high = b.high;
  lower = b.lower;
  upper = b.upper;
  scale = scale_of d;
  start = starts_of b.low (steps_of b.low b.high cells);
  step = steps_of b.low b.high cells;
}

-- c steps from the start of an axis
unfoldable pub coordinate_of : Float → Float → ℕ → Float
coordinate_of start step c = start ⊕ float c ⊗ step

-- the point of the grid at a place
unfoldable pub grid_point : Grid → Site → Point
grid_point g c = record {
  x = coordinate_of g.start.x g.step.x c.x;
  y = coordinate_of g.start.y g.step.y c.y;
  z = coordinate_of g.start.z g.step.z c.z;
}

-- a coordinate of a face's centre: c steps from the start on the face's own axis, half a step more on the others
unfoldable pub middle_of : Float → Float → ℕ → Bool → Float
middle_of start step c own = cond own (coordinate_of start step c) (start ⊕ (float c ⊕ half) ⊗ step)

-- the centre of the face that is square to an axis and begins at the place c
unfoldable pub face_centre : Grid → Site → ℕ → Point
face_centre g c axis = record {
  x = middle_of g.start.x g.step.x c.x (eqb axis 0);
  y = middle_of g.start.y g.step.y c.y (eqb axis 1);
  z = middle_of g.start.z g.step.z c.z (eqb axis 2);
}

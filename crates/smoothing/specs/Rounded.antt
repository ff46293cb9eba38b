-- The arithmetic of IEEE 754 binary64, every operation rounded to nearest, for one coordinate and for three at once.
use Rattle.std.specs.Prelude.{ℕ, Float}
use Rattle.std.specs.Float.{binary64}
use Rattle.std.specs.Float.Ieee.{add, sub, mul, div}
use Rattle.numeric.specs.Num.{float}
use Rattle.points.specs.declared.Point.{Point}
use Rattle.points.specs.Points.{one, add_p, sub_p, times_p}
use Rattle.smoothing.specs.Arithmetic.{Arithmetic}

-- 1.0 / n as f64
unfoldable pub reciprocal_of : ℕ → Float
reciprocal_of n = div binary64 one (float n)

-- IEEE 754 binary64
abbrev pub rounded : Arithmetic
rounded =
    record {
      Number = Float;
      plus = add binary64;
      minus = sub binary64;
      times = mul binary64;
      whole = float;
      reciprocal = reciprocal_of;
    }

-- the point whose three coordinates are s
abbrev pub each : Float → Point
each s = record { x = s; y = s; z = s }

-- the same for points, coordinate by coordinate
abbrev pub pointwise : Arithmetic
pointwise =
    record {
      Number = Point;
      plus = add_p;
      minus = sub_p;
      times = times_p;
      whole = λ n. each (float n);
      reciprocal = λ n. each (reciprocal_of n);
    }

-- The band that an export is told is made of what is read from its slices. Assumes nothing.
use Prim.Native.Nat.{ℕ}
use mathlib.Core.Path.{◌≡◌, refl}
use mathlib.Core.List.{List}
use lib.Ieee.{Float, nan, of_bits, binary64}
use lib.ListN.{get_or}
use Rattle.points.specs.Points.{point_at}
use Rattle.field.specs.declared.Field.{Field}
use Rattle.rule_exports.specs.Told.{told_of, coefficients_of, field_of, lower_of, band_of}

-- the value of `f64::NAN`
pub nan-bits : of_bits binary64 9221120237041090560 ≡ nan
unfolding of_bits
nan-bits = refl

pub band-read : (kind : ℕ) (numbers bounds : List Float) (lower upper : Float) {a b c d e f l : Float} {g : Field} → a ≡ get_or bounds 0 nan → b ≡ get_or bounds 1 nan → c ≡ get_or bounds 2 nan
    → d ≡ get_or bounds 3 nan → e ≡ get_or bounds 4 nan → f ≡ get_or bounds 5 nan → g ≡ field_of kind (coefficients_of numbers) → l ≡ lower_of kind lower
    → record { low = record { x = a; y = b; z = c }; high = record { x = d; y = e; z = f }; lower = l; upper = upper; field = g } ≡ band_of (told_of kind numbers bounds lower upper)
unfolding band_of point_at
band-read kind numbers bounds lower upper ea eb ec ed ee ef eg el = rw (ea, eb, ec, ed, ee, ef, eg, el)

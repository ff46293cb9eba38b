-- The rule for points, written with the operations on points and the literals of the code. Assumes nothing.
use Prim.Native.Nat.{ℕ}
use mathlib.Core.Path.{◌≡◌, refl}
use lib.Ieee.{Float, binary64, sub, div, of_int, of_bits}
use Rattle.numeric.specs.Num.{zero_f, quarter, half, float}
use Rattle.points.specs.declared.Point.{Point}
use Rattle.points.specs.Points.{two, add_p, sub_p, mul_p, times_p, origin, centre_p}
use Rattle.smoothing.specs.Smooth.{mean, quad_centre, edge_point, crease_point, interior_by}
use Rattle.smoothing.specs.Rounded.{reciprocal_of, each, pointwise}

-- 3.0
abbrev pub three : Float
three = of_bits binary64 0x4008_0000_0000_0000

-- 6.0
abbrev pub six : Float
six = of_bits binary64 0x4018_0000_0000_0000

-- 0.125
abbrev pub eighth : Float
eighth = of_bits binary64 0x3fc0_0000_0000_0000

pub whole-0 : float 0 ≡ zero_f
unfolding float of_int of_bits
whole-0 = refl

pub whole-2 : float 2 ≡ two
unfolding float of_int of_bits
whole-2 = refl

pub whole-3 : float 3 ≡ three
unfolding float of_int of_bits
whole-3 = refl

pub whole-6 : float 6 ≡ six
unfolding float of_int of_bits
whole-6 = refl

pub reciprocal-2 : reciprocal_of 2 ≡ half
unfolding reciprocal_of float div of_int of_bits
reciprocal-2 = refl

pub reciprocal-4 : reciprocal_of 4 ≡ quarter
unfolding reciprocal_of float div of_int of_bits
reciprocal-4 = refl

pub reciprocal-8 : reciprocal_of 8 ≡ eighth
unfolding reciprocal_of float div of_int of_bits
reciprocal-8 = refl

-- a product by three equal coordinates
times-each : (a : Point) (s : Float) → times_p a (each s) ≡ mul_p a s
unfolding times_p mul_p
times-each a s = refl

minus-each : (s t : Float) → sub_p (each s) (each t) ≡ each (sub binary64 s t)
unfolding sub_p
minus-each s t = refl

pub mean-by : (a : Point) (n : ℕ) → mean pointwise a n ≡ mul_p a (reciprocal_of n)
mean-by a n = times-each a (reciprocal_of n)

-- sums of points start from the origin
pub origin-by : pointwise.whole 0 ≡ origin
origin-by = rw whole-0

-- the centre of a quad is that of its four points
pub centre-by : (p q r s : Point) → quad_centre pointwise p q r s ≡ centre_p p q r s
unfolding quad_centre centre_p
centre-by p q r s = simp (times-each, whole-0, reciprocal-4)

pub edge_by : (a b f g : Point) → edge_point pointwise a b f g ≡ mul_p (add_p (add_p a b) (add_p f g)) quarter
unfolding edge_point
edge_by a b f g = simp (times-each, reciprocal-4)

pub crease-by : (p a b : Point) → crease_point pointwise p a b ≡ mul_p (add_p (mul_p p six) (add_p a b)) eighth
unfolding crease_point
crease-by p a b = simp (times-each, whole-6, reciprocal-8)

pub interior-by : (p : Point) (n : ℕ) (F : Point) (m : ℕ) (R : Point)
    → interior_by pointwise p n F m R
    ≡ mean pointwise
    (add_p
    (add_p (mean pointwise F n) (mul_p (mean pointwise R m) two))
    (mul_p p (sub binary64 (float n) three)))
    n
unfolding interior_by
interior-by p n F m R = simp (minus-each, times-each, whole-2, whole-3)

-- In swaps and merges a NaN normal gives shape 1: every corner is a NaN, and `min` drops it. Assumes nothing.
use mathlib.Core.Path.{◌≡◌, refl}
use mathlib.Core.Logic.{◌⊎◌, inl, inr}
use lib.Ieee.{Float, nan, inf, fin, binary64, add, mul, div, lt, eq, ne, of_bits}
use Rattle.numeric.specs.Num.{min_of}
use Rattle.points.specs.declared.Point.{Point}
use Rattle.points.specs.Points.{one, dot_p, cross_p}
use Rattle.shape.specs.Shapes.{corner_of, shape_of}

-- a coordinate is a NaN
abbrev pub HasNan : Point → Type 0
HasNan n = (n.x ≡ nan) ⊎ ((n.y ≡ nan) ⊎ (n.z ≡ nan))

mul-nan : (x : Float) → mul binary64 x nan ≡ nan
unfolding mul
mul-nan nan = refl
mul-nan (inf s) = refl
mul-nan (fin s m e) = refl

add-nan : (x : Float) → add binary64 x nan ≡ nan
unfolding add
add-nan nan = refl
add-nan (inf s) = refl
add-nan (fin s m e) = refl

nan-add : (x : Float) → add binary64 nan x ≡ nan
unfolding add
nan-add x = refl

nan-div : (x : Float) → div binary64 nan x ≡ nan
unfolding div
nan-div x = refl

dot-nan : (a n : Point) → HasNan n → dot_p a n ≡ nan
unfolding dot_p
dot-nan a n (inl h) = simp (h, mul-nan, add-nan, nan-add)
dot-nan a n (inr (inl h)) = simp (h, mul-nan, add-nan, nan-add)
dot-nan a n (inr (inr h)) = simp (h, mul-nan, add-nan)

corner-nan : (e b n : Point) → HasNan n → corner_of e b n ≡ nan
unfolding corner_of
corner-nan e b n h = simp (dot-nan (cross_p e b) n h, mul-nan, nan-div)

min-one-nan : min_of one nan ≡ one
unfolding min_of lt ne eq of_bits
min-one-nan = refl

pub shape-nan-normal : (p q r s n : Point) → HasNan n → shape_of p q r s n ≡ one
unfolding shape_of
shape-nan-normal p q r s n h = go (λ e b. corner-nan e b n h)
  where
    go : ((e b : Point) → corner_of e b n ≡ nan) → shape_of p q r s n ≡ one
    go k = simp (k, min-one-nan)

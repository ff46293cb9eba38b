-- The band: its length, gradient, normal, and the two tests of its figures.
use Rattle.std.specs.Prelude.{ℕ, ◌%◌, Bool, not, ◌&&◌, ◌||◌, cond, eqb, ltb, Float, Some, None, Option}
use Rattle.std.specs.Float.{binary64}
use Rattle.std.specs.Float.Ieee.{div, neg, lt, le, eq, of_bits}
use Rattle.numeric.specs.Num.{zero_f, finite_of}
use Rattle.points.specs.declared.Point.{Point}
use Rattle.points.specs.Points.{◌⊕◌, ◌⊖◌, ◌⊗◌, one, two, sub_p, mul_p, norm_p, unit_p}
use Rattle.field.specs.declared.Field.{Field}
use Rattle.field.specs.Fields.{value_of, field_gradient_of}
use Rattle.band.specs.declared.Band.{Band}

-- length is the box diagonal
unfoldable pub length_of : Band → Float
length_of b = norm_p (sub_p b.high b.low)

-- ---- the gradient; a definition `..With` takes the band's length as a number

-- 1e-6
abbrev pub step : Float
step = of_bits binary64 0x3eb0_c6f7_a0b5_ed8d

-- the central difference of the field's value between two points, h to either side
unfoldable pub difference_of : Field → Point → Point → Float → Float
difference_of f a b h = div binary64 (value_of f a ⊖ value_of f b) (two ⊗ h)

-- central differences at p, h to either side
unfoldable pub central_of : Field → Point → Float → Point
central_of f p h = record {
  x = difference_of f (record { x = p.x ⊕ h; y = p.y; z = p.z }) (record { x = p.x ⊖ h; y = p.y; z = p.z }) h;
  y = difference_of f (record { x = p.x; y = p.y ⊕ h; z = p.z }) (record { x = p.x; y = p.y ⊖ h; z = p.z }) h;
  z = difference_of f (record { x = p.x; y = p.y; z = p.z ⊕ h }) (record { x = p.x; y = p.y; z = p.z ⊖ h }) h;
}

-- a field's own gradient, or else q
abbrev pub own_or : Option Point → Point → Point
own_or (Some g) q = g
own_or None q = q

-- without a gradient of the field's own, central differences with h = length × 1e-6
unfoldable pub gradient_with : Field → Float → Point → Point
gradient_with f len p = own_or (field_gradient_of f p) (central_of f p (len ⊗ step))

-- ---- normals

-- -1 on a low face, 1 on a high one
unfoldable pub side_of : ℕ → Float
side_of l = cond (eqb (l % 2) 0) (neg one) one

-- label 0 is the upper level, 1 the lower
unfoldable pub level_sign_of : ℕ → Float
level_sign_of l = cond (eqb l 0) one (neg one)

-- 2 and 3 are the low and high box faces in x, 4 and 5 in y, 6 and 7 in z
unfoldable pub face_normal_of : ℕ → Point
face_normal_of l =
    cond (ltb l 4) (record { x = side_of l; y = zero_f; z = zero_f })
    (cond (ltb l 6) (record { x = zero_f; y = side_of l; z = zero_f })
    (record { x = zero_f; y = zero_f; z = side_of l }))

-- the outward normal at p: a level's along the gradient, a face's along its axis
unfoldable pub normal_with : Field → Float → Point → ℕ → Point
normal_with f len p l = cond (ltb l 2) (mul_p (unit_p (gradient_with f len p)) (level_sign_of l)) (face_normal_of l)

-- the outward normal at p on the face or level of a label
unfoldable pub normal_of : Band → Point → ℕ → Point
normal_of b p l = normal_with b.field (length_of b) p l

-- ---- the two tests of a band

-- the bounds of one axis are finite and in order
unfoldable pub axis_valid_of : Float → Float → Bool
axis_valid_of lo hi = finite_of lo && finite_of hi && lt lo hi

-- the box has finite bounds in order, and a length that is finite and not 0
unfoldable pub box_valid_of : Band → Bool
box_valid_of b =
    axis_valid_of b.low.x b.high.x && axis_valid_of b.low.y b.high.y
    && axis_valid_of b.low.z b.high.z && finite_of (length_of b) && not (le (length_of b) zero_f)

-- both levels are finite, and they are in order
unfoldable pub levels_valid_of : Float → Float → Bool
levels_valid_of lower upper = finite_of lower && finite_of upper && lt lower upper

-- the upper level is finite, the lower one finite or minus infinity, and they are in order
unfoldable pub measurable_levels_of : Float → Float → Bool
measurable_levels_of lower upper =
    (finite_of lower || eq lower (div binary64 (neg one) zero_f)) && finite_of upper && lt lower upper

-- levels and box pass `validate`, and "a lower level that is not finite" is refused (document 02, Point 12)
unfoldable pub valid_of : Band → Bool
valid_of b = levels_valid_of b.lower b.upper && box_valid_of b

-- "the old rule", by which a sheet is measured: levels and box pass `validate` as it is in 000
unfoldable pub measurable_of : Band → Bool
measurable_of b = measurable_levels_of b.lower b.upper && box_valid_of b

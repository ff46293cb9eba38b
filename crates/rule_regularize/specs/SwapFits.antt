-- What a swap's rule reads of the points. Document 01, "The swapped sheet".
use Rattle.std.specs.Prelude.{ℕ, Bool, not, cond, ◌&&◌, ◌||◌, List, get_or, eqb, Float}
use Rattle.std.specs.Float.{binary64}
use Rattle.std.specs.Float.Ieee.{div, lt, of_bits}
use Rattle.numeric.specs.Num.{min_of}
use Rattle.points.specs.declared.Point.{Point}
use Rattle.points.specs.Points.{◌⊕◌, one, add_p, mul_p, origin, point_in}
use Rattle.field.specs.declared.Field.{Field}
use Rattle.setting.specs.Settings.{Setting, band_in, domain_in}
use Rattle.band.specs.Bands.{length_of, normal_with}
use Rattle.rule_sheet.specs.Quads.{Quad, quad}
use Rattle.rule_regularize.specs.Swaps.{Hex, Fits}
use Rattle.rule_passes.specs.Choices.{none_quad}
use Rattle.rule_regularize.specs.declared.Held.{Held}
use Rattle.rule_passes.specs.Shapes.{least_rise, quad_shape, no_worse}

-- 1.0 / 6.0
abbrev pub sixth : Float
sixth = div binary64 one (of_bits binary64 0x4018_0000_0000_0000)

-- "the mean of the six corners": their sum in order, from 0.0 on, times 1.0 / 6.0
unfoldable pub hex_centre : (ℕ → Point) → Hex → Point
hex_centre at h =
    mul_p (add_p (add_p (add_p (add_p (add_p (add_p origin (at h.h0)) (at h.h1)) (at h.h2)) (at h.h3))
    (at h.h4)) (at h.h5)) sixth

-- the lesser shape of two quads
unfoldable pub lesser_shape : (ℕ → Point) → Point → Quad → Quad → Float
lesser_shape at n q r = min_of (quad_shape at n q) (quad_shape at n r)

-- what both diagonals are measured by: "n is the normal at the mean of the six corners", and the old shape is the
-- lesser of the two quads q and r
unfoldable pub held_of : Field → Float → (ℕ → Point) → ℕ → Quad → Quad → Hex → Held
held_of f len at l q r h =
    let n = normal_with f len (hex_centre at h) l in
    record { normal = n; old = lesser_shape at n q r }

-- the lesser shape of the two quads that the diagonal k makes, from h1 to h4 or from h2 to h5
unfoldable pub next_shape : (ℕ → Point) → Hex → ℕ → Point → Float
next_shape at h k n =
    cond (eqb k 1)
    (lesser_shape at n (quad h.h1 h.h2 h.h3 h.h4) (quad h.h1 h.h4 h.h5 h.h0))
    (lesser_shape at n (quad h.h2 h.h3 h.h4 h.h5) (quad h.h2 h.h5 h.h0 h.h1))

-- "improve_layout also takes 0 if the least shape rises by 0.02 or more. The new shape is no less than the smaller
-- of the old and 0.25."
unfoldable pub shape_fits : Float → Float → Bool → Bool
shape_fits next old positive = (positive || not (lt next (old ⊕ least_rise))) && no_worse next old

-- the diagonal k fits
unfoldable pub next_fits : (ℕ → Point) → Hex → ℕ → Held → Bool → Bool
next_fits at h k held positive = shape_fits (next_shape at h k held.normal) held.old positive

-- the part of the swaps' rule that reads the points, by a field and the length of its band: the quads i and j as
-- they stand, their six corners, the diagonal k, and whether the gain is more than 0
unfoldable pub fits_with : Field → Float → List Point → List ℕ → Fits
fits_with f len ps labels S i j h k positive =
    next_fits (point_in ps) h k
    (held_of f len (point_in ps) (get_or labels i 0) (get_or S i none_quad) (get_or S j none_quad) h)
    positive

-- the same by what a call brings
unfoldable pub swap_fits : Setting → List Point → List ℕ → Fits
swap_fits s ps labels = let b = band_in (domain_in s) in fits_with b.field (length_of b) ps labels

-- Projection: it puts masked box coordinates on their faces, and for a level it then looks up to 20 times.
use Rattle.std.specs.Prelude.{ℕ, zero, suc, ◌/◌, ◌%◌, Bool, true, false, not, ◌&&◌, ◌||◌, cond, eqb, leb, Float, Some}
use Rattle.std.specs.Prelude.{None, Option}
use Rattle.std.specs.Float.{binary64}
use Rattle.std.specs.Float.Ieee.{div, neg, lt, le, of_bits}
use Rattle.numeric.specs.Num.{zero_f, twentieth, finite_of, abs_of, clamp_of}
use Rattle.points.specs.declared.Point.{Point}
use Rattle.points.specs.Points.{◌⊕◌, ◌⊖◌, ◌⊗◌, one, sub_p, mul_p, times_p, norm_p, unit_by, origin}
use Rattle.field.specs.declared.Field.{Field}
use Rattle.field.specs.Fields.{value_of}
use Rattle.band.specs.declared.Band.{Band}
use Rattle.band.specs.Bands.{length_of, gradient_with}
use Rattle.setting.specs.Settings.{Setting, band_in, domain_in}
use Rattle.projection.specs.declared.Look.{Look}
use Rattle.projection.specs.declared.Look.TheVariants.{Singular, Arrived, Moved}

-- ---- figures

-- 0.05: a move is at most length × 0.05
abbrev pub longest_move : Float
longest_move = twentieth

-- it looks up to 20 times
abbrev pub look_count : ℕ
look_count = 20

-- the smallest normal f64
abbrev pub smallest : Float
smallest = of_bits binary64 0x0010_0000_0000_0000

-- 1e-12
abbrev pub arrival : Float
arrival = of_bits binary64 0x3d71_9799_812d_ea11

-- 1e-10
abbrev pub beyond : Float
beyond = of_bits binary64 0x3ddb_7cdf_d9d7_bdbb

-- ---- faces

-- the two face bits of the axis whose low face has the given weight in a mask: 4, 16 or 64
unfoldable pub axis_bits : ℕ → ℕ → ℕ
axis_bits mask weight = mask / weight % 4

-- 1 on an axis with no face, 0 on the others
unfoldable pub freedom_of : ℕ → Float
freedom_of bits = cond (eqb bits 0) one zero_f

-- the axes along which a point of a mask may move
unfoldable pub free_part_of : ℕ → Point
free_part_of mask =
    record { x = freedom_of (axis_bits mask 4); y = freedom_of (axis_bits mask 16); z = freedom_of (axis_bits mask 64) }

-- a coordinate on its face; the high face comes last
unfoldable pub on_face_of : ℕ → Float → Float → Float → Float
on_face_of bits v lo hi = cond (leb 2 bits) hi (cond (eqb bits 1) lo v)

-- projection puts masked box coordinates on their faces
unfoldable pub on_faces_of : Point → Point → Point → ℕ → Point
on_faces_of low high p mask = record {
  x = on_face_of (axis_bits mask 4) p.x low.x high.x;
  y = on_face_of (axis_bits mask 16) p.y low.y high.y;
  z = on_face_of (axis_bits mask 64) p.z low.z high.z;
}

-- ---- looks

-- bit 0 of a mask aims at the upper level, the second of the two
unfoldable pub target_of : Float → Float → ℕ → Float
target_of lower upper mask = cond (eqb (mask % 2) 1) upper lower

-- a residual or norm that is not finite, or a norm not above the smallest normal f64, refuses
unfoldable pub singular_of : Float → Float → Bool
singular_of residual gn = not (finite_of residual) || not (finite_of gn) || le gn smallest

-- being within length × 1e-12
unfoldable pub arrived_of : Float → Float → Bool
arrived_of distance len = le (abs_of distance) (len ⊗ arrival)

-- the point after a move of at most length × longest against the gradient g, whose norm is gn
unfoldable pub moved_of : Point → Point → Float → Float → Float → Float → Point
moved_of p g gn distance len longest =
    sub_p p (mul_p (unit_by g gn) (clamp_of distance (neg len ⊗ longest) (len ⊗ longest)))

-- a look by the residual and the gradient's free part g: the distance is the residual over the norm of g
unfoldable pub look_with : Point → Point → Float → Float → Float → Look
look_with p g residual len longest =
    cond (singular_of residual (norm_p g)) Singular
    (cond (arrived_of (div binary64 residual (norm_p g)) len) Arrived
    (Moved (moved_of p g (norm_p g) (div binary64 residual (norm_p g)) len longest)))

-- a look from p for the level t
unfoldable pub look_of : Field → Float → Float → Float → Point → Point → Look
look_of f len longest t free p = look_with p (times_p (gradient_with f len p) free) (value_of f p ⊖ t) len longest

-- what a look says, with what follows a move
abbrev pub after_look : Look → Point → (Point → Option Point) → Option Point
after_look Singular p k = None
after_look Arrived p k = Some p
after_look (Moved q) p k = k q

-- n looks are left. Being within length × 1e-12 must show in one of them, so a point that arrives with the last move
-- is refused.
unfoldable pub walk_from : ℕ → Field → Float → Float → Float → Point → Point → Option Point
walk_from zero f len longest t free p = None
walk_from (suc n) f len longest t free p =
    after_look (look_of f len longest t free p) p (walk_from n f len longest t free)

-- ---- the close

-- a coordinate is finite and at most `slack` outside its bounds
unfoldable pub within_of : Float → Float → Float → Float → Bool
within_of v lo hi slack = finite_of v && not (lt v (lo ⊖ slack)) && not (lt (hi ⊕ slack) v)

-- length × 1e-10 beyond the box is allowed
unfoldable pub inside_of : Point → Point → Point → Float → Bool
inside_of low high p len =
    within_of p.x low.x high.x (len ⊗ beyond) && within_of p.y low.y high.y (len ⊗ beyond)
    && within_of p.z low.z high.z (len ⊗ beyond)

-- the point itself if it is inside
unfoldable pub close_of : Point → Point → Point → Float → Option Point
close_of low high p len = cond (inside_of low high p len) (Some p) None

-- a walk's answer, closed
abbrev pub close_after : Point → Point → Float → Option Point → Option Point
close_after low high len (Some q) = close_of low high q len
close_after low high len None = None

-- the projection with the band's length, the longest move as a part of it, and the number of looks
unfoldable pub project_with : Band → Float → Float → ℕ → Point → ℕ → Option Point
project_with b len longest looks p mask =
    let q = on_faces_of b.low b.high p mask in
    let t = target_of b.lower b.upper mask in
    cond (eqb (mask % 4) 0) (close_of b.low b.high q len)
    (close_after b.low b.high len (walk_from looks b.field len longest t (free_part_of mask) q))

-- the projection of a call: a move is at most length × 0.05, and it looks up to 20 times
unfoldable pub project_of : Setting → Point → ℕ → Option Point
project_of s p mask = let b = band_in (domain_in s) in project_with b (length_of b) longest_move look_count p mask

-- ---- what it answers

-- a projection succeeds
abbrev pub is_onto : Option Point → Bool
is_onto (Some p) = true
is_onto None = false

-- the point that a projection leads to; of a refused one it is not asked for
abbrev pub onto_of : Option Point → Point
onto_of (Some p) = p
onto_of None = origin

-- What `quality` measures of one quad with the normal n: its shape, its least Jacobian over 5 by 5 places, and its
-- area.
use Rattle.std.specs.Prelude.{cond, Float}
use mathlib.Core.List.{List, [], ◌∷◌, foldl}
use Rattle.std.specs.Float.{binary64}
use Rattle.std.specs.Float.Ieee.{div, lt, of_bits}
use Rattle.numeric.specs.Num.{zero_f, quarter, half, min_of}
use Rattle.points.specs.declared.Point.{Point}
use Rattle.points.specs.Points.{◌⊕◌, ◌⊖◌, ◌⊗◌, one, two, add_p, sub_p, mul_p, dot_p, cross_p, norm_p}
use Rattle.rule_quality.specs.declared.Corners.{Corners}

-- x ÷ d where the denominator d is above 0.0, else 0.0
unfoldable pub quotient_of : Float → Float → Float
quotient_of x d = cond (lt zero_f d) (div binary64 x d) zero_f

-- ---- the shape

-- 2 × dot(cross(e, b), n) ÷ (dot(e, e) + dot(b, b)), e running to the next corner and b to the previous one
unfoldable pub corner_of : Point → Point → Point → Float
corner_of e b n = quotient_of (two ⊗ dot_p (cross_p e b) n) (dot_p e e ⊕ dot_p b b)

-- the least over the four corners, from 1.0 on
unfoldable pub shape_of : Corners → Point → Float
shape_of p n =
    min_of
    (min_of
    (min_of
    (min_of one (corner_of (sub_p p.p1 p.p0) (sub_p p.p3 p.p0) n))
    (corner_of (sub_p p.p2 p.p1) (sub_p p.p0 p.p1) n))
    (corner_of (sub_p p.p3 p.p2) (sub_p p.p1 p.p2) n))
    (corner_of (sub_p p.p0 p.p3) (sub_p p.p2 p.p3) n)

-- ---- the least Jacobian

-- 0.75
abbrev pub three_quarters : Float
three_quarters = of_bits binary64 0x3fe8_0000_0000_0000

-- the five places along either side of a quad: 0, 1, 2, 3 and 4, each over 4
abbrev pub places : List Float
places = zero_f ∷ quarter ∷ half ∷ three_quarters ∷ one ∷ []

-- a × (1.0 − t) + b × t
unfoldable pub between_of : Point → Point → Float → Point
between_of a b t = add_p (mul_p a (one ⊖ t)) (mul_p b t)

-- the direction in which u grows, at v: from (p1 − p0) to (p2 − p3)
abbrev pub du_at : Corners → Float → Point
du_at p v = between_of (sub_p p.p1 p.p0) (sub_p p.p2 p.p3) v

-- the direction in which v grows, at u: from (p3 − p0) to (p2 − p1)
abbrev pub dv_at : Corners → Float → Point
dv_at p u = between_of (sub_p p.p3 p.p0) (sub_p p.p2 p.p1) u

-- dot(cross(du, dv), n) ÷ (norm(du) × norm(dv))
abbrev pub jacobian_of : Point → Point → Point → Float
jacobian_of du dv n = quotient_of (dot_p (cross_p du dv) n) (norm_p du ⊗ norm_p dv)

-- the Jacobian at the place (u, v)
abbrev pub jacobian_at : Corners → Point → Float → Float → Float
jacobian_at p n u v = jacobian_of (du_at p v) (dv_at p u) n

-- the least of w and of the five Jacobians at u
abbrev pub least_at : Corners → Point → Float → Float → Float
least_at p n w u = foldl (λ w v. min_of w (jacobian_at p n u v)) w places

-- the least Jacobian at the 25 places (u, v), from 1.0 on: for each u in order, for each v in order
unfoldable pub least_jacobian : Corners → Point → Float
least_jacobian p n = foldl (least_at p n) one places

-- ---- the area

-- 0.5 × (norm(cross(p1 − p0, p2 − p0)) + norm(cross(p2 − p0, p3 − p0)))
unfoldable pub area_of : Corners → Float
area_of p =
    half
    ⊗ (norm_p (cross_p (sub_p p.p1 p.p0) (sub_p p.p2 p.p0))
    ⊕ norm_p (cross_p (sub_p p.p2 p.p0) (sub_p p.p3 p.p0)))

-- The shape of a quad's corner and of a quad, as swaps and merges measure it.
use Rattle.std.specs.Prelude.{Float}
use Rattle.std.specs.Float.{binary64}
use Rattle.std.specs.Float.Ieee.{div, of_bits}
use Rattle.numeric.specs.Num.{min_of, max_of}
use Rattle.points.specs.declared.Point.{Point}
use Rattle.points.specs.Points.{◌⊕◌, ◌⊗◌, one, two, sub_p, dot_p, cross_p}

-- 1e-30
abbrev pub least : Float
least = of_bits binary64 0x39b4_484b_feeb_c2a0

-- 2 × dot(cross(e, b), n) ÷ max(dot(e, e) + dot(b, b), 1e-30), e running to the next corner and b to the previous one
unfoldable pub corner_of : Point → Point → Point → Float
corner_of e b n = div binary64 (two ⊗ dot_p (cross_p e b) n) (max_of (dot_p e e ⊕ dot_p b b) least)

-- a quad's shape is the least over its corners, capped at 1
unfoldable pub shape_of : Point → Point → Point → Point → Point → Float
shape_of p q r s n =
    min_of
    (min_of
    (min_of
    (min_of one (corner_of (sub_p q p) (sub_p s p) n))
    (corner_of (sub_p r q) (sub_p p q) n))
    (corner_of (sub_p s r) (sub_p q r) n))
    (corner_of (sub_p p s) (sub_p r s) n)

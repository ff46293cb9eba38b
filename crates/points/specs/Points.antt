-- Points in space and the operations on them, each operation rounded, left to right; points in a list of coordinates.
use Rattle.std.specs.Prelude.{ℕ, ◌+◌, ◌*◌, Bool, ◌&&◌, List, get_or, Float}
use Rattle.std.specs.Float.{nan, binary64}
use Rattle.std.specs.Float.Ieee.{add, sub, mul, div, neg, of_bits}
use Rattle.numeric.specs.Root.{sqrt_of}
use Rattle.numeric.specs.Num.{zero_f, quarter, max_of, finite_of, halfway_of}
use Rattle.points.specs.declared.Point.{Point}

-- ---- rounded operations and constants of binary64, by their bit patterns as the code's literals are read

infixl 65 ◌⊕◌ ◌⊖◌
infixl 70 ◌⊗◌
-- the rounded sum
abbrev pub ◌⊕◌ : Float → Float → Float
◌⊕◌ a b = add binary64 a b

-- the rounded difference
abbrev pub ◌⊖◌ : Float → Float → Float
◌⊖◌ a b = sub binary64 a b

-- the rounded product
abbrev pub ◌⊗◌ : Float → Float → Float
◌⊗◌ a b = mul binary64 a b

-- 1.0
abbrev pub one : Float
one = of_bits binary64 0x3ff0_0000_0000_0000

-- 2.0
abbrev pub two : Float
two = of_bits binary64 0x4000_0000_0000_0000

-- -0.0, the zero that `sum` starts with in Rust
abbrev pub neg_zero : Float
neg_zero = neg zero_f

-- 1e-300
abbrev pub tiny : Float
tiny = of_bits binary64 0x01a5_6e1f_c2f8_f359

-- ---- operations

-- the sum
unfoldable pub add_p : Point → Point → Point
add_p a b = record { x = a.x ⊕ b.x; y = a.y ⊕ b.y; z = a.z ⊕ b.z }

-- the difference
unfoldable pub sub_p : Point → Point → Point
sub_p a b = record { x = a.x ⊖ b.x; y = a.y ⊖ b.y; z = a.z ⊖ b.z }

-- each coordinate times s
unfoldable pub mul_p : Point → Float → Point
mul_p a s = record { x = a.x ⊗ s; y = a.y ⊗ s; z = a.z ⊗ s }

-- the product coordinate by coordinate
unfoldable pub times_p : Point → Point → Point
times_p a b = record { x = a.x ⊗ b.x; y = a.y ⊗ b.y; z = a.z ⊗ b.z }

-- `dot` sums left to right, from the zero that `sum` starts with
unfoldable pub dot_p : Point → Point → Float
dot_p a b = neg_zero ⊕ a.x ⊗ b.x ⊕ a.y ⊗ b.y ⊕ a.z ⊗ b.z

-- the cross product
unfoldable pub cross_p : Point → Point → Point
cross_p a b = record { x = a.y ⊗ b.z ⊖ a.z ⊗ b.y; y = a.z ⊗ b.x ⊖ a.x ⊗ b.z; z = a.x ⊗ b.y ⊖ a.y ⊗ b.x }

-- the distance from the origin
unfoldable pub norm_p : Point → Float
norm_p a = sqrt_of (dot_p a a)

-- the unit vector of a, whose norm is n; a norm below 1e-300 counts as 1e-300
unfoldable pub unit_by : Point → Float → Point
unit_by a n = mul_p a (div binary64 one (max_of n tiny))

-- the unit vector of a
unfoldable pub unit_p : Point → Point
unit_p a = unit_by a (norm_p a)

-- the halfway point: each coordinate is the sum times 0.5
unfoldable pub halfway_p : Point → Point → Point
halfway_p a b = record { x = halfway_of a.x b.x; y = halfway_of a.y b.y; z = halfway_of a.z b.z }

-- (0.0, 0.0, 0.0), from which a sum of points starts
abbrev pub origin : Point
origin = record { x = zero_f; y = zero_f; z = zero_f }

-- the centre of four points: their sum in order, from 0.0 on, times 0.25
unfoldable pub centre_p : Point → Point → Point → Point → Point
centre_p p q r s = mul_p (add_p (add_p (add_p (add_p origin p) q) r) s) quarter

-- all three coordinates are finite
unfoldable pub finite_p : Point → Bool
finite_p p = finite_of p.x && finite_of p.y && finite_of p.z

-- ---- points in lists

-- the point of a number in a list of points
abbrev pub point_in : List Point → ℕ → Point
point_in ps v = get_or ps v origin

-- ---- points in a list of coordinates

-- the point at place i
unfoldable pub point_at : List Float → ℕ → Point
point_at l i = record { x = get_or l (i * 3) nan; y = get_or l (i * 3 + 1) nan; z = get_or l (i * 3 + 2) nan }

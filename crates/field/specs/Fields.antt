-- The three kinds of field: value and gradient, worked left to right, each operation rounded.
use Rattle.std.specs.Prelude.{Float, Some, None, Option}
use Rattle.points.specs.declared.Point.{Point}
use Rattle.points.specs.Points.{◌⊕◌, ◌⊖◌, ◌⊗◌, two}
use Rattle.field.specs.declared.Field.{Field}
use Rattle.field.specs.declared.Field.TheVariants.{Plane, Ball, Quadric}

-- dx·dx + dy·dy + dz·dz − r
abbrev pub ball_value : Float → Float → Float → Float → Float
ball_value dx dy dz r = dx ⊗ dx ⊕ dy ⊗ dy ⊕ dz ⊗ dz ⊖ r

-- Plane: a·x + b·y + c·z − d. Ball: dx·dx + dy·dy + dz·dz − r with dx = x − cx and so on.
-- Quadric: k0·x·x + k1·y·y + k2·z·z + k3·x·y + k4·y·z + k5·z·x + k6·x + k7·y + k8·z + k9.
unfoldable pub value_of : Field → Point → Float
value_of (Plane a b c d) p = a ⊗ p.x ⊕ b ⊗ p.y ⊕ c ⊗ p.z ⊖ d
value_of (Ball cx cy cz r) p = ball_value (p.x ⊖ cx) (p.y ⊖ cy) (p.z ⊖ cz) r
value_of (Quadric k) p =
    k.k0 ⊗ p.x ⊗ p.x ⊕ k.k1 ⊗ p.y ⊗ p.y ⊕ k.k2 ⊗ p.z ⊗ p.z
    ⊕ k.k3 ⊗ p.x ⊗ p.y ⊕ k.k4 ⊗ p.y ⊗ p.z ⊕ k.k5 ⊗ p.z ⊗ p.x
    ⊕ k.k6 ⊗ p.x ⊕ k.k7 ⊗ p.y ⊕ k.k8 ⊗ p.z ⊕ k.k9

-- Plane: gradient (a, b, c). Ball: gradient (2·dx, 2·dy, 2·dz). Quadric: no gradient of its own.
unfoldable pub field_gradient_of : Field → Point → Option Point
field_gradient_of (Plane a b c d) p = Some (record { x = a; y = b; z = c })
field_gradient_of (Ball cx cy cz r) p =
    Some (record { x = two ⊗ (p.x ⊖ cx); y = two ⊗ (p.y ⊖ cy); z = two ⊗ (p.z ⊖ cz) })
field_gradient_of (Quadric k) p = None

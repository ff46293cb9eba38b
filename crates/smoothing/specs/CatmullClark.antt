-- The rule of E. Catmull and J. Clark, "Recursively generated B-spline surfaces on arbitrary topological meshes"
-- (1978), in exact fractions and one coordinate at a time.
use mathlib.Core.List.{List, [], ◌∷◌, map, foldl}
use Rattle.std.specs.Prelude.{length}
use Rattle.smoothing.specs.Fractions.{Fraction, whole_q, plus_q, minus_q, times_q, ◌÷◌}

infixl 65 ◌⊞◌ ◌⊟◌
infixl 70 ◌⊠◌
-- the sum
abbrev ◌⊞◌ : Fraction → Fraction → Fraction
◌⊞◌ a b = plus_q a b

-- the difference
abbrev ◌⊟◌ : Fraction → Fraction → Fraction
◌⊟◌ a b = minus_q a b

-- the product
abbrev ◌⊠◌ : Fraction → Fraction → Fraction
◌⊠◌ a b = times_q a b

-- an average: the sum divided by the count
unfoldable pub average : List Fraction → Fraction
average l = foldl ◌⊞◌ (whole_q 0) l ÷ length l

-- the midpoint of the edge from a to b: the average of its ends
unfoldable pub midpoint : Fraction → Fraction → Fraction
midpoint a b = average (a ∷ b ∷ [])

-- a new face point: the average of all the old points of the face
unfoldable pub new_face_point : List Fraction → Fraction
new_face_point corners = average corners

-- a new edge point: the average of the midpoint of the old edge, from a to b, with the average of the two new face
-- points beside it, f and g
unfoldable pub new_edge_point : Fraction → Fraction → Fraction → Fraction → Fraction
new_edge_point a b f g = average (midpoint a b ∷ average (f ∷ g ∷ []) ∷ [])

-- a new vertex point: Q/n + 2R/n + S(n − 3)/n, where Q is the average of the n new face points around the old vertex
-- point S, and R the average of the midpoints of the old edges that end there, their other ends being `ends`
unfoldable pub new_vertex_point : Fraction → List Fraction → List Fraction → Fraction
new_vertex_point S faces ends =
    let n = length faces in
    let Q = average faces in
    let R = average (map (midpoint S) ends) in
    Q ÷ n ⊞ whole_q 2 ⊠ R ÷ n ⊞ S ⊠ (whole_q n ⊟ whole_q 3) ÷ n

-- 6:1:1 over 8. The paper has no creases: this is document 01's rule for a point p whose two crease edges lead to a
-- and b
unfoldable pub new_crease_point : Fraction → Fraction → Fraction → Fraction
new_crease_point p a b = (whole_q 6 ⊠ p ⊞ a ⊞ b) ÷ 8

-- In exact fractions the smoothing rule is that of Catmull and Clark. Where `≡` stands the two fractions are one, part by part. Assumes nothing.
use Prim.Native.Nat.{ℕ, ◌≤◌, ◌<◌}
use mathlib.Core.Path.{◌≡◌, refl, fun_ext}
use mathlib.Core.List.{List, [], ◌∷◌, map}
use native.Mathlib.Omega.{arith}
use lib.ListN.{length, length-map}
use borrow.Author.Tests.{le-ltb}
use Rattle.smoothing.specs.Smooth.{sum_of, quad_centre, halfway, edge_point, crease_point, interior_by, interior, smooth}
use Rattle.smoothing.specs.Fractions.{Fraction, ◌≈◌, reciprocal_q, plus_q, times_q, exact}
use Rattle.smoothing.specs.CatmullClark.{average, new_face_point, new_edge_point, midpoint, new_vertex_point, new_crease_point}
use Rattle.smoothing.proofs.Fractions.{zero-plus, plus_assoc, times-comm, times-reciprocal, over-plus, over-twice}

-- a sum times the reciprocal of its count is the average
mean : (l : List Fraction) → 0 < length l → times_q (sum_of exact l) (reciprocal_q (length l)) ≡ average l
unfolding sum_of average
mean l h = times-reciprocal _ _ h

-- the halfway point is the midpoint
halfway-is : (a b : Fraction) → halfway exact a b ≡ midpoint a b
unfolding halfway midpoint average
halfway-is a b = rw (times-reciprocal _ 2 (omega arith), zero-plus)

-- the halfway points times the reciprocal of their count is the average of the midpoints
mean-of-midpoints : (p : Fraction) (l : List Fraction) → 0 < length l
    → times_q (sum_of exact (map (halfway exact p) l)) (reciprocal_q (length l)) ≡ average (map (midpoint p) l)
mean-of-midpoints p l h =
    rw (fun_ext (halfway-is p), ← length-map l (midpoint p)) (mean _ (rw length-map h))

-- the centre of a quad is the new face point
pub face-point : (a b c d : Fraction) → quad_centre exact a b c d ≡ new_face_point (a ∷ b ∷ c ∷ d ∷ [])
unfolding quad_centre new_face_point average
face-point a b c d = times-reciprocal _ 4 (omega arith)

-- the point of an edge inside one label is the new edge point
pub edge-point : (a b f g : Fraction) → edge_point exact a b f g ≈ new_edge_point a b f g
unfolding edge_point new_edge_point midpoint average
edge-point a b f g =
    simp (times-reciprocal (plus_q (plus_q a b) (plus_q f g)) 4 (omega arith), zero-plus) (over-twice (plus_q a b) (plus_q f g) 1 3 refl)

-- the mean of the two ends and the two quad centres
pub edge-mean : (a b f g : Fraction) → edge_point exact a b f g ≡ average (a ∷ b ∷ f ∷ g ∷ [])
unfolding edge_point average
edge-mean a b f g = rw (times-reciprocal _ 4 (omega arith)) (simp (zero-plus, plus_assoc))

-- a point with two crease edges, and no more than two labels, takes 6:1:1 over 8
pub crease-point : (labels : ℕ) (p a b : Fraction) (centres neighbours : List Fraction) → labels ≤ 2
    → smooth exact labels (a ∷ b ∷ []) p centres neighbours ≡ new_crease_point p a b
unfolding smooth crease_point new_crease_point
crease-point labels p a b centres neighbours h =
    rw (le-ltb _ _ h, times-reciprocal _ 8 (omega arith), plus_assoc, times-comm p)

-- the interior rule gives the new vertex point
interior-point : (p : Fraction) (centres neighbours : List Fraction) → 0 < length centres → 0 < length neighbours
    → interior exact p centres neighbours ≈ new_vertex_point p centres neighbours
unfolding interior interior_by new_vertex_point
interior-point p centres neighbours h k =
    rw (mean centres h, mean-of-midpoints p neighbours k, times-reciprocal _ _ h, times-comm (average (map (midpoint p) neighbours)))
    (over-plus _ _ _ _ h)

-- a point with no crease edge, and no more than two labels, comes to the new vertex point
pub vertex-point : (labels : ℕ) (p : Fraction) (centres neighbours : List Fraction)
    → labels ≤ 2 → 0 < length centres → 0 < length neighbours
    → smooth exact labels [] p centres neighbours ≈ new_vertex_point p centres neighbours
unfolding smooth
vertex-point labels p centres neighbours l h k = rw (le-ltb _ _ l) (interior-point p centres neighbours h k)

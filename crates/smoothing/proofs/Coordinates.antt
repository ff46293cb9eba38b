-- The rule for points is the rule for each of their three coordinates. Assumes nothing.
use Prim.Native.Nat.{ℕ}
use mathlib.Core.Path.{◌≡◌, refl}
use mathlib.Core.Bool.{Bool, true, false, cond}
use mathlib.Core.List.{List, [], ◌∷◌, ◌++◌, map, foldl, foldl-append}
use lib.ListN.{length-map}
use lib.Ieee.{Float}
use Rattle.numeric.specs.Num.{halfway_of}
use Rattle.points.specs.declared.Point.{Point}
use Rattle.points.specs.Points.{add_p, sub_p, times_p, halfway_p}
use Rattle.smoothing.specs.Arithmetic.{Arithmetic}
use Rattle.smoothing.specs.Smooth.{sum_of, quad_centre, halfway, edge_point, crease_point, interior_by, interior, by_creases, smooth}
use Rattle.smoothing.specs.Rounded.{rounded, pointwise}
use Rattle.smoothing.proofs.ByPoints.{reciprocal-2}

-- one more number at the end of a sum
pub sum-snoc : (A : Arithmetic) (l : List A.Number) (a : A.Number) → sum_of A (l ++ (a ∷ [])) ≡ A.plus (sum_of A l) a
unfolding sum_of
sum-snoc A l a = foldl-append A.plus (A.whole 0) l (a ∷ [])

-- h leads from one arithmetic to another and keeps its operations
pub record Keeps (A B : Arithmetic) (h : A.Number → B.Number) : Type 0 where
  pub plus_kept : (a b : A.Number) → h (A.plus a b) ≡ B.plus (h a) (h b)
  pub minus_kept : (a b : A.Number) → h (A.minus a b) ≡ B.minus (h a) (h b)
  pub times_kept : (a b : A.Number) → h (A.times a b) ≡ B.times (h a) (h b)
  pub whole_kept : (n : ℕ) → h (A.whole n) ≡ B.whole n
  pub reciprocal_kept : (n : ℕ) → h (A.reciprocal n) ≡ B.reciprocal n

module _ (A B : Arithmetic) (h : A.Number → B.Number) (k : Keeps A B h) where
  open k use {plus_kept, minus_kept, times_kept, whole_kept, reciprocal_kept}

  from-kept : (s : A.Number) (l : List A.Number) → h (foldl A.plus s l) ≡ foldl B.plus (h s) (map h l)
  from-kept s [] = refl
  from-kept s (a ∷ l) = rw (from-kept (A.plus s a) l, plus_kept)

  pub sum_kept : (l : List A.Number) → h (sum_of A l) ≡ sum_of B (map h l)
  unfolding sum_of
  sum_kept l = rw (from-kept, whole_kept)

  pub centre-kept : (a b c d : A.Number) → h (quad_centre A a b c d) ≡ quad_centre B (h a) (h b) (h c) (h d)
  unfolding quad_centre
  centre-kept a b c d = simp (plus_kept, times_kept, whole_kept, reciprocal_kept)

  pub halfway-kept : (a b : A.Number) → h (halfway A a b) ≡ halfway B (h a) (h b)
  unfolding halfway
  halfway-kept a b = simp (plus_kept, times_kept, reciprocal_kept)

  pub edge_kept : (a b f g : A.Number) → h (edge_point A a b f g) ≡ edge_point B (h a) (h b) (h f) (h g)
  unfolding edge_point
  edge_kept a b f g = simp (plus_kept, times_kept, reciprocal_kept)

  pub crease-kept : (p a b : A.Number) → h (crease_point A p a b) ≡ crease_point B (h p) (h a) (h b)
  unfolding crease_point
  crease-kept p a b = simp (plus_kept, times_kept, whole_kept, reciprocal_kept)

  pub interior-by-kept : (p : A.Number) (n : ℕ) (F : A.Number) (m : ℕ) (R : A.Number)
      → h (interior_by A p n F m R) ≡ interior_by B (h p) n (h F) m (h R)
  unfolding interior_by
  interior-by-kept p n F m R = simp (plus_kept, minus_kept, times_kept, whole_kept, reciprocal_kept)

  midpoints-kept : (p : A.Number) (l : List A.Number) → map h (map (halfway A p) l) ≡ map (halfway B (h p)) (map h l)
  midpoints-kept p [] = refl
  midpoints-kept p (a ∷ l) = rw (halfway-kept, midpoints-kept p l)

  pub interior-kept : (p : A.Number) (centres neighbours : List A.Number)
      → h (interior A p centres neighbours) ≡ interior B (h p) (map h centres) (map h neighbours)
  unfolding interior
  interior-kept p centres neighbours =
      rw (interior-by-kept, sum_kept centres, sum_kept (map (halfway A p) neighbours), midpoints-kept, length-map centres, length-map neighbours)

  creases-kept : (p q : A.Number) (l : List A.Number) → h (by_creases A p q l) ≡ by_creases B (h p) (h q) (map h l)
  creases-kept p q [] = refl
  creases-kept p q (a ∷ []) = refl
  creases-kept p q (a ∷ b ∷ []) = crease-kept p a b
  creases-kept p q (a ∷ b ∷ c ∷ l) = refl

  cond-kept : (t : Bool) (p q : A.Number) → h (cond t p q) ≡ cond t (h p) (h q)
  cond-kept true p q = refl
  cond-kept false p q = refl

  pub smooth-kept : (labels : ℕ) (creases : List A.Number) (p : A.Number) (centres neighbours : List A.Number)
      → h (smooth A labels creases p centres neighbours) ≡ smooth B labels (map h creases) (h p) (map h centres) (map h neighbours)
  unfolding smooth
  smooth-kept labels creases p centres neighbours = rw (cond-kept, creases-kept, interior-kept)

-- ---- the coordinates of points

abbrev pub x_of : Point → Float
x_of p = p.x

abbrev pub y_of : Point → Float
y_of p = p.y

abbrev pub z_of : Point → Float
z_of p = p.z

x-keeps : Keeps pointwise rounded x_of
unfolding add_p sub_p times_p
x-keeps =
    record {
      plus_kept = λ a b. refl;
      minus_kept = λ a b. refl;
      times_kept = λ a b. refl;
      whole_kept = λ n. refl;
      reciprocal_kept = λ n. refl;
    }

y-keeps : Keeps pointwise rounded y_of
unfolding add_p sub_p times_p
y-keeps =
    record {
      plus_kept = λ a b. refl;
      minus_kept = λ a b. refl;
      times_kept = λ a b. refl;
      whole_kept = λ n. refl;
      reciprocal_kept = λ n. refl;
    }

z-keeps : Keeps pointwise rounded z_of
unfolding add_p sub_p times_p
z-keeps =
    record {
      plus_kept = λ a b. refl;
      minus_kept = λ a b. refl;
      times_kept = λ a b. refl;
      whole_kept = λ n. refl;
      reciprocal_kept = λ n. refl;
    }

-- the rule for points is the rule for each coordinate
pub by-coordinates : (labels : ℕ) (creases : List Point) (p : Point) (centres neighbours : List Point)
    → smooth pointwise labels creases p centres neighbours
    ≡ record {
      x = smooth rounded labels (map x_of creases) p.x (map x_of centres) (map x_of neighbours);
      y = smooth rounded labels (map y_of creases) p.y (map y_of centres) (map y_of neighbours);
      z = smooth rounded labels (map z_of creases) p.z (map z_of centres) (map z_of neighbours);
    }
by-coordinates labels creases p centres neighbours =
    λ i. record {
      x = smooth-kept pointwise rounded x_of x-keeps labels creases p centres neighbours i;
      y = smooth-kept pointwise rounded y_of y-keeps labels creases p centres neighbours i;
      z = smooth-kept pointwise rounded z_of z-keeps labels creases p centres neighbours i;
    }

-- the halfway point of two points
pub halfway-by : (a b : Point) → halfway pointwise a b ≡ halfway_p a b
unfolding halfway halfway_p halfway_of add_p times_p
halfway-by a b = rw reciprocal-2

-- The smoothing rule of `subdivide`, one coordinate at a time, over any arithmetic and in the order in which 000
-- works it.
use Rattle.std.specs.Prelude.{ℕ, cond, length, ltb}
use mathlib.Core.List.{List, [], ◌∷◌, map, foldl}
use Rattle.smoothing.specs.Arithmetic.{Arithmetic}

module _ (A : Arithmetic) where
  open A use {Number, plus as ◌⊞◌, minus as ◌⊟◌, times as ◌⊠◌, whole, reciprocal}

  infixl 65 ◌⊞◌ ◌⊟◌
  infixl 70 ◌⊠◌
  -- a mean of n numbers: their sum times the reciprocal of n
  abbrev pub mean : Number → ℕ → Number
  mean sum n = sum ⊠ reciprocal n

  -- numbers summed from 0, in the order of the list
  unfoldable pub sum_of : List Number → Number
  sum_of l = foldl ◌⊞◌ (whole 0) l

  -- the centre of a quad: the mean of its four corners
  unfoldable pub quad_centre : Number → Number → Number → Number → Number
  quad_centre a b c d = mean (whole 0 ⊞ a ⊞ b ⊞ c ⊞ d) 4

  -- the halfway point of an edge: "a crease edge, between two labels, keeps its halfway point"
  unfoldable pub halfway : Number → Number → Number
  halfway a b = mean (a ⊞ b) 2

  -- "An edge inside one label gets the mean of its two ends and two quad centres": ends a and b, centres f and g in
  -- quad order
  unfoldable pub edge_point : Number → Number → Number → Number → Number
  edge_point a b f g = mean (a ⊞ b ⊞ (f ⊞ g)) 4

  -- a point p with two crease edges, to a and to b, "takes 6:1:1 over 8"
  unfoldable pub crease_point : Number → Number → Number → Number
  crease_point p a b = mean (p ⊠ whole 6 ⊞ (a ⊞ b)) 8

  -- "(F + 2R + (n − 3)P) ÷ n", from the sum of the n quad centres and that of the m edge midpoints
  unfoldable pub interior_by : Number → ℕ → Number → ℕ → Number → Number
  interior_by p n faces m edges =
      mean (mean faces n ⊞ mean edges m ⊠ whole 2 ⊞ p ⊠ (whole n ⊟ whole 3)) n

  -- an interior point p, "F the mean of the quad centres, R of the edge midpoints":
  -- the centres of its quads in quad order, its neighbours in ascending number
  unfoldable pub interior : Number → List Number → List Number → Number
  interior p centres neighbours =
      interior_by p (length centres) (sum_of centres) (length neighbours) (sum_of (map (halfway p) neighbours))

  -- where p comes to by its crease neighbours, q being the interior rule's answer:
  -- a point of more than two crease edges, or of one, stays
  abbrev pub by_creases : Number → Number → List Number → Number
  by_creases p q [] = q
  by_creases p q (a ∷ []) = p
  by_creases p q (a ∷ b ∷ []) = crease_point p a b
  by_creases p q (a ∷ b ∷ c ∷ l) = p

  -- where p comes to; "a point of more than two labels .. stays"
  unfoldable pub smooth : ℕ → List Number → Number → List Number → List Number → Number
  smooth labels creases p centres neighbours =
      cond (ltb 2 labels) p (by_creases p (interior p centres neighbours) creases)

-- The test of a diagonal, from what is held for both, is the swaps' rule. Assumes nothing.
use Prim.Native.Nat.{ℕ, ◌<◌}
use mathlib.Core.Bool.{Bool, true, false, cond}
use mathlib.Core.Path.{◌≡◌, refl}
use mathlib.Core.List.{List}
use lib.Dec.{eqb}
use lib.ListN.{get_or}
use lib.Ieee.{Float}
use Rattle.points.specs.declared.Point.{Point}
use Rattle.points.specs.Points.{point_at, point_in}
use Rattle.field.specs.declared.Field.{Field}
use Rattle.band.specs.Bands.{normal_with}
use Rattle.lists.proofs.Laws.{get_or-tab}
use Rattle.rule_sheet.specs.Quads.{quad}
use Rattle.rule_sheet.specs.Flat.{quad_at, quads_of}
use Rattle.rule_sheet.specs.Sheet.{points_of}
use Rattle.incidence.specs.Corners.{Cornered}
use Rattle.rule_regularize.specs.Swaps.{Hex}
use Rattle.rule_passes.specs.Choices.{none_quad}
use Rattle.pass_shapes.specs.declared.Four.{Four}
use Rattle.regularize_shapes.specs.declared.Six.{Six}
use Rattle.rule_regularize.specs.declared.Held.{Held}
use Rattle.pass_shapes.specs.Shaped.{quad_is, four_at, FourBelow}
use Rattle.rule_regularize.specs.SwapFits.{hex_centre, lesser_shape, held_of, next_shape, next_fits, fits_with}
use Rattle.regularize_shapes.specs.declared.Diagonal.{Diagonal}
use Rattle.regularize_shapes.specs.declared.Diagonal.TheVariants.{First, Second}
use Rattle.regularize_shapes.specs.SwapFits.{hex_of, number_of, diagonal_of, turned, SixBelow}
use Rattle.pass_shapes.proofs.Shaped.{point-there, four_below, Agree, shape_same}

-- what is held, from the calls that make it
pub held-is : (f : Field) (len : Float) (at : ℕ → Point) (l : ℕ) (Q : List ℕ) (i j : ℕ) (h : Hex) (p n : Point) (q r : Four) (x : Float)
    → p ≡ hex_centre at h → n ≡ normal_with f len p l → q ≡ four_at Q i → r ≡ four_at Q j → x ≡ lesser_shape at n (quad_is q) (quad_is r)
    → record { normal = n; old = x } ≡ held_of f len at l (quad_at Q i) (quad_at Q j) h
unfolding held_of
held-is f len at l Q i j h p n q r x ep en eq er ex = rw (ex, eq, er, en, ep)

-- ---- the corners turned to a diagonal

pub turned-below : {np : ℕ} {h : Six} (k : Diagonal) → SixBelow np h → SixBelow np (turned h k)
turned-below First B = record { h0< = B.h1<; h1< = B.h2<; h2< = B.h3<; h3< = B.h4<; h4< = B.h5<; h5< = B.h0< }
turned-below Second B = record { h0< = B.h2<; h1< = B.h3<; h2< = B.h4<; h3< = B.h5<; h4< = B.h0<; h5< = B.h1< }

-- the shape is that of the quads on both sides of the diagonal
pub shape-turned : (at : ℕ → Point) (h : Six) (k : Diagonal) (n : Point) (g : Six) → g ≡ turned h k
    → lesser_shape at n (quad g.h0 g.h1 g.h2 g.h3) (quad g.h0 g.h3 g.h4 g.h5) ≡ next_shape at (hex_of h) (number_of k) n
unfolding next_shape
shape-turned at h First n g e = rw e refl
shape-turned at h Second n g e = rw e refl

-- ---- a diagonal by its number

-- the number of a diagonal names it
pub named-by : (k : Diagonal) → diagonal_of (number_of k) ≡ k
named-by First = refl
named-by Second = refl

-- a number has the shape of the diagonal that it names
pub shape-named : (at : ℕ → Point) (h : Hex) (k : ℕ) (n : Point) → next_shape at h (number_of (diagonal_of k)) n ≡ next_shape at h k n
unfolding next_shape
shape-named at h k n = go (eqb k 1) _ _
  where
    go : (b : Bool) (x y : Float) → cond (eqb (number_of (cond b First Second)) 1) x y ≡ cond b x y
    go true x y = refl
    go false x y = refl

-- ---- two ways to place the points, which agree on those below np

module _ {np : ℕ} (f g : ℕ → Point) (same : Agree np f g) where
  lesser-same : (n : Point) (q r : Four) → FourBelow np q → FourBelow np r → lesser_shape f n (quad_is q) (quad_is r) ≡ lesser_shape g n (quad_is q) (quad_is r)
  unfolding lesser_shape
  lesser-same n q r B C = rw (shape_same f g same n q B, shape_same f g same n r C)

  module _ (h : Six) (B : SixBelow np h) where
    hex-centre-same : hex_centre f (hex_of h) ≡ hex_centre g (hex_of h)
    unfolding hex_centre
    hex-centre-same = rw (same h.h0 B.h0<, same h.h1 B.h1<, same h.h2 B.h2<, same h.h3 B.h3<, same h.h4 B.h4<, same h.h5 B.h5<)

    held_same : (fl : Field) (len : Float) (l : ℕ) (q r : Four) → FourBelow np q → FourBelow np r
        → held_of fl len f l (quad_is q) (quad_is r) (hex_of h) ≡ held_of fl len g l (quad_is q) (quad_is r) (hex_of h)
    unfolding held_of
    held_same fl len l q r C D = rw (hex-centre-same, lesser-same (normal_with fl len (hex_centre g (hex_of h)) l) q r C D)

    next-shape-same : (k : ℕ) (n : Point) → next_shape f (hex_of h) k n ≡ next_shape g (hex_of h) k n
    unfolding next_shape
    next-shape-same k n = rw (
      lesser-same n (record { a = h.h1; b = h.h2; c = h.h3; d = h.h4 }) (record { a = h.h1; b = h.h4; c = h.h5; d = h.h0 })
          (record { a< = B.h1<; b< = B.h2<; c< = B.h3<; d< = B.h4< }) (record { a< = B.h1<; b< = B.h4<; c< = B.h5<; d< = B.h0< }),
      lesser-same n (record { a = h.h2; b = h.h3; c = h.h4; d = h.h5 }) (record { a = h.h2; b = h.h5; c = h.h0; d = h.h1 })
          (record { a< = B.h2<; b< = B.h3<; c< = B.h4<; d< = B.h5< }) (record { a< = B.h2<; b< = B.h5<; c< = B.h0<; d< = B.h1< }),
    )

    next-same : (k : ℕ) (x : Held) (positive : Bool) → next_fits f (hex_of h) k x positive ≡ next_fits g (hex_of h) k x positive
    unfolding next_fits
    next-same k x positive = rw (next-shape-same k x.normal)

-- quad q of a flat list
pub quad-there : (nq : ℕ) (Q : List ℕ) (q : ℕ) → q < nq → get_or (quads_of nq Q) q none_quad ≡ quad_at Q q
unfolding quads_of
quad-there nq Q q h = get_or-tab (quad_at Q) nq q none_quad h

-- `next_fits` of what `hold` gives is the rule
pub swap-fits : (f : Field) (len : Float) (np nq : ℕ) (P : List Float) (Q labels : List ℕ) (i j : ℕ) (h : Six) (k : ℕ) (positive : Bool) → Cornered np nq Q → i < nq → j < nq → SixBelow np h
    → next_fits (point_at P) (hex_of h) k (held_of f len (point_at P) (get_or labels i 0) (quad_at Q i) (quad_at Q j) (hex_of h)) positive
    ≡ fits_with f len (points_of np P) labels (quads_of nq Q) i j (hex_of h) k positive
unfolding fits_with
swap-fits f len np nq P Q labels i j h k positive C hi hj B =
    let same = point-there np P in
    rw (
      quad-there nq Q i hi,
      quad-there nq Q j hj,
      held_same (point_at P) (point_in (points_of np P)) same h B f len (get_or labels i 0) (four_at Q i) (four_at Q j) (four_below Q i C hi) (four_below Q j C hj),
    )
    (next-same (point_at P) (point_in (points_of np P)) same h B k _ positive)

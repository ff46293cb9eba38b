-- Shapes and centres by the points of a flat list are those by the list of points. Assumes nothing.
use Prim.Native.Nat.{ℕ, ◌+◌, ◌*◌, ◌<◌}
use mathlib.Core.Path.{◌≡◌, refl, sym}
use mathlib.Core.List.{List}
use native.Mathlib.Omega.{arith}
use lib.Ieee.{Float}
use Rattle.points.specs.declared.Point.{Point}
use Rattle.points.specs.Points.{point_at, origin, point_in}
use Rattle.lists.proofs.Laws.{get_or-tab}
use Rattle.rule_sheet.specs.Flat.{corner, quad_at}
use Rattle.rule_sheet.specs.Sheet.{points_of}
use Rattle.incidence.specs.Corners.{Cornered}
use Rattle.pass_shapes.specs.declared.Four.{Four}
use Rattle.rule_passes.specs.Shapes.{quad_shape}
use Rattle.rule_sheet.specs.Places.{centre_of}
use Rattle.pass_shapes.specs.Shaped.{quad_is, four_at, FourBelow}

-- the point of a number below np
pub point-there : (np : ℕ) (P : List Float) (v : ℕ) → v < np → point_at P v ≡ point_in (points_of np P) v
unfolding points_of
point-there np P v h = sym (get_or-tab (point_at P) np v origin h)

-- the corners of a quad are points
pub four_below : {np nq : ℕ} (Q : List ℕ) (q : ℕ) → Cornered np nq Q → q < nq → FourBelow np (four_at Q q)
four_below Q q C h = record {
  a< = C.points (4 * q + 0) (omega arith);
  b< = C.points (4 * q + 1) (omega arith);
  c< = C.points (4 * q + 2) (omega arith);
  d< = C.points (4 * q + 3) (omega arith);
}

-- the corners that were read, one by one
pub four_is : {np nq a b c d : ℕ} (Q : List ℕ) (q : ℕ) → Cornered np nq Q → q < nq → a ≡ corner Q q 0 → b ≡ corner Q q 1 → c ≡ corner Q q 2 → d ≡ corner Q q 3
    → (record { a = a; b = b; c = c; d = d } ≡ four_at Q q) × FourBelow np (record { a = a; b = b; c = c; d = d })
four_is Q q C h ea eb ec ed = rw (ea, eb, ec, ed) (refl, four_below Q q C h)

-- their quad
pub four-quad : (Q : List ℕ) (q : ℕ) (x : Four) → x ≡ four_at Q q → quad_is x ≡ quad_at Q q
four-quad Q q x e = rw e

-- two ways to place the points, which agree on those below np
abbrev pub Agree : ℕ → (ℕ → Point) → (ℕ → Point) → Type 0
Agree np f g = (v : ℕ) → v < np → f v ≡ g v

module _ {np : ℕ} (f g : ℕ → Point) (same : Agree np f g) where
  pub shape_same : (n : Point) (q : Four) → FourBelow np q → quad_shape f n (quad_is q) ≡ quad_shape g n (quad_is q)
  unfolding quad_shape
  shape_same n q B = rw (same q.a B.a<, same q.b B.b<, same q.c B.c<, same q.d B.d<)

  pub centre-same : (q : Four) → FourBelow np q → centre_of f (quad_is q) ≡ centre_of g (quad_is q)
  unfolding centre_of
  centre-same q B = rw (same q.a B.a<, same q.b B.b<, same q.c B.c<, same q.d B.d<)

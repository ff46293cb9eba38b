-- Quads in a list of point numbers, four to a quad, as a lent slice has them. Corner c is corner c % 4 of quad c / 4.
use Rattle.std.specs.Prelude.{ℕ, ◌+◌, ◌*◌, List, [], ◌∷◌, get_or}
use Rattle.lists.specs.Sort.{tabulate}
use Rattle.rule_sheet.specs.Quads.{Quad, quad}

-- corner j of quad q
abbrev pub corner : List ℕ → ℕ → ℕ → ℕ
corner Q q j = get_or Q (4 * q + j) 0

abbrev pub quad_at : List ℕ → ℕ → Quad
quad_at Q q = quad (corner Q q 0) (corner Q q 1) (corner Q q 2) (corner Q q 3)

-- the first n quads
unfoldable pub quads_of : ℕ → List ℕ → List Quad
quads_of n Q = tabulate (quad_at Q) n

-- the corners of quads, one after the other
unfoldable pub flat_quads : List Quad → List ℕ
flat_quads [] = []
flat_quads (quad a b c d ∷ S) = a ∷ b ∷ c ∷ d ∷ flat_quads S

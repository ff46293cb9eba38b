-- What the functions on shapes are handed.
use Rattle.std.specs.Prelude.{ℕ, ◌<◌, List}
use Rattle.rule_sheet.specs.Quads.{Quad, quad}
use Rattle.rule_sheet.specs.Flat.{corner}
use Rattle.pass_shapes.specs.declared.Four.{Four}

-- ---- what the functions are handed

-- the quad of four corners
abbrev pub quad_is : Four → Quad
quad_is q = quad q.a q.b q.c q.d

-- the corners of quad q of a flat list
abbrev pub four_at : List ℕ → ℕ → Four
four_at Q q = record { a = corner Q q 0; b = corner Q q 1; c = corner Q q 2; d = corner Q q 3 }

-- the four corners are numbers of the np points
pub record FourBelow (np : ℕ) (q : Four) : Type 0 where
  pub a< : q.a < np
  pub b< : q.b < np
  pub c< : q.c < np
  pub d< : q.d < np

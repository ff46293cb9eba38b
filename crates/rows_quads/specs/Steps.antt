-- The copied quads and the strips, over flat lists: corners Q, labels and masks M.
use Rattle.std.specs.Prelude.{ℕ, cond, List}
use Rattle.rule_sheet.specs.Quads.{Quad, quad}
use Rattle.sheet.specs.Flat.{from, to}
use Rattle.rule_rows.specs.Rows.{key_of}
use Rattle.rows_gather.specs.Steps.{copied_in, number_in, corner_label}

-- what stands for corner c
unfoldable pub corner_in : ℕ → List ℕ → List ℕ → List ℕ → ℕ → ℕ
corner_in np Q labels M c =
    let k = key_of (from Q c) (corner_label labels c) in
    cond (copied_in M k) (number_in np M k) (from Q c)

-- the strip at corner c
unfoldable pub strip_in : ℕ → List ℕ → List ℕ → List ℕ → ℕ → Quad
strip_in np Q labels M c =
    let l = corner_label labels c in
    quad (from Q c) (to Q c) (number_in np M (key_of (to Q c) l)) (number_in np M (key_of (from Q c) l))

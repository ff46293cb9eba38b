-- The number of the points of the finer sheet, and the key of a request.
use Rattle.std.specs.Prelude.{ℕ, ◌+◌, List, length}
use Rattle.rule_sheet.specs.Quads.{Quad}
use Rattle.rule_finer.specs.Finer.{asked, Request}

-- ---- the quads and labels

-- the number of its points
unfoldable pub finer_count : ℕ → List Quad → ℕ
finer_count n S = n + length (asked n S)

-- ---- the new points

-- the key of a request
abbrev pub key_of : Request → ℕ
key_of r = r.key

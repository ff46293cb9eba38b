-- Edges by the corners of a list of point numbers.
use Rattle.std.specs.Prelude.{ℕ, ◌*◌, min, max, List}
use Rattle.lists.specs.Sort.{tabulate, itself, bucket}
use Rattle.sheet.specs.Flat.{from, to}
use Rattle.rule_sheet.specs.Edges.{Pair}

-- ---- corners of a flat list

-- the smaller and the larger point of the edge from corner c to the next one of its quad
unfoldable pub smaller : List ℕ → ℕ → ℕ
smaller Q c = min (from Q c) (to Q c)

unfoldable pub larger : List ℕ → ℕ → ℕ
larger Q c = max (from Q c) (to Q c)

-- the corners of n quads
abbrev pub all_corners : ℕ → List ℕ
all_corners n = tabulate itself (4 * n)

-- the corners at point v, ascending
abbrev pub point_corners : List ℕ → ℕ → ℕ → List ℕ
point_corners Q n v = bucket (from Q) v (all_corners n)

-- the corners whose edge is p, ascending
abbrev pub edge_corners : List ℕ → ℕ → Pair → List ℕ
edge_corners Q n p = bucket (larger Q) p.high (bucket (smaller Q) p.low (all_corners n))

-- How many corners name a point.
use Rattle.std.specs.Prelude.{ℕ, zero, suc, ◌+◌, List, get_or}
use Rattle.rule_sheet.specs.Quads.{is}

-- how many of the first n corners are the point v
unfoldable pub named_in : List ℕ → ℕ → ℕ → ℕ
named_in Q zero v = 0
named_in Q (suc n) v = is (get_or Q n 0) v + named_in Q n v

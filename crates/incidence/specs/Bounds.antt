-- How large the valences in a work slice are. Document 02, Point 5: "in no call does a stored valence pass 1,048,576".
use Rattle.std.specs.Prelude.{ℕ, ◌+◌, ◌≤◌, ◌<◌, List, get_or}
use Rattle.rule_sheet.specs.Lent.{limit}

-- none of the n valences from `at` on passes the limit
pub record Bounded (at n : ℕ) (w : List ℕ) : Type 0 where
  pub each : (v : ℕ) → v < n → get_or w (at + v) 0 ≤ limit

-- The result slices, before and after they are cleared.
use Rattle.std.specs.Prelude.{ℕ, ◌-◌, ◌*◌, ◌≤◌, ◌≡◌, List, ◌++◌, length, take, replicate, Float}
use Rattle.rule_sheet.specs.declared.Counts.{Counts}
use Rattle.rule_sheet.specs.Flat.{flat_quads}
use Rattle.rule_sheet.specs.Sheet.{Sheet, flat_points}
use Rattle.rule_sheet.specs.Outcomes.{Outcome}
use Rattle.rule_sheet.specs.Results.{answer_of, made, shown}
use Rattle.rule_sheet.specs.Verdicts.{Answer}

-- the first n elements, and zeros behind them
unfoldable pub cleared : {A : Type 0} → A → ℕ → List A → List A
cleared zero n s = take n s ++ replicate (length s - n) zero

-- slices of p, q and l elements hold a sheet of these counts
pub record HoldsCounts (c : Counts) (p q l : ℕ) : Type 0 where
  pub points : 3 * c.points ≤ p
  pub quads : 4 * c.quads ≤ q
  pub labels : c.labels ≤ l

-- ---- the same before the slices are cleared

-- s begins with the elements of l
pub record Front {A : Type 0} (l s : List A) : Type 0 where
  pub fits : length l ≤ length s
  pub is : take (length l) s ≡ l

pub record Fills (o : Outcome Sheet) (r : Answer) (P : List Float) (Q labels : List ℕ) : Type 0 where
  pub answer : r ≡ answer_of (made o)
  pub points : Front (flat_points (shown o).points) P
  pub quads : Front (flat_quads (shown o).quads) Q
  pub labelled : Front (shown o).labels labels

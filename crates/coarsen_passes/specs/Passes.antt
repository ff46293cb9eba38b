-- What the passes ask of lent slices, and what they leave in them before what lies behind the sheet is cleared.
use Rattle.std.specs.Prelude.{ℕ, ◌<◌, ◌≡◌, List, length, Float}
use Rattle.rule_sheet.specs.declared.Counts.{Counts}
use Rattle.rule_sheet.specs.declared.Tally.{Tally}
use Rattle.rule_sheet.specs.Sheet.{Sheet, sheet_of, sheet_verdict}
use Rattle.rule_sheet.specs.Outcomes.{RunEnd}
use Rattle.sheet.specs.Sheet.{LentSheet, LentWork}
use Rattle.sheet.specs.Results.{HoldsCounts}
use Rattle.rule_sheet.specs.Verdicts.{Accepted}

-- what the tests before k passes leave of the slices: 12 and 13, and if there is a pass 5, 6 and 7; f is the length of
-- the floats
pub record Coarsenable (k : ℕ) (c : Counts) (P : List Float) (Q labels w : List ℕ) (f : ℕ) : Type 0 where
  pub sheet : LentSheet c (length P) (length Q) (length labels)
  pub work : LentWork c (length w) f
  pub accepted : 0 < k → sheet_verdict (sheet_of c P Q labels) ≡ Accepted

-- the slices hold the sheet that passes leave; r has its counts, and the merges made
pub record Remains (a : RunEnd Sheet) (r : Tally) (P : List Float) (Q labels : List ℕ) : Type 0 where
  pub count : r.count ≡ a.count
  pub sheet : sheet_of r.sheet P Q labels ≡ a.left
  pub room : HoldsCounts r.sheet (length P) (length Q) (length labels)

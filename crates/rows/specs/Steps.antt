-- What the tests before the rows leave, and what the writing of the sheet with rows asks.
use Rattle.std.specs.Prelude.{ℕ, ◌+◌, ◌*◌, ◌≤◌, ◌<◌, ◌≡◌, true, List, length, take, Float, Ok, Err}
use Rattle.lists.specs.Regions.{part, Part}
use Rattle.rule_sheet.specs.declared.Counts.{Counts}
use Rattle.rule_sheet.specs.Quads.{all}
use Rattle.rule_sheet.specs.Flat.{quads_of}
use Rattle.sheet.specs.Sheet.{LentSheet, masks_of}
use Rattle.rule_sheet.specs.Tests.{proper}
use Rattle.rows_gather.specs.Steps.{masks_at, Labelled, Gathered, counts_after}
use Rattle.rule_sheet.specs.Verdicts.{Verdict, Answer}

-- the answer for a made sheet of these counts, by the test of it
abbrev pub made_by : Counts → Verdict → Answer
made_by c (Ok u) = Ok (record { count = 0; sheet = c })
made_by c (Err n) = Err n

-- what the writing of the sheet with rows asks: the sheet and all that is gathered of it, its counts m, and room in
-- result slices of p, q and l elements
pub record Finished (m : Counts) (np nq : ℕ) (P : List Float) (Q labels w : List ℕ) (p q l : ℕ) : Type 0 where
  pub gathered : Gathered np nq P Q labels (part (masks_at np nq) np w) w
  pub masks : part (masks_at np nq) np w ≡ masks_of np (quads_of nq Q) (take nq labels)
  pub good : all (proper np) (quads_of nq Q) ≡ true
  pub counts : m ≡ counts_after np nq Q labels (part (masks_at np nq) np w)
  pub room : LentSheet m p q l
  pub work : 64 * (np + nq) ≤ length w

-- what 12, 13, 1, 5, 6 and 7 leave: a sheet of good quads and labels, and its masks in the work slice
pub record Tested (c : Counts) (P : List Float) (Q labels w : List ℕ) : Type 0 where
  pub same : c.labels ≡ c.quads
  pub sheet : Labelled c.points c.quads P Q labels
  pub some : 0 < c.quads
  pub good : all (proper c.points) (quads_of c.quads Q) ≡ true
  pub masks : Part (masks_at c.points c.quads) c.points
      (masks_of c.points (quads_of c.quads Q) (take c.quads labels)) w
  pub work : 64 * (c.points + c.quads) ≤ length w

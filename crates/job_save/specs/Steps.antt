-- What 12 and 13 leave of a job.
use Rattle.std.specs.Prelude.{ℕ, ◌≤◌}
use Rattle.rule_sheet.specs.declared.Counts.{Counts}
use Rattle.sheet.specs.Sheet.{LentSheet}

-- of a job in slices of h, p, q and l elements: a header, small counts, and slices that hold them
pub record LentJob (c : Counts) (h p q l : ℕ) : Type 0 where
  pub header : 8 ≤ h
  pub sheet : LentSheet c p q l

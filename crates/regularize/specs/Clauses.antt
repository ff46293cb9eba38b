-- What the clean-up of an accepted sheet asks, and what a run of passes leaves.
use Rattle.std.specs.Prelude.{ℕ, ◌+◌, ◌*◌, ◌≤◌, ◌≡◌, List, length, take, Float}
use Rattle.rule_sheet.specs.Flat.{quads_of}
use Rattle.rule_sheet.specs.Sheet.{sheet_verdict}
use Rattle.rule_sheet.specs.Lent.{Lent, held}
use Rattle.rule_passes.specs.Runs.{capped}
use Rattle.rule_regularize.specs.Swaps.{swap_run}
use Rattle.sheet.specs.Sheet.{LentSheet}
use Rattle.regularize_pass.specs.declared.Trial.{Trial}
use Rattle.regularize_pass.specs.Steps.{fits_in}
use Rattle.rule_sheet.specs.Verdicts.{Accepted}

-- at most k passes over the quads of Q leave R, and count r swaps
pub record RunPassesLeaves (np nq : ℕ) (t : Trial) (P : List Float) (labels : List ℕ) (k : ℕ) (Q R : List ℕ) (r : ℕ)
    : Type 0 where
  pub quads : quads_of nq R ≡ (swap_run np (take nq labels) t.least (fits_in t np nq P labels) k (quads_of nq Q)).left
  pub count : r ≡ capped (swap_run np (take nq labels) t.least (fits_in t np nq P labels) k (quads_of nq Q)).count

-- a sheet that 12, 13, 5, 6 and 7 accept, with a work slice w
pub record CleanAcceptedAsks (least : ℕ) (x : Lent) (w : List ℕ) : Type 0 where
  pub least≤ : least ≤ 1
  pub sheet : LentSheet x.counts (length x.points) (length x.quads) (length x.labels)
  pub work : 64 * (x.counts.points + x.counts.quads) ≤ length w
  pub accepted : sheet_verdict (held x) ≡ Accepted

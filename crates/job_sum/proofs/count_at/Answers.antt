-- `job_sum::count_at` meets its contract. Assumes nothing.
use mathlib.Core.Path.{sym}
use Rattle.job_sum.proofs.Counting.{set_past}
use Rattle.job_sum.proofs.count_at.Goals as goal

pub returns-then-counts-v : goal.returns-then-counts-v
returns-then-counts-v c = sym (set_past _ _ _ c.if-counts-v.true)

-- `job_open::starts_at` meets its contract. Assumes nothing.
use mathlib.Core.Path.{◌∙◌}
use Rattle.rule_job.specs.Files.{starts_at}
use Rattle.job_open.proofs.starts_at.Goals as goal

pub returns : goal.returns
unfolding starts_at
returns c =
    c.counts_by.ensures
    ∙ rw (c.get-t.ensures, c.get-l.ensures, c.get-q.ensures, c.get-p.ensures)

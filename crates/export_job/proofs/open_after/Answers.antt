-- `export_job::open_after` meets its contract. Assumes nothing.
use Rattle.export_job.proofs.open_after.Goals as goal

pub returns-then-few : goal.returns-then-few
returns-then-few c =
    record { fact = rw c.if-few.true c.open_idle.ensures.fact; work_after = c.open_idle.ensures.work_after }

pub returns : goal.returns
returns c =
    record { fact = rw c.if-few.false c.open.ensures.fact; work_after = c.open.ensures.work_after }

-- `export_job::save_after` meets its contract. Assumes nothing.
use Rattle.export_job.proofs.Shown.{refused-saves}
use Rattle.export_job.proofs.save_after.Goals as goal

pub returns-in-Err : goal.returns-in-Err
returns-in-Err c =
    record { fact = refused-saves _ c.in-Err.is c.clear-in-Err.ensures; work_after = c.clear.ensures }

pub returns : goal.returns
returns c =
    record { fact = rw c.in_default.is c.save.ensures.fact; work_after = c.save.ensures.work_after }

-- `export_job::put_two` meets its contract. Assumes nothing.
use Rattle.rule_exports.specs.Measured.{fronted}
use Rattle.export_job.proofs.put_two.Goals as goal

pub returns : goal.returns
unfolding fronted
returns c = rw c.copy_from_slice.ensures.after

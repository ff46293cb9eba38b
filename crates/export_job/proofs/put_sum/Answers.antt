-- `export_job::put_sum` meets its contract. Assumes nothing.
use Rattle.rule_exports.specs.Jobs.{sum_shown}
use Rattle.export_job.proofs.put_sum.Goals as goal

pub returns-in-None : goal.returns-in-None
unfolding sum_shown
returns-in-None c = rw c.in-None.is c.put_two.ensures

pub returns-in-Some : goal.returns-in-Some
unfolding sum_shown
returns-in-Some c = rw c.in-Some.is c.put_two-in-Some.ensures

-- `export_job::short_number` meets its contract. Assumes nothing.
use Rattle.rule_job.specs.Jobs.{sum_by}
use Rattle.rule_exports.specs.Jobs.{sum_answered}
use Rattle.export_job.proofs.short_number.Goals as goal

pub returns-in-Some : goal.returns-in-Some
unfolding sum_answered sum_by
returns-in-Some c = rw c.in-Some.is c.number.ensures

pub returns-in-None : goal.returns-in-None
unfolding sum_answered sum_by
returns-in-None c = rw c.in-None.is c.number-in-None.ensures

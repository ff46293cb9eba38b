-- `export_band::answer_count` meets its contract. Assumes nothing.
use Rattle.rule_exports.specs.Exports.{answer_count}
use Rattle.export_band.proofs.answer_count.Goals as goal

pub returns-in-Ok : goal.returns-in-Ok
unfolding answer_count
returns-in-Ok c = rw c.in-Ok.is

pub returns-in-Err : goal.returns-in-Err
unfolding answer_count
returns-in-Err c = rw c.in-Err.is

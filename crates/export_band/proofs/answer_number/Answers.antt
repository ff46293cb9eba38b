-- `export_band::answer_number` meets its contract. Assumes nothing.
use Rattle.rule_exports.specs.Exports.{answer_number}
use Rattle.export_band.proofs.answer_number.Goals as goal

pub returns-in-Ok : goal.returns-in-Ok
unfolding answer_number
returns-in-Ok g c = rw c.in-Ok.is

pub returns-in-Err : goal.returns-in-Err
unfolding answer_number
returns-in-Err g c = rw c.in-Err.is c.number.ensures

-- `export_quality::quality_after` meets its contract. Assumes nothing.
use Rattle.export_quality.proofs.quality_after.Goals as goal

pub returns-in-Err : goal.returns-in-Err
returns-in-Err c = record { result_value = rw c.in-Err.is; cleared = c.clear_work.ensures }

pub returns : goal.returns
returns c =
    record { result_value = rw c.in_default.is c.quality.ensures.answer; cleared = c.quality.ensures.cleared }

-- `export_corners::corners_after` meets its contract. Assumes nothing.
use Rattle.export_corners.proofs.corners_after.Goals as goal

pub returns-in-Err : goal.returns-in-Err
returns-in-Err c = record { result_value = rw c.in-Err.is; cleared = c.clear_work.ensures }

pub returns : goal.returns
returns c =
    record { result_value = rw c.in_default.is c.corners_per_point.ensures.answer; cleared = c.corners_per_point.ensures.cleared }

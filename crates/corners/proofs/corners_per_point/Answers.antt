-- `corners::corners_per_point` meets its contract. Assumes nothing.
use Rattle.corners.proofs.corners_per_point.Goals as goal

pub returns : goal.returns
returns c =
    record { answer = c.corners_or_refusal-r.ensures; cleared = record { work = rw c.corners_or_refusal-r.auto.work at c.clear_work.ensures.work; floats = c.clear_work.ensures.floats } }

-- `quality::quality` meets its contract. Assumes nothing.
use Rattle.quality.proofs.quality.Goals as goal

pub returns : goal.returns
returns c =
    record { answer = c.quality_or_refusal-r.ensures; cleared = record { work = rw c.quality_or_refusal-r.auto.work at c.clear_work.ensures.work; floats = rw c.quality_or_refusal-r.auto.floats at c.clear_work.ensures.floats } }

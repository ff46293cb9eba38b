-- `regularize::clean` meets its contract. Assumes nothing.
use Rattle.regularize.proofs.clean.Goals as goal

pub returns : goal.returns
returns c =
    record { sheet = c.clean_or_refusal-r.ensures.sheet; cleared = record { work = rw c.clean_or_refusal-r.auto.w at c.clear_work.ensures.work; floats = c.clear_work.ensures.floats } }

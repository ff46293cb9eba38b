-- `coarsen::coarsen` meets its contract. Assumes nothing.
use Rattle.coarsen.proofs.coarsen.Goals as goal

pub returns : goal.returns
returns c =
    record { sheet = c.coarsen_or_refusal-r.ensures; cleared = record { work = rw c.coarsen_or_refusal-r.auto.work at c.clear_work.ensures.work; floats = rw c.coarsen_or_refusal-r.auto.floats at c.clear_work.ensures.floats } }

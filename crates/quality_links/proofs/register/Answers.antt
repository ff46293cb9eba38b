-- `quality_links::register` meets its contract. Assumes nothing.
use Rattle.quality_links.proofs.register.Goals as goal

pub returns : goal.returns
returns c = rw c.other_sum.ensures

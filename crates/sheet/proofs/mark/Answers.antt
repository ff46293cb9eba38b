-- `sheet::mark` meets its contract. Assumes nothing.
use Rattle.sheet.proofs.mark.Goals as goal

pub returns : goal.returns
returns c = rw c.with_bit.ensures

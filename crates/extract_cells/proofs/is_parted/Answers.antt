-- `extract_cells::is_parted` meets its contract. Assumes nothing.
use Rattle.rule_extract.specs.Cells.{parted}
use borrow.Author.Tests.{lt-ltb}
use Rattle.extract_cells.proofs.is_parted.Goals as goal

pub returns-in-Some : goal.returns-in-Some
unfolding parted
returns-in-Some c = rw (← c.in-Some.ensures.0, lt-ltb _ _ c.in-Some.ensures.1, ← c.bit.ensures)

pub returns-in-None : goal.returns-in-None
unfolding parted
returns-in-None c = rw c.in-None.ensures

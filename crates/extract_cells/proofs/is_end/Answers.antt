-- `extract_cells::is_end` meets its contract. Assumes nothing.
use Rattle.rule_extract.specs.Cells.{is_end}
use Rattle.extract_cells.proofs.is_end.Goals as goal

pub returns : goal.returns
unfolding is_end
returns c = rw (c.low_end.ensures.value, c.high_end.ensures.value)

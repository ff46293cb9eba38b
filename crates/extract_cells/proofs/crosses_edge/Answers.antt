-- `extract_cells::crosses_edge` meets its contract. Assumes nothing.
use Rattle.rule_extract.specs.Cells.{crosses}
use Rattle.extract_cells.proofs.crosses_edge.Goals as goal

pub returns : goal.returns
unfolding crosses
returns c =
    rw (c.bit.ensures, c.low_end.ensures.value, c.bit-2.ensures, c.high_end.ensures.value)

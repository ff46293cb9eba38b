-- `extract_cells::bit` meets its contract. Assumes nothing.
use borrow.Author.Rules.{rules}
use Rattle.rule_extract.specs.Cells.{bit_of}
use Rattle.extract_cells.proofs.bit.Goals as goal

pub returns : goal.returns
unfolding bit_of
returns c = search rules

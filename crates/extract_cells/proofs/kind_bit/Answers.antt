-- `extract_cells::kind_bit` meets its contract. Assumes nothing.
use borrow.Author.Tests.{lt-ltb, le-ltb}
use Rattle.extract_cells.specs.Cells.{kind_bit}
use Rattle.extract_cells.proofs.kind_bit.Goals as goal

pub returns-then-i-lt12 : goal.returns-then-i-lt12
unfolding kind_bit
returns-then-i-lt12 c = simp (lt-ltb _ _ c.if-i-lt12.true) c.crosses_edge.ensures

pub returns : goal.returns
unfolding kind_bit
returns c = simp (le-ltb _ _ c.if-i-lt12.false) c.four_crossings.ensures

-- `extract_cells::shared` meets its contract. Assumes nothing.
use Rattle.rule_extract.specs.Cells.{shared_by}
use Rattle.extract_cells.proofs.shared.Goals as goal

pub returns-then-is_end : goal.returns-then-is_end
unfolding shared_by
returns-then-is_end c = (rw (← c.low_end-low.ensures.value, ← c.is_end.ensures, c.if-is_end.true), c.low_end-low.ensures.upper_bound)

pub returns-then-is_end-2 : goal.returns-then-is_end-2
unfolding shared_by
returns-then-is_end-2 c =
    (rw (← c.low_end-low.ensures.value, ← c.is_end.ensures, c.if-is_end.false, ← c.high_end-high.ensures.value, ← c.is_end-2.ensures, c.if-is_end-2.true), c.high_end-high.ensures.upper_bound)

pub returns : goal.returns
unfolding shared_by
returns c =
    rw (← c.low_end-low.ensures.value, ← c.is_end.ensures, c.if-is_end.false, ← c.high_end-high.ensures.value, ← c.is_end-2.ensures, c.if-is_end-2.false)

-- `quality_cell::quotient` meets its contract. Assumes nothing.
use Rattle.rule_quality.specs.Cells.{quotient_of}
use Rattle.quality_cell.proofs.quotient.Goals as goal

pub returns-then-denominator : goal.returns-then-denominator
unfolding quotient_of
returns-then-denominator c = simp c.if-denominator.true

pub returns : goal.returns
unfolding quotient_of
returns c = simp c.if-denominator.false

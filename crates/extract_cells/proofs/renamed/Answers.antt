-- `extract_cells::renamed` meets its contract. Assumes nothing.
use borrow.Author.Tests.{eq-eqb, ne_eqb}
use Rattle.extract_cells.proofs.renamed.Goals as goal

pub returns-then-group-old : goal.returns-then-group-old
returns-then-group-old c = simp (eq-eqb _ _ c.if-group-old.true)

pub returns-else-group-old : goal.returns-else-group-old
returns-else-group-old c = simp (ne_eqb _ _ c.if-group-old.false)

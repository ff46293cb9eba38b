-- `projection::freedom` meets its contract. Assumes nothing.
use borrow.Author.Tests.{eq-eqb, ne_eqb}
use Rattle.projection.specs.Project.{freedom_of}
use Rattle.projection.proofs.freedom.Goals as goal

pub returns-then-bits-eq0 : goal.returns-then-bits-eq0
unfolding freedom_of
returns-then-bits-eq0 c = simp (eq-eqb _ _ c.if-bits-eq0.true)

pub returns-else-bits-eq0 : goal.returns-else-bits-eq0
unfolding freedom_of
returns-else-bits-eq0 c = simp (ne_eqb _ _ c.if-bits-eq0.false)

-- `band::side` meets its contract. Assumes nothing.
use borrow.Author.Tests.{eq-eqb, ne_eqb}
use Rattle.band.specs.Bands.{side_of}
use Rattle.band.proofs.side.Goals as goal

pub returns-then-label-eq0 : goal.returns-then-label-eq0
unfolding side_of
returns-then-label-eq0 c = simp (eq-eqb _ _ c.if-label-eq0.true)

pub returns-else-label-eq0 : goal.returns-else-label-eq0
unfolding side_of
returns-else-label-eq0 c = simp (ne_eqb _ _ c.if-label-eq0.false)

-- `band::level_sign` meets its contract. Assumes nothing.
use borrow.Author.Tests.{eq-eqb, ne_eqb}
use Rattle.band.specs.Bands.{level_sign_of}
use Rattle.band.proofs.level_sign.Goals as goal

pub returns-then-label-eq0 : goal.returns-then-label-eq0
unfolding level_sign_of
returns-then-label-eq0 c = simp (eq-eqb _ _ c.if-label-eq0.true)

pub returns-else-label-eq0 : goal.returns-else-label-eq0
unfolding level_sign_of
returns-else-label-eq0 c = simp (ne_eqb _ _ c.if-label-eq0.false)

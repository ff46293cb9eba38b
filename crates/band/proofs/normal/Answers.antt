-- `band::normal` meets its contract. Assumes nothing.
use borrow.Author.Tests.{lt-ltb, le-ltb}
use Rattle.band.specs.Bands.{normal_with}
use Rattle.band.proofs.normal.Goals as goal

pub returns-then-label-lt2 : goal.returns-then-label-lt2
unfolding normal_with
returns-then-label-lt2 c = simp (lt-ltb _ _ c.if-label-lt2.true) cc

pub returns : goal.returns
unfolding normal_with
returns c = simp (le-ltb _ _ c.if-label-lt2.false) c.face_normal.ensures

-- `band::face_normal` meets its contract. Assumes nothing.
use borrow.Author.Tests.{lt-ltb, le-ltb}
use Rattle.band.specs.Bands.{face_normal_of}
use Rattle.band.proofs.face_normal.Goals as goal

pub returns-then-label-lt4 : goal.returns-then-label-lt4
unfolding face_normal_of
returns-then-label-lt4 c = simp (lt-ltb _ _ c.if-label-lt4.true, c.side-s.ensures)

pub returns-then-label-lt6 : goal.returns-then-label-lt6
unfolding face_normal_of
returns-then-label-lt6 c = simp (le-ltb _ _ c.if-label-lt4.false, lt-ltb _ _ c.if-label-lt6.true, c.side-s.ensures)

pub returns : goal.returns
unfolding face_normal_of
returns c = simp (le-ltb _ _ c.if-label-lt4.false, le-ltb _ _ c.if-label-lt6.false, c.side-s.ensures)

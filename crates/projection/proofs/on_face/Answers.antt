-- `projection::on_face` meets its contract. Assumes nothing.
use borrow.Author.Tests.{eq-eqb, ne_eqb, le-leb, lt-leb}
use Rattle.projection.specs.Project.{on_face_of}
use Rattle.projection.proofs.on_face.Goals as goal

pub returns-then-bits-ge2 : goal.returns-then-bits-ge2
unfolding on_face_of
returns-then-bits-ge2 c = simp (le-leb _ _ c.if-bits-ge2.true)

pub returns-then-bits-eq1 : goal.returns-then-bits-eq1
unfolding on_face_of
returns-then-bits-eq1 c = simp (lt-leb _ _ c.if-bits-ge2.false, eq-eqb _ _ c.if-bits-eq1.true)

pub returns : goal.returns
unfolding on_face_of
returns c = simp (lt-leb _ _ c.if-bits-ge2.false, ne_eqb _ _ c.if-bits-eq1.false)

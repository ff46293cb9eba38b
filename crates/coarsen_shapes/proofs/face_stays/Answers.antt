-- `coarsen_shapes::face_stays` meets its contract. Assumes nothing.
use borrow.Author.Tests.{eq-eqb, ne_eqb}
use Rattle.pass_shapes.proofs.Shaped.{four-quad}
use Rattle.coarsen_shapes.proofs.face_stays.Goals as goal

pub returns-then-j-m : goal.returns-then-j-m
returns-then-j-m c = simp (eq-eqb _ _ c.if-j-m.true)

pub returns : goal.returns
returns c =
    simp (ne_eqb _ _ c.if-j-m.false, ← four-quad c.args.quads.now c.args.j _ c.four_at-q.ensures.value) c.quad_stays.ensures

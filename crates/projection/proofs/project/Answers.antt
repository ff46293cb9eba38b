-- `projection::project` meets its contract. Assumes nothing.
use borrow.Author.Tests.{eq-eqb, ne_eqb}
use Rattle.projection.specs.Project.{project_with}
use Rattle.projection.proofs.project.Goals as goal

pub returns-then-mask-eq0 : goal.returns-then-mask-eq0
unfolding project_with
returns-then-mask-eq0 c = simp (eq-eqb _ _ c.if-mask-eq0.true, ← c.on_faces-q.ensures) c.close.ensures

pub returns-in_err-r : goal.returns-in_err-r
unfolding project_with
returns-in_err-r c =
    let level = ne_eqb _ _ c.if-mask-eq0.false in
    simp (level, ← c.on_faces-q.ensures, ← c.target-t.ensures, ← c.free_part.ensures, ← c.walk.ensures, c.in_err-r.was) c.from_residual.ensures

pub returns : goal.returns
unfolding project_with
returns c =
    let level = ne_eqb _ _ c.if-mask-eq0.false in
    simp (level, ← c.on_faces-q.ensures, ← c.target-t.ensures, ← c.free_part.ensures, ← c.walk.ensures, c.in_ok-r.was) c.close-2.ensures

-- `extract_grid::face_site` meets its contract. Assumes nothing.
use borrow.Author.Tests.{eq-eqb, ne_eqb}
use Rattle.rule_extract.specs.Lattice.{face_site}
use Rattle.extract_grid.proofs.face_site.Goals as goal

pub returns-then-f-eq0 : goal.returns-then-f-eq0
unfolding face_site
returns-then-f-eq0 c = simp (eq-eqb _ _ c.if-f-eq0.true)

pub returns : goal.returns
unfolding face_site
returns c = simp (ne_eqb _ _ c.if-f-eq0.false) c.next_site.ensures

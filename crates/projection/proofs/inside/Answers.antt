-- `projection::inside` meets its contract. Assumes nothing.
use Rattle.projection.specs.Project.{inside_of}
use Rattle.projection.proofs.inside.Goals as goal

pub returns : goal.returns
unfolding inside_of
returns c = simp (c.within.ensures, c.within-2.ensures, c.within-3.ensures)

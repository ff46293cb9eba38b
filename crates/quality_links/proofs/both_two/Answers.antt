-- `quality_links::both_two` meets its contract. Assumes nothing.
use Rattle.quality_links.proofs.both_two.Goals as goal

pub returns : goal.returns
returns c = rw (c.at-a.ensures, c.at-b.ensures, c.point_before.ensures, c.point_after.ensures)

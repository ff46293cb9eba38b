-- `subdivide_points::centre_at` meets its contract. Assumes nothing.
use Rattle.rule_sheet.specs.Places.{centre_of}
use Rattle.subdivide_points.proofs.centre_at.Goals as goal

pub returns : goal.returns
unfolding centre_of
returns c =
    rw (c.centre.ensures, c.corner_point-d.ensures, c.corner_point-c.ensures, c.corner_point-b.ensures, c.corner_point-a.ensures)

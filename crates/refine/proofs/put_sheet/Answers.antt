-- `refine::put_sheet` meets its contract. Assumes nothing.
use Rattle.refine.proofs.Rule.{writing-of, numbered_of, points-put, quads-put}
use Rattle.refine.proofs.put_sheet.Goals as goal

pub put_points-requires : goal.put_points-requires
put_points-requires c =
    record { writing = writing-of c.requires _ c.copy_points.auto.out; numbered = numbered_of c.requires; front = c.copy_points.ensures }

pub returns : goal.returns
returns c =
    record { front = points-put c.requires c.put_points.ensures; front_2 = quads-put c.requires c.put_quads.ensures; front_3 = c.put_labels.ensures }

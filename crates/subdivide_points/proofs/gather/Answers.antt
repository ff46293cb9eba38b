-- `subdivide_points::gather` meets its contract. Assumes nothing.
use Rattle.subdivide_points.proofs.Lists.{order_below, gather-pairing, gather-cornered, gather-room, gathered}
use Rattle.subdivide_points.proofs.gather.Goals as goal

pub put_ends-requires : goal.put_ends-requires
put_ends-requires c =
    record { nq_in_bounds = c.requires.cornered.quads; below = order_below c.requires.cornered c.requires.order; nq_in_bounds_2 = c.requires.in_ends }

pub put_seconds-requires : goal.put_seconds-requires
put_seconds-requires c = gather-pairing c.requires

pub quads_at-requires-2 : goal.quads_at-requires-2
quads_at-requires-2 c =
    record { cornered = gather-cornered c.requires c.put_ends.ensures; three = gather-room c.requires c.put_ends.ensures (c.put_seconds.ensures.seconds, c.put_seconds.ensures.kept) (c.quads_at.ensures.part, (c.quads_at.ensures.part_2, c.quads_at.ensures.kept)) }

pub returns : goal.returns
returns c =
    let the_pair = gathered c.requires c.put_ends.ensures (c.put_seconds.ensures.seconds, c.put_seconds.ensures.kept) (c.quads_at.ensures.part, (c.quads_at.ensures.part_2, c.quads_at.ensures.kept)) (c.quads_at-2.ensures.part, (c.quads_at-2.ensures.part_2, c.quads_at-2.ensures.kept)) in record { ends = the_pair.0; listed = the_pair.1.0; seconds = the_pair.1.1.0; kept = the_pair.1.1.1 }

-- `coarsen_merge::has_corner` meets its contract. Assumes nothing.
use Rattle.coarsen_merge.proofs.Corners.{has_one}
use Rattle.coarsen_merge.proofs.has_corner.Goals as goal

pub returns : goal.returns
returns c =
    rw (c.corner_at-a.ensures, c.corner_at-b.ensures, c.corner_at-c.ensures, c.corner_at-d.ensures) (has_one c.args.quads.now c.args.q c.args.v)

-- `regularize_shapes::hold` meets its contract. Assumes nothing.
use Rattle.regularize_shapes.proofs.SwapFits.{held-is}
use Rattle.regularize_shapes.proofs.hold.Goals as goal

pub returns : goal.returns
returns c =
    held-is _ _ _ _ c.args.quads.now c.args.i c.args.j _ _ _ _ _ _ c.hex_centre.ensures c.normal-normal.ensures c.four_at-q.ensures.value c.four_at-r.ensures.value c.lesser_shape-old.ensures

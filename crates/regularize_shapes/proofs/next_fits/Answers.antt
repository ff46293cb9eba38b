-- `regularize_shapes::next_fits` meets its contract. Assumes nothing.
use Rattle.points.specs.Points.{point_at}
use Rattle.rule_regularize.specs.SwapFits.{next_fits}
use Rattle.regularize_shapes.specs.SwapFits.{hex_of}
use Rattle.regularize_shapes.proofs.SwapFits.{shape-named}
use Rattle.regularize_shapes.proofs.next_fits.Goals as goal

pub returns : goal.returns
unfolding next_fits
returns c =
    let e = shape-named (point_at c.args.points.now) (hex_of c.args.h) c.args.k c.args.held.normal in
    cc

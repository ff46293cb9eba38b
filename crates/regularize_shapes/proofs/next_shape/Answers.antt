-- `regularize_shapes::next_shape` meets its contract. Assumes nothing.
use mathlib.Core.Path.{◌∙◌}
use Rattle.points.specs.Points.{point_at}
use Rattle.regularize_shapes.proofs.SwapFits.{shape-turned}
use Rattle.regularize_shapes.proofs.next_shape.Goals as goal

pub returns : goal.returns
returns c =
    c.lesser_shape.ensures
    ∙ shape-turned (point_at c.args.points.now) c.args.h c.args.k c.args.n c.turned_by-g.result c.turned_by-g.ensures

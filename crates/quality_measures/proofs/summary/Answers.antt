-- `quality_measures::summary` meets its contract. Assumes nothing.
use Rattle.quality_measures.proofs.Rule.{summary-is}
use Rattle.quality_measures.proofs.summary.Goals as goal

pub returns : goal.returns
returns c =
    summary-is c.args.n _ c.args.floats.now _ _ _ _ c.least-minimum_shape.ensures c.p05-shape_size_p05.ensures c.mean-shape_size_mean.ensures c.least-minimum_sampled_jacobian.ensures c.invalid-invalid_cells.ensures

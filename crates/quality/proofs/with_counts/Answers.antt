-- `quality::with_counts` meets its contract. Assumes nothing.
use Rattle.quality.proofs.Rule.{counted}
use Rattle.quality.proofs.with_counts.Goals as goal

pub returns : goal.returns
returns c =
    counted _ _ _ _ _ _ _ _ c.count_points-points.ensures c.count_edges-edges.ensures c.count_duplicates-duplicate_faces.ensures c.is_tight.ensures

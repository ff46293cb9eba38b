-- `subdivide_points::is_paired` meets its contract. Assumes nothing.
use mathlib.Core.Path.{sym}
use Rattle.edges.specs.Steps.{edge_counts}
use Rattle.subdivide_points.proofs.EdgeList.{paired-counts}
use Rattle.subdivide_points.proofs.is_paired.Goals as goal

pub returns : goal.returns
unfolding edge_counts
returns c = rw c.edge_counts-c.ensures (sym (paired-counts _ _ _ c.requires.quads_value))

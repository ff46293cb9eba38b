-- `quality::count_points` meets its contract. Assumes nothing.
use mathlib.Core.Path.{sym}
use Rattle.quality.specs.Quality.{point_counts}
use Rattle.quality.proofs.Rule.{link-room}
use Rattle.quality.proofs.count_points.Goals as goal

pub bad_links-bad_links-requires : goal.bad_links-bad_links-requires
bad_links-bad_links-requires c =
    link-room c.requires (sym c.quads_at.auto.w) c.quads_at.ensures.part c.quads_at.ensures.part_2 c.valences.ensures.kept

pub returns : goal.returns
unfolding point_counts
returns c = cc

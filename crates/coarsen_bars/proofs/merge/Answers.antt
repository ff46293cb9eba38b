-- `coarsen_bars::merge` meets its contract. Assumes nothing.
use Rattle.coarsen_merge.proofs.Start.{start-kept, removed-in}
use Rattle.coarsen_bars.proofs.Bars.{only-points, joined_of}
use Rattle.lists.proofs.Regions.{kept_then}
use Rattle.coarsen_bars.proofs.merge.Goals as goal

pub bar_around-requires : goal.bar_around-requires
bar_around-requires c =
    record { start_holds = c.requires.start_holds; touched_holds = c.requires.touched_holds; v_lt_np = c.requires.merge_asks.a< }

pub bar_around-requires-2 : goal.bar_around-requires-2
bar_around-requires-2 c =
    record { start_holds = start-kept c.requires.start_holds (only-points c.args.np c.args.nq c.bar_around.ensures.kept); touched_holds = c.bar_around.ensures.touched; v_lt_np = c.requires.merge_asks.c< }

pub bounds-w-np : goal.bounds-w-np
bounds-w-np c =
    removed-in c.args.f c.requires.start_holds (kept_then c.bar_around.ensures.kept c.bar_around-2.ensures.kept (λ i o. (o, o))) c.requires.merge_asks.f<

pub returns : goal.returns
returns c =
    record { points_after = c.put_point.ensures; merge_leaves = joined_of _ _ c.requires.start_holds c.requires.merge_asks.f< c.rename.ensures c.bar_around.ensures c.bar_around-2.ensures }

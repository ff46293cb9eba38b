-- `coarsen_search::is_tried` meets its contract. Assumes nothing.
use Rattle.coarsen_merge.specs.Regions.{used_at}
use Rattle.coarsen_merge.proofs.Start.{length-lent-used, removed-in}
use Rattle.coarsen_search.proofs.Steps.{tried-is}
use Rattle.lists.specs.Regions.{Out}
use Rattle.lists.proofs.Regions.{kept_refl}
use Rattle.coarsen_search.proofs.is_tried.Goals as goal

pub at-here-requires : goal.at-here-requires
at-here-requires c =
    removed-in c.args.f c.requires.start_holds (kept_refl (Out (used_at c.args.np c.args.nq) c.args.np) c.args.w.now) c.requires.f_lt_nq

pub quad_free-requires : goal.quad_free-requires
quad_free-requires c =
    record { cornered = c.requires.cornered; used_len = length-lent-used c.requires.start_holds; q_lt_nq = c.requires.f_lt_nq }

pub returns : goal.returns
returns c =
    tried-is _ _ _ c.requires.start_holds c.requires.f_lt_nq c.at-here.ensures c.quad_free.ensures

-- `coarsen_merge::share_only` meets its contract. Assumes nothing.
use Rattle.coarsen_merge.proofs.Start.{listed_start, shared-lent}
use Rattle.coarsen_merge.proofs.share_only.Goals as goal

pub none_shared-requires : goal.none_shared-requires
none_shared-requires c =
    record { start_holds = c.requires.start_holds; v_lt_np = c.requires.u_lt_np; list_asks = rw c.range.ensures (listed_start c.requires.start_holds c.corners_of.ensures) }

pub returns : goal.returns
returns c = shared-lent _ _ _ _ c.corners_of.ensures (rw c.range.ensures at c.none_shared.ensures)

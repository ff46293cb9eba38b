-- `coarsen_merge::near_free` meets its contract. Assumes nothing.
use Rattle.coarsen_merge.proofs.Start.{touch-read}
use Rattle.coarsen_merge.proofs.near_free.Goals as goal

pub at-requires : goal.at-requires
at-requires c = (touch-read c.args.v c.requires.start_holds c.requires.v_lt_np).in_w

pub returns : goal.returns
returns c =
    rw (c.at.ensures, (touch-read c.args.v c.requires.start_holds c.requires.v_lt_np).is) (c.requires.touched_holds.is c.args.v c.requires.v_lt_np)

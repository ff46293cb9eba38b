-- `coarsen_search::take` meets its contract. Assumes nothing.
use Rattle.coarsen_search.proofs.Steps.{takeable-at, taken_none, taken_made}
use Rattle.coarsen_search.proofs.take.Goals as goal

pub merge-requires : goal.merge-requires
merge-requires c =
    record { start_holds = c.requires.start_holds; merge_asks = takeable-at _ _ _ _ _ _ _ c.in-Some.is c.requires.take_asks; touched_holds = c.requires.touched_holds }

pub returns-in-None : goal.returns-in-None
returns-in-None c = taken_none _ _ _ _ _ _ _ c.in-None.is

pub returns-in-Some : goal.returns-in-Some
returns-in-Some c =
    taken_made _ _ _ _ _ _ _ _ _ _ _ c.in-Some.is c.merge.ensures.points_after c.merge.ensures.merge_leaves

-- `coarsen_merge::meet_only` meets its contract. Assumes nothing.
use Rattle.coarsen_merge.proofs.Start.{meet-first, meet-second}
use Rattle.coarsen_merge.proofs.meet_only.Goals as goal

pub returns-then-valence_at : goal.returns-then-valence_at
returns-then-valence_at c = meet-second _ _ _ _ _ _ _ c.requires.start_holds c.share_only.ensures c.no_further.ensures

pub returns : goal.returns
returns c =
    meet-first _ _ _ _ _ _ _ c.requires.start_holds c.share_only-2.ensures c.no_further-2.ensures

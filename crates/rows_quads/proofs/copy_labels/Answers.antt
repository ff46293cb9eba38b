-- `rows_quads::copy_labels` meets its contract. Assumes nothing.
use lib.Seq.{length-take-le}
use Rattle.refine.proofs.Loops.{front-copied}
use Rattle.rows_quads.proofs.Strips.{front-take}
use Rattle.rows_quads.proofs.copy_labels.Goals as goal

pub returns : goal.returns
returns c =
    front-copied _ (front-take _ _ c.requires.nq_in_bounds) (length-take-le _ _ c.requires.nq_in_bounds) c.copy.ensures

-- `extract_cells::merge_if` meets its contract. Assumes nothing.
use Rattle.extract_cells.specs.Cells.{merged_if}
use Rattle.extract_cells.proofs.Faces.{merged-pair}
use Rattle.extract_cells.proofs.merge_if.Goals as goal

pub returns-then-joined : goal.returns-then-joined
unfolding merged_if
returns-then-joined c =
    rw (← c.joined.ensures, c.if-joined.true) (merged-pair _ _ c.merge.ensures c.pair_at-a.ensures.first c.pair_at-a.ensures.second)

pub returns-else-joined : goal.returns-else-joined
unfolding merged_if
returns-else-joined c = rw (← c.joined.ensures, c.if-joined.false)

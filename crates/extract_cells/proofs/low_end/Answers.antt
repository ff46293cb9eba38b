-- `extract_cells::low_end` meets its contract. Assumes nothing.
use Rattle.extract_cells.proofs.Tables.{low-at}
use Rattle.extract_cells.proofs.low_end.Goals as goal

pub returns : goal.returns
returns c =
    let the_pair = low-at _ c.requires in record { value = the_pair.0; upper_bound = the_pair.1 }

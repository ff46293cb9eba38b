-- `extract_cells::high_end` meets its contract. Assumes nothing.
use Rattle.extract_cells.proofs.Tables.{high-at}
use Rattle.extract_cells.proofs.high_end.Goals as goal

pub returns : goal.returns
returns c =
    let the_pair = high-at _ c.requires in record { value = the_pair.0; upper_bound = the_pair.1 }

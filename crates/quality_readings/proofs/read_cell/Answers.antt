-- `quality_readings::read_cell` meets its contract. Assumes nothing.
use Rattle.quality_readings.proofs.Cells.{cell-read, cell-left}
use Rattle.quality_readings.proofs.read_cell.Goals as goal

pub returns-then-good_normal : goal.returns-then-good_normal
returns-then-good_normal c =
    let the_pair = cell-read _ _ _ _ _ _ _ _ _ _ _ c.centre-centre.ensures c.normal-normal.ensures c.good_normal.ensures c.if-good_normal.true c.store.ensures in record { value = the_pair.0; floats_after = the_pair.1 }

pub returns : goal.returns
returns c =
    let the_pair = cell-left _ _ _ _ _ _ _ _ _ _ c.centre-centre.ensures c.normal-normal.ensures c.good_normal.ensures c.if-good_normal.false in record { value = the_pair.0; floats_after = the_pair.1 }

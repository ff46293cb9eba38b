-- `regularize_swap::begin_pass` meets its contract. Assumes nothing.
use Rattle.regularize_swap.proofs.Begun.{begun}
use Rattle.regularize_swap.proofs.begin_pass.Goals as goal

pub returns : goal.returns
returns c = begun c.requires.map_asks c.requires.all c.map_sheet.ensures _ c.clear.ensures

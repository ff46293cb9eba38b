-- `sheet::clear_behind` meets its contract. Assumes nothing.
use Rattle.sheet.proofs.Results.{behind}
use Rattle.sheet.proofs.clear_behind.Goals as goal

pub returns : goal.returns
returns g c = behind _ _ _ _ c.requires c.clear.ensures

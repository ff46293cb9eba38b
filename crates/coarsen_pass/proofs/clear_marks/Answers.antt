-- `coarsen_pass::clear_marks` meets its contract. Assumes nothing.
use Rattle.coarsen_pass.proofs.Begin.{cleared}
use Rattle.coarsen_pass.proofs.clear_marks.Goals as goal

pub returns : goal.returns
returns c = cleared c.args.w.now _ _ _ c.requires c.clear.ensures c.clear-2.ensures c.clear-3.ensures

-- `pass_shapes::centre` meets its contract. Assumes nothing.
use Rattle.rule_sheet.specs.Places.{centre_of}
use Rattle.pass_shapes.proofs.centre.Goals as goal

pub returns : goal.returns
unfolding centre_of
returns c = cc

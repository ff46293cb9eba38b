-- `pass_shapes::no_worse` meets its contract. Assumes nothing.
use Rattle.rule_passes.specs.Shapes.{no_worse}
use Rattle.pass_shapes.proofs.no_worse.Goals as goal

pub returns : goal.returns
unfolding no_worse
returns c = cc

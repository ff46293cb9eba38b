-- `extract_crossings::narrow` meets its contract. Assumes nothing.
use Rattle.rule_extract.specs.Crossings.{narrowed}
use Rattle.extract_crossings.proofs.narrow.Goals as goal

pub returns-then-keep : goal.returns-then-keep
unfolding narrowed
returns-then-keep c = simp c.if-keep.true cc

pub returns : goal.returns
unfolding narrowed
returns c = simp c.if-keep.false cc

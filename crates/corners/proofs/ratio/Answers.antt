-- `corners::ratio` meets its contract. Assumes nothing.
use borrow.Author.Rules.{rules}
use Rattle.rule_corners.specs.Corners.{ratio_of}
use Rattle.corners.proofs.ratio.Goals as goal

pub returns : goal.returns
unfolding ratio_of
returns c = search rules

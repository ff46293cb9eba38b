-- `sheet::distinct_corners` meets its contract. Assumes nothing.
use Rattle.rule_sheet.specs.Tests.{distinct}
use borrow.Author.Rules.{rules}
use Rattle.sheet.proofs.distinct_corners.Goals as goal

pub returns : goal.returns
unfolding distinct
returns c = search rules

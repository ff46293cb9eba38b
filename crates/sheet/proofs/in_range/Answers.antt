-- `sheet::in_range` meets its contract. Assumes nothing.
use Rattle.rule_sheet.specs.Tests.{in_range}
use borrow.Author.Rules.{rules}
use Rattle.sheet.proofs.in_range.Goals as goal

pub returns : goal.returns
unfolding in_range
returns c = search rules

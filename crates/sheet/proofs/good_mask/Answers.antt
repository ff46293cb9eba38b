-- `sheet::good_mask` meets its contract. Assumes nothing.
use Rattle.rule_sheet.specs.Tests.{good_mask}
use borrow.Author.Rules.{rules}
use Rattle.sheet.proofs.good_mask.Goals as goal

pub returns : goal.returns
unfolding good_mask
returns c = search rules

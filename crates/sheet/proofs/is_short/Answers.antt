-- `sheet::is_short` meets its contract. Assumes nothing.
use Rattle.rule_sheet.specs.Lent.{is_short}
use borrow.Author.Rules.{rules}
use Rattle.sheet.proofs.is_short.Goals as goal

pub returns : goal.returns
unfolding is_short
returns c = search rules

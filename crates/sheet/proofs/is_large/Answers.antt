-- `sheet::is_large` meets its contract. Assumes nothing.
use Rattle.rule_sheet.specs.Lent.{is_large}
use borrow.Author.Rules.{rules}
use Rattle.sheet.proofs.is_large.Goals as goal

pub returns : goal.returns
unfolding is_large
returns c = search rules

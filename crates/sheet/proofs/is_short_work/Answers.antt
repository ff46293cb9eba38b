-- `sheet::is_short_work` meets its contract. Assumes nothing.
use Rattle.rule_sheet.specs.Lent.{is_short_work}
use native.Mathlib.Omega.{arith}
use borrow.Author.Rules.{rules}
use Rattle.sheet.proofs.is_short_work.Goals as goal

pub overflow_add-n : goal.overflow_add-n
overflow_add-n c = omega arith

pub returns : goal.returns
unfolding is_short_work
returns c = search rules

-- `sheet::shown_counts` meets its contract. Assumes nothing.
use Rattle.rule_sheet.specs.Results.{shown_counts}
use borrow.Author.Rules.{rules}
use Rattle.sheet.proofs.shown_counts.Goals as goal

pub returns-in-Ok : goal.returns-in-Ok
unfolding shown_counts
returns-in-Ok c = search rules

pub returns-in-Err : goal.returns-in-Err
unfolding shown_counts
returns-in-Err c = rw c.in-Err.is

-- `sheet::before_verdict` meets its contract. Assumes nothing.
use mathlib.Core.Path.{sym, ◌∙◌}
use Rattle.rule_sheet.specs.Lent.{before_verdict}
use Rattle.sheet.proofs.before_verdict.Goals as goal

pub returns-then-is_large : goal.returns-then-is_large
unfolding before_verdict
returns-then-is_large c = rw (sym c.is_large.ensures ∙ c.if-is_large.true)

pub returns-then-too_short : goal.returns-then-too_short
unfolding before_verdict
returns-then-too_short c = rw (sym c.is_large.ensures ∙ c.if-is_large.false, c.if-too_short.true)

pub returns : goal.returns
unfolding before_verdict
returns c = rw (sym c.is_large.ensures ∙ c.if-is_large.false, c.if-too_short.false)

-- `sheet::lent` meets its contract. Assumes nothing.
use Rattle.rule_sheet.specs.Lent.{lent_verdict}
use Rattle.sheet.proofs.Tests.{few-of}
use mathlib.Core.Path.{sym, ◌∙◌}
use Rattle.sheet.proofs.lent.Goals as goal

pub returns-then-is_large : goal.returns-then-is_large
unfolding lent_verdict
returns-then-is_large c = simp (← c.is_large.ensures, c.if-is_large.true)

pub is_short-requires : goal.is_short-requires
is_short-requires c = few-of _ (sym c.is_large.ensures ∙ c.if-is_large.false)

pub returns-then-is_short : goal.returns-then-is_short
unfolding lent_verdict
returns-then-is_short c = simp (← c.is_large.ensures, c.if-is_large.false, ← c.is_short.ensures, c.if-is_short.true)

pub is_short_work-requires : goal.is_short_work-requires
is_short_work-requires c = few-of _ (sym c.is_large.ensures ∙ c.if-is_large.false)

pub returns-then-is_short_work : goal.returns-then-is_short_work
unfolding lent_verdict
returns-then-is_short_work c =
    simp (← c.is_large.ensures, c.if-is_large.false, ← c.is_short.ensures, c.if-is_short.false, ← c.is_short_work.ensures, c.if-is_short_work.true)

pub returns : goal.returns
unfolding lent_verdict
returns c =
    simp (← c.is_large.ensures, c.if-is_large.false, ← c.is_short.ensures, c.if-is_short.false, ← c.is_short_work.ensures, c.if-is_short_work.false)

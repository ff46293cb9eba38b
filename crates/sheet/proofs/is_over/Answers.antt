-- `sheet::is_over` meets its contract. Assumes nothing.
use mathlib.Core.Path.{sym, ◌∙◌}
use Rattle.sheet.proofs.Tests.{few-of, over-large, over-short}
use Rattle.sheet.proofs.is_over.Goals as goal

pub returns-then-is_large : goal.returns-then-is_large
returns-then-is_large c = over-large _ _ _ _ (sym c.is_large.ensures ∙ c.if-is_large.true)

pub is_short-requires : goal.is_short-requires
is_short-requires c = few-of _ (sym c.is_large.ensures ∙ c.if-is_large.false)

pub returns : goal.returns
returns c = over-short _ _ _ _ _ (sym c.is_large.ensures ∙ c.if-is_large.false) c.is_short.ensures

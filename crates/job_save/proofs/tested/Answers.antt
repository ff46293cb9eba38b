-- `job_save::tested` meets its contract. Assumes nothing.
use mathlib.Core.Path.{sym, ◌∙◌}
use Rattle.rule_sheet.specs.Lent.{before_verdict}
use Rattle.rule_job.specs.Jobs.{is_short_job}
use Rattle.sheet.proofs.Tests.{few-of}
use Rattle.job_save.proofs.tested.Goals as goal

pub returns-then-is_large : goal.returns-then-is_large
unfolding before_verdict
returns-then-is_large c = simp (← c.is_large.ensures, c.if-is_large.true)

pub is_short-short-requires : goal.is_short-short-requires
is_short-short-requires c = few-of _ (sym c.is_large.ensures ∙ c.if-is_large.false)

pub size_of-requires : goal.size_of-requires
size_of-requires c = few-of _ (sym c.is_large.ensures ∙ c.if-is_large.false)

pub returns-then-header-short : goal.returns-then-header-short
unfolding before_verdict is_short_job
returns-then-header-short c =
    simp (← c.is_large.ensures, c.if-is_large.false, ← c.is_short-short.ensures, ← c.size_of.ensures, c.if-header-short.true)

pub returns : goal.returns
unfolding before_verdict is_short_job
returns c =
    simp (← c.is_large.ensures, c.if-is_large.false, ← c.is_short-short.ensures, ← c.size_of.ensures, c.if-header-short.false)

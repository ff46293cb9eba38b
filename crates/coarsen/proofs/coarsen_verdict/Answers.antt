-- `coarsen::coarsen_verdict` meets its contract. Assumes nothing.
use native.Mathlib.Omega.{arith}
use Rattle.coarsen.proofs.Rule.{verdict-zero, verdict-some}
use Rattle.coarsen.proofs.coarsen_verdict.Goals as goal

pub returns-then-passes-eq0 : goal.returns-then-passes-eq0
returns-then-passes-eq0 c = verdict-zero _ _ _ _ (omega (arith, c.if-passes-eq0.true)) c.lent.ensures

pub returns : goal.returns
returns c = verdict-some _ _ _ _ c.if-passes-eq0.false c.admit.ensures.value

-- `quality::assess` meets its contract. Assumes nothing.
use mathlib.Core.Path.{ap}
use Rattle.std.specs.Prelude.{Ok}
use Rattle.rule_sheet.proofs.Exits.{exited}
use Rattle.quality.proofs.assess.Goals as goal

pub returns-in_err-m : goal.returns-in_err-m
returns-in_err-m c = rw (exited _ _ c.from_residual.ensures.1) (rw (← c.measure.ensures.value, c.in_err-m.was))

pub returns : goal.returns
returns c = rw (← c.measure.ensures.value, c.in_ok-m.was) (ap Ok c.with_counts.ensures)

-- `quality_statistics::ceil` meets its contract. Assumes nothing.
use native.Mathlib.Omega.{arith}
use Rattle.rule_quality.specs.Measure.{ceil_of}
use mathlib.Core.Path.{refl}
use Rattle.quality_statistics.proofs.ceil.Goals as goal

pub overflow_add-result : goal.overflow_add-result
overflow_add-result c = omega (arith, c.floor-lo.ensures)

pub returns-then-fract : goal.returns-then-fract
unfolding ceil_of
returns-then-fract c = rw (← c.fract.ensures, c.if-fract.true, ← c.floor-lo.ensures) refl

pub returns : goal.returns
unfolding ceil_of
returns c = rw (← c.fract.ensures, c.if-fract.false, ← c.floor-lo.ensures) refl

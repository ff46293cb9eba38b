-- `quality_readings::store` meets its contract. Assumes nothing.
use native.Mathlib.Omega.{arith}
use lib.ListN.{length-set}
use Rattle.quality_readings.specs.Readings.{stored}
use Rattle.quality_readings.proofs.store.Goals as goal

pub bounds-floats-n : goal.bounds-floats-n
bounds-floats-n c = simp length-set (omega arith)

pub bounds-floats-n-2 : goal.bounds-floats-n-2
bounds-floats-n-2 c = simp length-set (omega arith)

pub returns : goal.returns
unfolding stored
returns c = cc

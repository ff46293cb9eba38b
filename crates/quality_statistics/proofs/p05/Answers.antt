-- `quality_statistics::p05` meets its contract. Assumes nothing.
use native.Mathlib.Omega.{arith}
use Rattle.rule_quality.specs.Measure.{p05_of}
use Rattle.quality_statistics.proofs.Places.{beside}
use lib.ListN.{length}
use Prim.Native.Nat.{◌-◌}
use Rattle.quality_statistics.proofs.p05.Goals as goal

pub value_at_place-requires : goal.value_at_place-requires
value_at_place-requires c =
    let B = beside (length c.args.s.now - 1) (omega arith) in
    record { x_bound = rw c.float.ensures (omega (arith, B.low)); x_in_bounds = rw c.float.ensures (omega (arith, B.low)); x_in_bounds_2 = rw c.float.ensures (omega (arith, B.high)) }

pub returns : goal.returns
unfolding p05_of
returns c = cc

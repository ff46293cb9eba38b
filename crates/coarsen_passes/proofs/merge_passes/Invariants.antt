-- `coarsen_passes::merge_passes` meets its contract. Assumes nothing.
use Prim.Native.Nat.{◌-◌}
use Rattle.coarsen_passes.proofs.Passes.{Running}
use Rattle.coarsen_passes.proofs.merge_passes.Given as goal

abbrev pub invariant-loop : goal.invariant-loop
invariant-loop l = Running l.b l.passes l.initial.sheet l.initial.points l.initial.quads l.initial.labels l.initial.w l.initial.floats l.sheet l.points l.quads l.labels l.w l.floats l.total (l.passes - l.counter)

-- `regularize::run_passes` meets its contract. Assumes nothing.
use Prim.Native.Nat.{◌-◌}
use Rattle.regularize.proofs.Runs.{Running}
use Rattle.regularize.proofs.run_passes.Given as goal

abbrev pub invariant-loop : goal.invariant-loop
invariant-loop l = Running l.np l.nq l.t l.points l.labels l.passes l.initial.quads l.initial.w l.quads l.w l.total (l.passes - l.counter)

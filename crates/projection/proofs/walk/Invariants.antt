-- `projection::walk` is `walk_from looks`: what is left of the walk never changes. Assumes nothing.
use mathlib.Core.Path.{◌≡◌}
use Prim.Native.Nat.{◌-◌}
use Rattle.projection.specs.Project.{walk_from}
use Rattle.projection.proofs.walk.Given as goal

abbrev pub invariant-loop : goal.invariant-loop
invariant-loop l = walk_from (l.looks - l.counter) l.f l.len l.longest l.t l.free l.q ≡ walk_from l.looks l.f l.len l.longest l.t l.free l.initial.q

-- `edges::first_from` meets its contract. Assumes nothing.
use Prim.Native.Nat.{◌-◌}
use Rattle.edges.specs.Conditions.{Narrowed}
use Rattle.edges.proofs.first_from.Given as goal

abbrev pub invariant-loop-s : goal.invariant-loop-s
invariant-loop-s l = Narrowed l.quads l.corners l.b l.s.lo l.s.hi

abbrev pub decreases-loop-s : goal.decreases-loop-s
decreases-loop-s l = l.s.hi - l.s.lo

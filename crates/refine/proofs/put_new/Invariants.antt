-- `refine::put_new` meets its contract. Assumes nothing.
use Rattle.lists.specs.Regions.{part}
use Rattle.refine.specs.Loops.{Adds}
use Rattle.refine.proofs.put_new.Given as goal

abbrev pub invariant-loop-t : goal.invariant-loop-t
invariant-loop-t g l = Adds (goal.F-post g l.place) l.n l.m (part l.first l.m l.w) l.initial.out l.out l.t

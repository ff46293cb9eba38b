-- `refine::link_edges` meets its contract. Assumes nothing.
use Prim.Native.Nat.{◌*◌}
use Rattle.lists.specs.Regions.{Out, Kept}
use Rattle.refine.specs.Loops.{Linking}
use Rattle.refine.proofs.link_edges.Given as goal

abbrev pub invariant-loop-i : goal.invariant-loop-i
invariant-loop-i l = Linking l.np l.nq l.quads l.order l.first l.i l.w × Kept (Out l.first (5 * l.nq)) l.initial.w l.w

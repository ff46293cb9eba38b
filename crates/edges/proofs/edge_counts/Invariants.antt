-- `edges::edge_counts` meets its contract. Assumes nothing.
use Prim.Native.Nat.{◌*◌}
use Rattle.lists.specs.Regions.{part}
use Rattle.edges.proofs.Walk.{Tally}
use Rattle.edges.proofs.edge_counts.Given as goal

abbrev pub invariant-loop-i : goal.invariant-loop-i
invariant-loop-i l = Tally l.quads (part l.order (4 * l.nq) l.w) (4 * l.nq) l.boundary l.nonmanifold l.orientation l.i

-- `encoding::get_all` meets its contract. Assumes nothing.
use Prim.Native.Nat.{◌*◌}
use lib.ListN.{drop}
use Rattle.lists.specs.Regions.{part}
use Rattle.lists.proofs.Laws.{Filled}
use Rattle.encoding.proofs.get_all.Given as goal

abbrev pub invariant-loop-i : goal.invariant-loop-i
invariant-loop-i g l = Filled (λ i. g.T.Little.of_bytes (part (g.T.Little.WIDTH * i) g.T.Little.WIDTH (drop l.at l.s))) l.initial.out l.n l.out l.i

-- `coarsen_compact::pack` meets its contract. Assumes nothing.
use native.Mathlib.Omega.{arith}
use Prim.Native.Nat.{◌/◌, ◌<◌}
use mathlib.Core.Path.{ap}
use lib.Dec.{eqb}
use Rattle.lists.proofs.Regions.{part_of, part-get}
use Rattle.coarsen_compact.proofs.Packing.{pack-start, pack-turn}
use Rattle.coarsen_compact.proofs.pack.Goals as goal

pub loop-i-init : goal.loop-i-init
loop-i-init g c = pack-start _ _ _ _ c.requires.nq_in_bounds_2

pub loop-i-preserved : goal.loop-i-preserved
loop-i-preserved g c =
    let b : c.loop-i.i / g.row.SIZE < c.args.nq = grind (arith, c.loop-i-test.true, c.requires.size) in
    pack-turn _ _ _ _ c.loop-i.invariant c.loop-i-test.true (ap (λ x. eqb x 0) (part-get 0 (c.loop-i.i / g.row.SIZE) (part_of _ _ _ c.requires.nq_in_bounds) b)) c.keep-k.ensures.value c.keep-k.ensures.xs_after

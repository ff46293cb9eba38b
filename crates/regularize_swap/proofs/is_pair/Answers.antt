-- `regularize_swap::is_pair` meets its contract. Assumes nothing.
use Prim.Native.Nat.{◌*◌}
use Rattle.lists.proofs.Regions.{lent_is}
use Rattle.edges.proofs.Walk.{walked-of}
use Rattle.pass_map.specs.Regions.{was_at}
use Rattle.regularize_swap.proofs.is_pair.Goals as goal

pub is_pair-requires-clause-walk_asks : goal.is_pair-requires-clause-walk_asks
is_pair-requires-clause-walk_asks c =
    rw (lent_is (was_at c.args.np c.args.nq) (4 * c.args.nq) c.args.w.now) (walked-of c.requires.map_holds.edges.sheet c.requires.map_holds.edges.at)

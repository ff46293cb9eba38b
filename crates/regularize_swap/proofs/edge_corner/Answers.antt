-- `regularize_swap::edge_corner` meets its contract. Assumes nothing.
use Rattle.regularize_swap.proofs.Diagonals.{corner-told}
use Rattle.regularize_swap.proofs.edge_corner.Goals as goal

pub returns-clause-upper_bound : goal.returns-clause-upper_bound
returns-clause-upper_bound c =
    (corner-told c.args.i _ c.requires.map_holds c.requires.i_bound c.at.ensures).1

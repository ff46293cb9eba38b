-- `edges::edge_map` meets its contract. Assumes nothing.
use Rattle.edges.proofs.Maps.{map-made}
use Rattle.edges.proofs.edge_map.Goals as goal

pub returns : goal.returns
returns c =
    let the_rest = map-made c.args.nq c.args.quads.now c.requires.three c.edge_order.ensures.part c.edge_order.ensures.ends c.edge_order.ensures.kept in record { part = the_rest.0; part_2 = the_rest.1.0; kept = the_rest.1.1 }

-- `rows_gather::gather` meets its contract. Assumes nothing.
use native.Mathlib.Omega.{arith}
use Rattle.rows_gather.proofs.Stages.{order-room, list-room, numbering, seaming, worked, counts-are, seams-few}
use Rattle.rows_gather.proofs.gather.Goals as goal

pub edge_order-requires : goal.edge_order-requires
edge_order-requires c = record { cornered = c.requires.cornered; three = order-room c.requires }

pub quads_at-requires : goal.quads_at-requires
quads_at-requires c =
    record { cornered = c.requires.cornered; three = list-room c.requires (c.edge_order.ensures.part, c.edge_order.ensures.kept) }

pub number_copies-points-requires : goal.number_copies-points-requires
number_copies-points-requires c =
    let the_pair = numbering c.requires (c.edge_order.ensures.part, c.edge_order.ensures.kept) (c.quads_at.ensures.part, (c.quads_at.ensures.part_2, c.quads_at.ensures.kept)) in record { np_le_limit = the_pair.0; np_in_bounds = the_pair.1.0; np_in_bounds_2 = the_pair.1.1.0; apart = the_pair.1.1.1 }

pub list_seams-strips-requires : goal.list_seams-strips-requires
list_seams-strips-requires c = seaming c.requires (c.edge_order.ensures.part, c.edge_order.ensures.kept) (c.quads_at.ensures.part, (c.quads_at.ensures.part_2, c.quads_at.ensures.kept)) (c.number_copies-points.ensures.value, (c.number_copies-points.ensures.part, c.number_copies-points.ensures.kept))

pub overflow_add-result : goal.overflow_add-result
overflow_add-result c =
    omega (arith, c.requires.cornered.few, c.list_seams-strips.ensures.value, seams-few c.args.np c.args.nq c.args.quads.now c.args.labels.now)

pub overflow_add-result-2 : goal.overflow_add-result-2
overflow_add-result-2 c =
    omega (arith, c.requires.cornered.few, c.list_seams-strips.ensures.value, seams-few c.args.np c.args.nq c.args.quads.now c.args.labels.now)

pub returns : goal.returns
returns c =
    record { value = counts-are c.requires (c.edge_order.ensures.part, c.edge_order.ensures.kept) (c.quads_at.ensures.part, (c.quads_at.ensures.part_2, c.quads_at.ensures.kept)) (c.number_copies-points.ensures.value, (c.number_copies-points.ensures.part, c.number_copies-points.ensures.kept)) (c.list_seams-strips.ensures.value, (c.list_seams-strips.ensures.part, c.list_seams-strips.ensures.kept)); worked = worked c.requires (c.edge_order.ensures.part, c.edge_order.ensures.kept) (c.quads_at.ensures.part, (c.quads_at.ensures.part_2, c.quads_at.ensures.kept)) (c.number_copies-points.ensures.value, (c.number_copies-points.ensures.part, c.number_copies-points.ensures.kept)) (c.list_seams-strips.ensures.value, (c.list_seams-strips.ensures.part, c.list_seams-strips.ensures.kept)) }

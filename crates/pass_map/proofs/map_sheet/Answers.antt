-- `pass_map::map_sheet` meets its contract. Assumes nothing.
use native.Mathlib.Omega.{arith}
use mathlib.Core.Path.{◌∙◌}
use Rattle.pass_map.proofs.Maps.{edge-room, point-room, valence-room, map-made}
use Rattle.pass_map.proofs.map_sheet.Goals as goal

pub copy_quads-requires : goal.copy_quads-requires
copy_quads-requires c = record { nq_in_bounds = c.requires.sheet.quads; nq_in_bounds_2 = omega arith }

pub edge_map-requires : goal.edge_map-requires
edge_map-requires c =
    record { cornered = c.requires.sheet; three = edge-room _ c.requires.work c.copy_quads.ensures.kept.len }

pub quads_at-requires : goal.quads_at-requires
quads_at-requires c =
    record { cornered = c.requires.sheet; three = point-room _ c.requires.work (c.edge_map.ensures.kept.len ∙ c.copy_quads.ensures.kept.len) }

pub valences-requires : goal.valences-requires
valences-requires c =
    let the_rest = valence-room c.requires.work (c.quads_at.ensures.kept.len ∙ (c.edge_map.ensures.kept.len ∙ c.copy_quads.ensures.kept.len)) in record { part = c.quads_at.ensures.part; np_in_bounds = the_rest.0; apart = the_rest.1 }

pub returns : goal.returns
returns c =
    map-made c.requires (c.copy_quads.ensures.part, c.copy_quads.ensures.kept) (c.edge_map.ensures.part, (c.edge_map.ensures.part_2, c.edge_map.ensures.kept)) (c.quads_at.ensures.part, (c.quads_at.ensures.part_2, c.quads_at.ensures.kept)) (c.valences.ensures.part_2, (c.valences.ensures.kept, c.valences.ensures.bounded))

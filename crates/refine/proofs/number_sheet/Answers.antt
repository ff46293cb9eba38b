-- `refine::number_sheet` meets its contract. Assumes nothing.
use Prim.Native.Nat.{◌+◌, ◌-◌, ◌*◌}
use borrow.Rule.Slice.PartMut.{put_mid}
use Rattle.refine.specs.Loops.{firsts_at}
use Rattle.refine.proofs.Rule.{Started, started, numbering_start, worked}
use Rattle.refine.proofs.number_sheet.Goals.{After-link_edges-arg-1}
use Rattle.refine.proofs.number_sheet.Goals as goal

started-at : (c : After-link_edges-arg-1) →
    Started c.args.np c.args.nq c.args.quads.now c.args.w.now (put_mid (firsts_at c.args.np c.args.nq) (firsts_at c.args.np c.args.nq + 5 * c.args.nq - firsts_at c.args.np c.args.nq) c.edge_order.new.w c.number.new.s)
started-at c = started _ c.requires.cornered c.requires.nq_in_bounds (c.edge_order.ensures.part, c.edge_order.ensures.kept) c.number.ensures

pub link_edges-requires : goal.link_edges-requires
link_edges-requires c = (started-at c).linking

pub number_points-requires : goal.number_points-requires
number_points-requires c =
    numbering_start c.requires.cornered c.requires.np_le_limit c.requires.nq_in_bounds (started-at (goal.at.number_points-requires c).After-link_edges-arg-1) (c.link_edges.ensures.part, c.link_edges.ensures.kept)

pub returns : goal.returns
returns c =
    let the_pair = worked _ (started-at (goal.at.returns c).After-link_edges-arg-1) (c.link_edges.ensures.part, c.link_edges.ensures.kept) (c.number_points.ensures.value, (c.number_points.ensures.part, c.number_points.ensures.kept)) in record { value = the_pair.0; worked = the_pair.1.0; kept = the_pair.1.1 }

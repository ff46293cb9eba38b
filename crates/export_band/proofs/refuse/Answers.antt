-- `export_band::refuse` meets its contract. Assumes nothing.
use Rattle.export_band.proofs.Exports.{cleared-makes}
use Rattle.export_band.proofs.refuse.Goals as goal

pub returns : goal.returns
returns c =
    record { makes = cleared-makes c.args.refusal c.args.new_points.now c.args.new_quads.now c.args.new_labels.now c.clear_unused.ensures.points_after c.clear_unused.ensures.quads_after c.clear_unused.ensures.labels_after; cleared = c.clear_work.ensures }

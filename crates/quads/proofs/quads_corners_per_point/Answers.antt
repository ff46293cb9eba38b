-- `quads::quads_corners_per_point` meets its contract. Assumes nothing.
use Rattle.rule_corners.specs.Corners.{corners_rule}
use Rattle.rule_sheet.specs.declared.Counts.{Counts}
use Rattle.rule_sheet.specs.Lent.{lent_of, work_of}
use Rattle.rule_exports.specs.Told.{told_of}
use Rattle.rule_exports.specs.Divided.{is_short_ratio}
use Rattle.export_corners.proofs.Shown.{told-shows}
use Rattle.quads.proofs.quads_corners_per_point.Goals as goal

pub returns : goal.returns
returns c =
    let counts : Counts = record { points = c.args.np; quads = c.args.nq; labels = c.args.nl } in
    record { answer = told-shows counts (told_of c.args.kind c.args.numbers.now c.args.bounds.now c.args.lower c.args.upper) (λ z. corners_rule z (lent_of counts c.args.points.now c.args.quads.now c.args.labels.now) (work_of c.args.work.now c.args.floats.now)) (is_short_ratio c.args.answer.now) c.told_verdict-v.ensures c.band_of-b.ensures c.corners_after-r.ensures.result_value c.put_divided.ensures; cleared = c.corners_after-r.ensures.cleared }

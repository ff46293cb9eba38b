-- `quads::quads_subdivide` meets its contract. Assumes nothing.
use Rattle.rule_finer.specs.Subdivide.{subdivide_rule}
use Rattle.export_band.proofs.Exports.{told-makes}
use Rattle.rule_sheet.specs.Lent.{lent_of, room_of, work_of}
use Rattle.rule_exports.specs.Told.{told_of}
use Rattle.rule_exports.specs.Exports.{is_short_answer}
use Rattle.quads.proofs.quads_subdivide.Goals as goal

pub returns : goal.returns
returns c =
    record { sheet = told-makes (record { points = c.args.np; quads = c.args.nq; labels = c.args.nl }) (is_short_answer c.args.answer.now) (told_of c.args.kind c.args.numbers.now c.args.bounds.now c.args.lower c.args.upper) (λ z. subdivide_rule z (lent_of (record { points = c.args.np; quads = c.args.nq; labels = c.args.nl }) c.args.points.now c.args.quads.now c.args.labels.now) (work_of c.args.work.now c.args.floats.now) (room_of c.args.new_points.now c.args.new_quads.now c.args.new_labels.now)) c.told_verdict-v.ensures c.band_of-b.ensures c.subdivide_after-r.ensures.fact c.put_answer.ensures; cleared = c.subdivide_after-r.ensures.cleared }

-- `quads::quads_refine` meets its contract. Assumes nothing.
use Rattle.rule_finer.specs.Finer.{refine_rule}
use Rattle.export_band.proofs.Exports.{answer-makes}
use Rattle.rule_sheet.specs.Lent.{lent_of, room_of, work_of}
use Rattle.quads.proofs.quads_refine.Goals as goal

pub returns : goal.returns
returns c =
    record { sheet = answer-makes (record { points = c.args.np; quads = c.args.nq; labels = c.args.nl }) (refine_rule (lent_of (record { points = c.args.np; quads = c.args.nq; labels = c.args.nl }) c.args.points.now c.args.quads.now c.args.labels.now) (work_of c.args.work.now c.args.floats.now) (room_of c.args.new_points.now c.args.new_quads.now c.args.new_labels.now)) c.answer_verdict-v.ensures c.refine_after-r.ensures.fact c.put_answer.ensures; cleared = c.refine_after-r.ensures.cleared }

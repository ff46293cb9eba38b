-- `quads::quads_extract_candidate` meets its contract. Assumes nothing.
use Rattle.rule_extract.specs.Drawing.{extract_rule}
use Rattle.export_band.proofs.Exports.{drawn-makes}
use Rattle.rule_sheet.specs.Lent.{room_of, work_of}
use Rattle.rule_exports.specs.Told.{told_of}
use Rattle.rule_exports.specs.Exports.{is_short_answer}
use Rattle.quads.proofs.quads_extract_candidate.Goals as goal

pub returns : goal.returns
returns c =
    record { sheet = drawn-makes (is_short_answer c.args.answer.now) (told_of c.args.kind c.args.numbers.now c.args.bounds.now c.args.lower c.args.upper) (work_of c.args.work.now c.args.floats.now) (λ z v. extract_rule z c.args.cells v (room_of c.args.new_points.now c.args.new_quads.now c.args.new_labels.now)) c.band_verdict-v.ensures c.band_of-b.ensures c.extract_after-r.ensures.fact c.put_answer.ensures; cleared = c.extract_after-r.ensures.cleared }

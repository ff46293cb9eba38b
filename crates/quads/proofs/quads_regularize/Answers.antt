-- `quads::quads_regularize` meets its contract. Assumes nothing.
use Rattle.rule_regularize.specs.Rule.{regularize_rule}
use Rattle.export_band.proofs.Exports.{told-quads}
use Rattle.rule_sheet.specs.Lent.{lent_of, work_of}
use Rattle.rule_exports.specs.Told.{told_of}
use Rattle.rule_exports.specs.Exports.{is_short_answer}
use Rattle.quads.proofs.quads_regularize.Goals as goal

pub returns : goal.returns
returns c =
    record { sheet = told-quads (record { points = c.args.np; quads = c.args.nq; labels = c.args.nl }) (is_short_answer c.args.answer.now) (told_of c.args.kind c.args.numbers.now c.args.bounds.now c.args.lower c.args.upper) (λ z. regularize_rule z c.args.passes (lent_of (record { points = c.args.np; quads = c.args.nq; labels = c.args.nl }) c.args.points.now c.args.quads.now c.args.labels.now) (work_of c.args.work.now c.args.floats.now)) c.told_verdict-v.ensures c.band_of-b.ensures c.regularize_after-r.ensures.fact c.put_answer.ensures; cleared = c.regularize_after-r.ensures.cleared }

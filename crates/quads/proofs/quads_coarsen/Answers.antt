-- `quads::quads_coarsen` meets its contract. Assumes nothing.
use Rattle.rule_coarsen.specs.Rule.{coarsen_rule}
use Rattle.export_band.proofs.Exports.{told-alters}
use Rattle.rule_sheet.specs.Lent.{lent_of, work_of}
use Rattle.rule_exports.specs.Told.{told_of}
use Rattle.rule_exports.specs.Exports.{is_short_answer}
use Rattle.quads.proofs.quads_coarsen.Goals as goal

pub returns : goal.returns
returns c =
    record { sheet = told-alters (record { points = c.args.np; quads = c.args.nq; labels = c.args.nl }) (is_short_answer c.args.answer.now) (told_of c.args.kind c.args.numbers.now c.args.bounds.now c.args.lower c.args.upper) (λ z. coarsen_rule z c.args.passes (lent_of (record { points = c.args.np; quads = c.args.nq; labels = c.args.nl }) c.args.points.now c.args.quads.now c.args.labels.now) (work_of c.args.work.now c.args.floats.now)) c.told_verdict-v.ensures c.band_of-b.ensures c.coarsen_after-r.ensures.fact c.put_answer.ensures; cleared = c.coarsen_after-r.ensures.cleared }

-- `quads::quads_quality` meets its contract. Assumes nothing.
use mathlib.Core.Bool.{◌||◌}
use Rattle.rule_quality.specs.Quality.{quality_rule}
use Rattle.rule_sheet.specs.Lent.{lent_of, work_of}
use Rattle.rule_exports.specs.Told.{told_of}
use Rattle.rule_exports.specs.Measured.{is_short_counts, is_short_measures}
use Rattle.export_quality.proofs.Shown.{told-shows}
use Rattle.quads.proofs.quads_quality.Goals as goal

pub returns : goal.returns
returns c =
    record { answer = told-shows (record { points = c.args.np; quads = c.args.nq; labels = c.args.nl }) (told_of c.args.kind c.args.numbers.now c.args.bounds.now c.args.lower c.args.upper) (λ z. quality_rule z (lent_of (record { points = c.args.np; quads = c.args.nq; labels = c.args.nl }) c.args.points.now c.args.quads.now c.args.labels.now) (work_of c.args.work.now c.args.floats.now)) (is_short_counts c.args.answer.now || is_short_measures c.args.measures.now) c.is_short-few.ensures c.told_verdict-v.ensures c.band_of-b.ensures c.quality_after-r.ensures.result_value c.put_assessed.ensures; cleared = c.quality_after-r.ensures.cleared }

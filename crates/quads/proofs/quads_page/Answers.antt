-- `quads::quads_page` meets its contract. Assumes nothing.
use lib.ListN.{length}
use Rattle.rule_page.specs.Page.{page_rule}
use Rattle.rule_sheet.specs.declared.Counts.{Counts}
use Rattle.rule_sheet.specs.Lent.{lent_of, work_of}
use Rattle.rule_exports.specs.Told.{told_of}
use Rattle.export_page.proofs.Shown.{told-shows}
use Rattle.quads.proofs.quads_page.Goals as goal

pub returns : goal.returns
returns c =
    let counts : Counts = record { points = c.args.np; quads = c.args.nq; labels = c.args.nl } in
    record { answer = told-shows counts (told_of c.args.kind c.args.numbers.now c.args.bounds.now c.args.lower c.args.upper) (λ z. page_rule z (lent_of counts c.args.points.now c.args.quads.now c.args.labels.now) (work_of c.args.work.now c.args.floats.now) (length c.args.page.now)) (length c.args.page.now) c.told_verdict-v.ensures c.band_of-b.ensures c.page_after-r.ensures.fact c.answer_number.ensures; cleared = c.page_after-r.ensures.cleared }

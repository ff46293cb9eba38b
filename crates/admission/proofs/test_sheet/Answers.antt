-- `admission::test_sheet` meets its contract. Assumes nothing.
use Rattle.admission.proofs.Admitted.{masks-lent}
use Rattle.admission.proofs.test_sheet.Goals as goal

pub returns : goal.returns
returns c =
    record { value = c.constraints.ensures.value; masks_at = masks-lent c.constraints.result c.args.at c.args.c c.args.quads.now c.args.labels.now c.args.w.now c.constraints.new.masks c.requires.points_in_bounds c.constraints.ensures.masks_if }

-- `extract::tested` meets its contract. Assumes nothing.
use mathlib.Core.Path.{sym, ◌∙◌}
use lib.Seq.{length-take-le}
use Rattle.extract.proofs.Stages.{tested-bare, masks-ready, tested-done, tested-clash}
use Rattle.extract.proofs.tested.Goals as goal

pub returns-then-is_bare : goal.returns-then-is_bare
returns-then-is_bare c = tested-bare _ _ _ _ c.requires.lent_sheet (sym c.is_bare.ensures ∙ c.if-is_bare.true)

pub slice_bounds-masks_tested-end-2 : goal.slice_bounds-masks_tested-end-2
slice_bounds-masks_tested-end-2 c = sym (length-take-le _ _ c.requires.points_in_bounds)

pub masks_tested-requires : goal.masks_tested-requires
masks_tested-requires c =
    let the_pair = masks-ready _ c.args.points.now _ _ c.requires.lent_sheet (sym c.is_bare.ensures ∙ c.if-is_bare.false) _ c.requires.points_in_bounds c.requires.labels_value in record { holds = the_pair.0; labels_value = the_pair.1 }

pub returns-then-masks_tested : goal.returns-then-masks_tested
returns-then-masks_tested c =
    tested-done _ _ _ _ c.requires.lent_sheet (sym c.is_bare.ensures ∙ c.if-is_bare.false) c.args.w.now c.requires.points_in_bounds _ c.masks_tested.ensures c.if-masks_tested.true

pub returns : goal.returns
returns c =
    tested-clash _ _ _ _ c.requires.lent_sheet (sym c.is_bare.ensures ∙ c.if-is_bare.false) c.args.w.now c.requires.points_in_bounds _ c.masks_tested.ensures c.if-masks_tested.false

-- `subdivide::subdivide_tested` meets its contract. Assumes nothing.
use mathlib.Core.Path.{sym, ◌∙◌}
use Rattle.subdivide.proofs.Rule.{tested-over, tested-edge, tested-smoothable, tested-room, tested-done}
use Rattle.subdivide.proofs.subdivide_tested.Goals as goal

pub returns-then-is_over : goal.returns-then-is_over
returns-then-is_over c =
    tested-over c.args.b c.args.c c.args.points.now c.args.quads.now c.args.labels.now _ c.requires _ c.number_sheet.ensures.value _ _ _ _ _ _ (sym c.is_over.ensures ∙ c.if-is_over.true)

pub put_smoothed-requires : goal.put_smoothed-requires
put_smoothed-requires c =
    tested-smoothable c.args.b c.args.c c.args.points.now c.args.quads.now c.args.labels.now _ c.requires _ c.number_sheet.ensures.value _ _ _ (sym c.is_over.ensures ∙ c.if-is_over.false) c.number_sheet.ensures.worked c.number_sheet.ensures.kept (sym c.is_paired.ensures ∙ c.if-is_paired.true)

pub land-requires : goal.land-requires
land-requires c =
    let the_pair = tested-room c.args.b c.args.c c.args.points.now c.args.quads.now c.args.labels.now _ c.requires _ c.number_sheet.ensures.value _ _ _ (sym c.is_over.ensures ∙ c.if-is_over.false) c.number_sheet.ensures.worked c.number_sheet.ensures.kept _ _ _ _ c.put_smoothed.auto.new_points c.put_smoothed.auto.new_quads c.put_smoothed.auto.new_labels c.put_smoothed.auto.w in record { lent_sheet = the_pair.0; points_in_bounds = the_pair.1 }

pub returns-then-is_paired : goal.returns-then-is_paired
returns-then-is_paired c =
    tested-done c.args.b c.args.c c.args.points.now c.args.quads.now c.args.labels.now _ c.requires _ c.number_sheet.ensures.value _ _ _ (sym c.is_over.ensures ∙ c.if-is_over.false) _ (sym c.is_paired.ensures ∙ c.if-is_paired.true) (c.put_smoothed.ensures.front, (c.put_smoothed.ensures.front_2, c.put_smoothed.ensures.front_3)) c.land.ensures

pub returns : goal.returns
returns c =
    tested-edge c.args.b c.args.c c.args.points.now c.args.quads.now c.args.labels.now _ c.requires _ c.number_sheet.ensures.value _ _ _ (sym c.is_over.ensures ∙ c.if-is_over.false) _ _ _ (sym c.is_paired.ensures ∙ c.if-is_paired.false)

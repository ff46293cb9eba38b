-- `extract::draw_or_refusal` meets its contract. Assumes nothing.
use Rattle.extract.proofs.Stages.{drawn-over, drawn-room, tested-ready, drawn-tested}
use Rattle.extract.proofs.draw_or_refusal.Goals as goal

pub returns-then-is_over : goal.returns-then-is_over
returns-then-is_over c =
    drawn-over c.args.g c.args.n _ c.count_sheet-c.ensures.value _ _ _ _ c.is_over.ensures _ _ _ c.if-is_over.true

pub draw_sheet-requires : goal.draw_sheet-requires
draw_sheet-requires c =
    record { samples = c.requires.samples; n_in_bounds = c.requires.n_in_bounds; lent_sheet = drawn-room c.args.g c.args.n _ c.count_sheet-c.ensures.value _ _ _ _ c.is_over.ensures c.if-is_over.false }

pub tested-requires : goal.tested-requires
tested-requires c =
    let the_pair = tested-ready c.args.g c.args.n _ c.count_sheet-c.ensures.value _ _ _ _ c.is_over.ensures c.if-is_over.false _ _ _ _ _ c.draw_sheet.auto.new_points c.draw_sheet.auto.new_quads c.draw_sheet.auto.new_labels c.draw_sheet.auto.w (c.draw_sheet.ensures.front, (c.draw_sheet.ensures.front_2, c.draw_sheet.ensures.front_3)) c.requires.n_in_bounds c.count_sheet-c.ensures.points_bound in record { lent_sheet = the_pair.0; points_in_bounds = the_pair.1.0; labels_value = the_pair.1.1 }

pub returns : goal.returns
returns c =
    drawn-tested c.args.g c.args.n _ c.count_sheet-c.ensures.value _ _ _ _ c.is_over.ensures c.if-is_over.false _ _ _ _ (c.draw_sheet.ensures.front, (c.draw_sheet.ensures.front_2, c.draw_sheet.ensures.front_3)) c.tested.ensures

-- `rows::rows_tested` meets its contract. Assumes nothing.
use mathlib.Core.Path.{sym, ◌∙◌}
use Rattle.rows.proofs.Rule.{tested-gathering, tested-over, tested-finished, tested-done}
use Rattle.rows.proofs.rows_tested.Goals as goal

pub gather-m-requires : goal.gather-m-requires
gather-m-requires c =
    tested-gathering c.args.b c.args.c c.args.points.now c.args.quads.now c.args.labels.now c.args.w.now c.requires

pub returns-then-is_over : goal.returns-then-is_over
returns-then-is_over c =
    tested-over c.args.b c.args.c c.args.points.now c.args.quads.now c.args.labels.now c.args.w.now c.requires c.gather-m.ensures.worked _ c.gather-m.ensures.value _ _ _ _ _ _ (sym c.is_over.ensures ∙ c.if-is_over.true)

pub put_sheet-requires : goal.put_sheet-requires
put_sheet-requires c =
    tested-finished c.args.b c.args.c c.args.points.now c.args.quads.now c.args.labels.now c.args.w.now c.requires c.gather-m.ensures.worked _ c.gather-m.ensures.value _ _ _ c.gather-m.auto.w (sym c.is_over.ensures ∙ c.if-is_over.false)

pub returns : goal.returns
returns c =
    tested-done c.args.b c.args.c c.args.points.now c.args.quads.now c.args.labels.now c.args.w.now c.requires c.gather-m.ensures.worked _ c.gather-m.ensures.value _ _ _ _ _ _ _ (sym c.is_over.ensures ∙ c.if-is_over.false) c.put_sheet.ensures

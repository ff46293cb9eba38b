-- `refine::refine_tested` meets its contract. Assumes nothing.
use mathlib.Core.Path.{sym, ◌∙◌}
use Rattle.sheet.proofs.Tests.{few-of}
use Rattle.refine.proofs.Rule.{tested-large, tested-short, tested-finished, tested-done}
use Rattle.refine.proofs.refine_tested.Goals as goal

pub returns-then-is_large : goal.returns-then-is_large
returns-then-is_large c =
    tested-large c.args.c c.args.points.now c.args.quads.now c.args.labels.now _ c.requires _ c.number_sheet.ensures.value _ _ _ _ _ _ (sym c.is_large.ensures ∙ c.if-is_large.true)

pub is_short-requires : goal.is_short-requires
is_short-requires c = few-of _ (sym c.is_large.ensures ∙ c.if-is_large.false)

pub returns-then-is_short : goal.returns-then-is_short
returns-then-is_short c =
    tested-short c.args.c c.args.points.now c.args.quads.now c.args.labels.now _ c.requires _ c.number_sheet.ensures.value _ _ _ _ _ _ (sym c.is_large.ensures ∙ c.if-is_large.false) (sym c.is_short.ensures ∙ c.if-is_short.true)

pub put_sheet-requires : goal.put_sheet-requires
put_sheet-requires c =
    tested-finished c.args.c c.args.points.now c.args.quads.now c.args.labels.now _ c.requires _ c.number_sheet.ensures.value _ _ _ _ c.number_sheet.ensures.worked (sym c.is_short.ensures ∙ c.if-is_short.false)

pub returns : goal.returns
returns c =
    tested-done c.args.c c.args.points.now c.args.quads.now c.args.labels.now _ c.requires _ c.number_sheet.ensures.value _ _ _ _ _ _ (sym c.is_large.ensures ∙ c.if-is_large.false) (sym c.is_short.ensures ∙ c.if-is_short.false) (c.put_sheet.ensures.front, (c.put_sheet.ensures.front_2, c.put_sheet.ensures.front_3))

-- `regularize_pass::choice_at` meets its contract. Assumes nothing.
use Rattle.regularize_pass.proofs.Choices.{choice-barred, choice-bent, choice-told}
use Rattle.regularize_pass.proofs.choice_at.Goals as goal

pub returns-then-not-is_free : goal.returns-then-not-is_free
returns-then-not-is_free c =
    choice-barred c.requires.try_asks c.args.c c.args.d _ c.is_free.ensures c.if-not-is_free.true

pub returns-then-not-is_hexagon : goal.returns-then-not-is_hexagon
returns-then-not-is_hexagon c =
    choice-bent c.requires.try_asks c.args.c c.args.d _ _ _ c.is_free.ensures c.if-not-is_free.false c.six_at-h.ensures c.is_hexagon.ensures c.if-not-is_hexagon.true

pub returns : goal.returns
returns c =
    choice-told c.requires.try_asks c.args.c c.args.d _ _ _ _ c.is_free.ensures c.if-not-is_free.false c.six_at-h.ensures c.is_hexagon.ensures c.if-not-is_hexagon.false c.choice.ensures

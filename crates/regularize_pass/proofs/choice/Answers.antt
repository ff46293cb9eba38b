-- `regularize_pass::choice` meets its contract. Assumes nothing.
use Rattle.regularize_pass.proofs.Choices.{pick-none, pick-best}
use Rattle.regularize_pass.proofs.choice.Goals as goal

pub returns-then-not-first-second : goal.returns-then-not-first-second
returns-then-not-first-second c =
    pick-none c.requires.try_asks c.args.i c.args.j c.args.h c.requires.i_lt_nq c.requires.j_lt_nq c.requires.six_below _ _ (rw c.number.ensures at c.is_open-first.ensures) (rw c.number-2.ensures at c.is_open-second.ensures) c.if-not-first-second.true

pub returns : goal.returns
returns c =
    pick-best c.requires.try_asks c.args.i c.args.j c.args.h c.requires.i_lt_nq c.requires.j_lt_nq c.requires.six_below _ _ _ _ (rw c.number.ensures at c.is_open-first.ensures) (rw c.number-2.ensures at c.is_open-second.ensures) c.hold-held.ensures c.best.ensures

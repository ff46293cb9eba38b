-- `export_corners::show_ratio` meets its contract. Assumes nothing.
use borrow.Author.Tests.{lt-ltb, le-ltb}
use Rattle.export_corners.proofs.Shown.{done-shown, refused-shown}
use Rattle.export_corners.proofs.show_ratio.Goals as goal

pub returns-then-answer-lt-ANSWERS : goal.returns-then-answer-lt-ANSWERS
returns-then-answer-lt-ANSWERS c = rw (lt-ltb _ _ c.if-answer-lt-ANSWERS.true)

pub returns-in-Ok : goal.returns-in-Ok
returns-in-Ok c =
    rw (le-ltb _ _ c.if-answer-lt-ANSWERS.false) (done-shown _ _ _ c.in-Ok.is c.put_ratio.ensures)

pub returns-in-Err : goal.returns-in-Err
returns-in-Err c =
    rw (le-ltb _ _ c.if-answer-lt-ANSWERS.false) (refused-shown _ _ _ c.in-Err.is c.put_ratio-in-Err.ensures)

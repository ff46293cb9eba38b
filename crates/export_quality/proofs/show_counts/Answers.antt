-- `export_quality::show_counts` meets its contract. Assumes nothing.
use borrow.Author.Tests.{lt-ltb, le-ltb}
use Rattle.export_quality.proofs.Shown.{done-counts, refused-counts}
use Rattle.export_quality.proofs.show_counts.Goals as goal

pub returns-then-answer-lt-ANSWERS : goal.returns-then-answer-lt-ANSWERS
returns-then-answer-lt-ANSWERS c = rw (lt-ltb _ _ c.if-answer-lt-ANSWERS.true)

pub returns-in-Ok : goal.returns-in-Ok
returns-in-Ok c =
    rw (le-ltb _ _ c.if-answer-lt-ANSWERS.false) (done-counts _ _ _ _ c.in-Ok.is c.is_valid.ensures.answer c.put_counts.ensures)

pub returns-in-Err : goal.returns-in-Err
returns-in-Err c =
    rw (le-ltb _ _ c.if-answer-lt-ANSWERS.false) (refused-counts _ _ _ _ c.in-Err.is c.no_quality.ensures c.put_counts-in-Err.ensures)

-- `export_job::show_sum` meets its contract. Assumes nothing.
use borrow.Author.Tests.{lt-ltb, le-ltb}
use Rattle.export_job.proofs.Shown.{few-shows, found-shows, broken-shows}
use Rattle.export_job.proofs.show_sum.Goals as goal

pub returns-then-answer-lt-ANSWERS : goal.returns-then-answer-lt-ANSWERS
returns-then-answer-lt-ANSWERS c = few-shows _ _ (lt-ltb _ _ c.if-answer-lt-ANSWERS.true) c.short_number.ensures

pub returns-in-Some : goal.returns-in-Some
returns-in-Some c = found-shows _ _ (le-ltb _ _ c.if-answer-lt-ANSWERS.false) c.in-Some.is c.put_sum.ensures

pub returns-in-None : goal.returns-in-None
returns-in-None c =
    rw c.number.ensures (broken-shows _ _ (le-ltb _ _ c.if-answer-lt-ANSWERS.false) c.in-None.is c.put_two.ensures)

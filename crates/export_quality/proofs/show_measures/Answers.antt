-- `export_quality::show_measures` meets its contract. Assumes nothing.
use borrow.Author.Tests.{lt-ltb, le-ltb}
use Rattle.export_quality.proofs.Shown.{done-measures, refused-measures}
use Rattle.export_quality.proofs.show_measures.Goals as goal

pub returns-then-measures-lt-MEASURES : goal.returns-then-measures-lt-MEASURES
returns-then-measures-lt-MEASURES c = rw (lt-ltb _ _ c.if-measures-lt-MEASURES.true)

pub returns-in-Ok : goal.returns-in-Ok
returns-in-Ok c =
    rw (le-ltb _ _ c.if-measures-lt-MEASURES.false) (done-measures _ _ _ c.in-Ok.is c.put_measures.ensures)

pub returns-in-Err : goal.returns-in-Err
returns-in-Err c =
    rw (le-ltb _ _ c.if-measures-lt-MEASURES.false) (refused-measures _ _ _ _ c.in-Err.is c.no_quality.ensures c.put_measures-in-Err.ensures)

-- `export_page::page_after` meets its contract. Assumes nothing.
use Rattle.export_page.proofs.Shown.{refused-page}
use Rattle.export_page.proofs.page_after.Goals as goal

pub returns-in-Err : goal.returns-in-Err
returns-in-Err c =
    record { fact = refused-page _ c.in-Err.is c.clear.ensures; cleared = c.clear_work.ensures }

pub returns : goal.returns
returns c =
    record { fact = rw c.in_default.is c.page.ensures.answer; cleared = c.page.ensures.cleared }

-- `page::show` meets its contract. Assumes nothing.
use Rattle.page.proofs.Rule.{page-shown, refusal-shown}
use Rattle.page.proofs.show.Goals as goal

pub returns-in-Ok : goal.returns-in-Ok
returns-in-Ok c =
    page-shown _ c.in-Ok.is c.put_page.ensures c.put_page.auto.page c.clear_behind.ensures

pub returns-in-Err : goal.returns-in-Err
returns-in-Err c = refusal-shown c.in-Err.is c.clear.ensures

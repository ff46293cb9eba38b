-- `page::column` meets its contract. Assumes nothing.
use Rattle.rule_page.specs.Page.{column_of}
use Rattle.page.proofs.column.Goals as goal

pub returns-then-rest-k : goal.returns-then-rest-k
unfolding column_of
returns-then-rest-k c = rw (← c.without-rest.ensures, c.if-rest-k.true)

pub returns : goal.returns
unfolding column_of
returns c = rw (← c.without-rest.ensures, c.if-rest-k.false)

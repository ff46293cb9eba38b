-- `page::line_byte` meets its contract. Assumes nothing.
use Rattle.page.proofs.Lines.{byte-name, byte-space, byte-column, byte-end}
use Rattle.page.proofs.line_byte.Goals as goal

pub returns-then-i-name : goal.returns-then-i-name
returns-then-i-name c = byte-name c.args.name.now c.args.n c.args.i c.requires c.if-i-name.true

pub returns-then-i-lt-NAME : goal.returns-then-i-lt-NAME
returns-then-i-lt-NAME c =
    byte-space c.args.name.now c.args.n c.args.i c.requires c.if-i-name.false c.if-i-lt-NAME.true

pub returns-then-i : goal.returns-then-i
returns-then-i c =
    byte-column c.args.name.now c.args.n c.args.i c.requires c.if-i-lt-NAME.false c.if-i.true c.column.ensures

pub returns : goal.returns
returns c = byte-end c.args.name.now c.args.n c.args.i c.requires c.if-i-lt-NAME.false c.if-i.false

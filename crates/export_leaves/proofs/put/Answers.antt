-- `export_leaves::put` meets its contract. Assumes nothing.
use Rattle.export_leaves.proofs.Answers.{put-short, put-shown}
use Rattle.export_leaves.proofs.put.Goals as goal

pub returns-then-out-lt3 : goal.returns-then-out-lt3
returns-then-out-lt3 c = rw c.number.ensures (put-short _ _ c.if-out-lt3.true)

pub returns : goal.returns
returns c = put-shown _ _ _ c.if-out-lt3.false c.put_point.ensures

use native.Mathlib.Omega.{arith}
use Rattle.page.proofs.Lines.{writing_start, writing-turn, writing-end}
use Rattle.page.proofs.put_line.Goals as goal

pub loop-i-init : goal.loop-i-init
loop-i-init c = writing_start _ _ _ (omega arith)

pub loop-i-preserved : goal.loop-i-preserved
loop-i-preserved c =
    writing-turn _ c.requires.j_in_bounds c.loop-i.invariant c.loop-i-test.true c.line_byte.ensures

pub returns : goal.returns
returns c =
    writing-end c.args.name.now c.args.n c.requires.name_len_bound c.loop-i.invariant c.loop-i-test.false

use native.Mathlib.Omega.{arith}
use Rattle.rows_gather.proofs.Lists.{seams-start, seams-turn, seams-end}
use Rattle.rows_gather.proofs.list_seams.Goals as goal

pub loop-i-init : goal.loop-i-init
loop-i-init c = seams-start c.requires

pub put_seam-next-requires : goal.put_seam-next-requires
put_seam-next-requires c = record { seaming = c.loop-i.invariant.here; i_bound = c.loop-i-test.true }

pub loop-i-preserved : goal.loop-i-preserved
loop-i-preserved c = seams-turn c.loop-i.invariant (c.put_seam-next.ensures.seaming_2, c.put_seam-next.ensures.kept)

pub returns : goal.returns
returns c =
    let the_pair = seams-end c.loop-i.invariant (omega arith) in record { value = the_pair.0; part = the_pair.1.0; kept = the_pair.1.1 }

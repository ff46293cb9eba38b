use Rattle.job_sum.proofs.Counting.{counting-start, counting-room, counting-turn}
use Rattle.job_sum.proofs.count_corners.Goals as goal

pub loop-i-init : goal.loop-i-init
loop-i-init c = counting-start _ _ _ c.requires.n_bound c.requires.counts_value

pub count_at-requires : goal.count_at-requires
count_at-requires c = counting-room _ c.loop-i.invariant c.loop-i-test.true

pub loop-i-preserved : goal.loop-i-preserved
loop-i-preserved c = counting-turn c.loop-i.invariant c.loop-i-test.true c.at.ensures c.count_at.ensures

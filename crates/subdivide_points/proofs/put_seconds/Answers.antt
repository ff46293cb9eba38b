use native.Mathlib.Omega.{arith}
use Rattle.subdivide_points.proofs.Pairs.{seconds-start, seconds-turn, seconds-end}
use Rattle.subdivide_points.proofs.put_seconds.Goals as goal

pub loop-k-init : goal.loop-k-init
loop-k-init c = seconds-start c.requires

pub loop-k-preserved : goal.loop-k-preserved
loop-k-preserved c = seconds-turn c.loop-k.invariant c.loop-k-test.true _ c.at-c.ensures

pub returns : goal.returns
returns c =
    let the_pair = seconds-end c.loop-k.invariant (omega arith) in record { seconds = the_pair.0; kept = the_pair.1 }

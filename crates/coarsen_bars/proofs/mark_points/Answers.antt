use native.Mathlib.Omega.{arith}
use mathlib.Core.Path.{refl}
use Prim.Native.Nat.{◌+◌}
use lib.ListN.{get_or}
use Rattle.lists.specs.Regions.{part}
use Rattle.coarsen_bars.proofs.Marks.{pointing-start, PointTurn, point-turn, pointing-end}
use Rattle.coarsen_bars.proofs.mark_points.Goals.{In-loop-j}
use Rattle.coarsen_bars.proofs.mark_points.Goals as goal

turn_at : (c : In-loop-j) →
    PointTurn (part c.args.from c.args.m c.args.w.now) (part c.args.to c.args.np c.args.w.now) c.args.from c.args.m c.args.to c.args.np c.args.w.now c.loop-j.w c.loop-j.j
    (get_or c.loop-j.w (c.args.from + c.loop-j.j) 0)
turn_at c = point-turn _ c.loop-j.invariant c.loop-j-test.true refl

pub loop-j-init : goal.loop-j-init
loop-j-init c = pointing-start c.requires

pub bounds-w-to : goal.bounds-w-to
bounds-w-to c = let t = turn_at (goal.at.bounds-w-to c).In-loop-j in omega arith

pub loop-j-preserved : goal.loop-j-preserved
loop-j-preserved c = (turn_at (goal.at.loop-j-preserved c).In-loop-j).again

pub returns : goal.returns
returns c =
    let the_pair = pointing-end c.loop-j.invariant (omega arith) in record { part = the_pair.0; kept = the_pair.1 }

use native.Mathlib.Omega.{arith}
use Rattle.quality_links.proofs.Rounds.{walk_start, walk_end, RoundTurn, round-turn}
use Rattle.quality_links.proofs.round_length.Goals.{In-loop-x}
use Rattle.quality_links.proofs.round_length.Goals as goal

turn_at : (c : In-loop-x) → RoundTurn c.args.np c.args.nq c.args.quads.now c.args.v c.args.acc c.args.u c.args.w.now c.loop-x.last c.loop-x.x c.loop-x.count
turn_at c = round-turn c.requires c.loop-x.invariant c.loop-x-test.true

pub loop-x-init : goal.loop-x-init
loop-x-init c = walk_start _ _ c.requires.starts

pub overflow_add-acc : goal.overflow_add-acc
overflow_add-acc c = let t = turn_at c in omega arith

pub at-requires : goal.at-requires
at-requires c = let t = turn_at c in omega arith

pub overflow_sub-next : goal.overflow_sub-next
overflow_sub-next c =
    let t = turn_at (goal.at.overflow_sub-next c).In-loop-x in omega (arith, t.le, c.at.ensures)

pub overflow_add-count : goal.overflow_add-count
overflow_add-count c = let t = turn_at (goal.at.overflow_add-count c).In-loop-x in omega arith

pub loop-x-smaller : goal.loop-x-smaller
loop-x-smaller c = let t = turn_at (goal.at.loop-x-smaller c).In-loop-x in omega (arith, t.more)

pub loop-x-preserved : goal.loop-x-preserved
loop-x-preserved c = let t = turn_at (goal.at.loop-x-preserved c).In-loop-x in rw c.at.ensures t.again

pub returns : goal.returns
returns c = walk_end _ _ c.requires.good _ c.requires.twos c.loop-x.invariant c.loop-x-test.false

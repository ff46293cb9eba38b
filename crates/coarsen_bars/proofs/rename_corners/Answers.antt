use native.Mathlib.Omega.{arith}
use mathlib.Core.Path.{refl}
use lib.ListN.{get_or}
use Rattle.coarsen_bars.proofs.Marks.{naming-start, NameTurn, name-turn, naming-end}
use Rattle.coarsen_bars.proofs.rename_corners.Goals.{In-loop-c}
use Rattle.coarsen_bars.proofs.rename_corners.Goals as goal

turn_at : (c : In-loop-c) → NameTurn c.args.cs.now c.args.quads.now c.args.a c.loop-c.quads c.loop-c.c-index (get_or c.args.cs.now c.loop-c.c-index 0)
turn_at c = name-turn _ c.loop-c.invariant c.loop-c-test.true refl

pub loop-c-init : goal.loop-c-init
loop-c-init c = naming-start _ _ _ c.requires

pub bounds-quads-c : goal.bounds-quads-c
bounds-quads-c c = let t = turn_at (goal.at.bounds-quads-c c).In-loop-c in omega arith

pub loop-c-preserved : goal.loop-c-preserved
loop-c-preserved c = (turn_at (goal.at.loop-c-preserved c).In-loop-c).again

pub returns : goal.returns
returns c = naming-end c.loop-c.invariant (omega arith)

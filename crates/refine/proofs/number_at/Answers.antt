-- `refine::number_at` meets its contract. Assumes nothing.
use native.Mathlib.Omega.{arith}
use mathlib.Core.Path.{refl}
use Rattle.refine.proofs.Loops.{NumberTurn, number-turn}
use Rattle.refine.proofs.number_at.Goals.{Start}
use Rattle.refine.proofs.number_at.Goals as goal

turn_at : (c : Start) → NumberTurn c.requires.numbering c.requires.t_lt_m refl
turn_at c = number-turn c.requires.numbering c.requires.t_lt_m refl

pub overflow_add-f : goal.overflow_add-f
overflow_add-f c = let t = turn_at c in omega arith

pub bounds-w-first : goal.bounds-w-first
bounds-w-first c = let t = turn_at (goal.at.bounds-w-first c).Start in omega arith

pub overflow_cast-f : goal.overflow_cast-f
overflow_cast-f c =
    let t = turn_at (goal.at.overflow_cast-f c).Start in omega (arith, c.requires.numbering.few, c.requires.t_lt_m)

pub overflow_cast-result : goal.overflow_cast-result
overflow_cast-result c = let t = turn_at (goal.at.overflow_cast-result c).Start in omega arith

pub returns-then-f-t : goal.returns-then-f-t
returns-then-f-t c = (turn_at (goal.at.returns-then-f-t c).Start).new c.if-f-t.true

pub overflow_add-result : goal.overflow_add-result
overflow_add-result c = let t = turn_at (goal.at.overflow_add-result c).Start in omega arith

pub offset_bounds-w-num : goal.offset_bounds-w-num
offset_bounds-w-num c = let t = turn_at (goal.at.offset_bounds-w-num c).Start in omega arith

pub bounds-w-num : goal.bounds-w-num
bounds-w-num c = let t = turn_at (goal.at.bounds-w-num c).Start in omega arith

pub returns : goal.returns
returns c = (turn_at (goal.at.returns c).Start).old c.if-f-t.false

-- `refine::link` meets its contract. Assumes nothing.
use native.Mathlib.Omega.{arith}
use mathlib.Core.Path.{sym, ◌∙◌}
use Rattle.refine.proofs.Loops.{LinkTurn, link-turn, link-first, link-other, link-same}
use Rattle.refine.proofs.link.Goals.{Else-i-eq0}
use Rattle.refine.proofs.link.Goals as goal

turn_at : (c : Else-i-eq0) → LinkTurn c.requires.linking c.requires.i_bound
turn_at c = link-turn c.requires.linking c.requires.i_bound (omega arith)

pub returns-then-i-eq0 : goal.returns-then-i-eq0
returns-then-i-eq0 c =
    let the_pair = link-first c.requires.linking c.requires.i_bound c.if-i-eq0.true in record { part = the_pair.0; kept = the_pair.1 }

pub bounds-w-order : goal.bounds-w-order
bounds-w-order c = let t = turn_at (goal.at.bounds-w-order c).Else-i-eq0 in omega arith

pub overflow_cast-p : goal.overflow_cast-p
overflow_cast-p c = let t = turn_at (goal.at.overflow_cast-p c).Else-i-eq0 in omega arith

pub overflow_add-c : goal.overflow_add-c
overflow_add-c c = let t = turn_at (goal.at.overflow_add-c c).Else-i-eq0 in omega arith

pub bounds-w-order-2 : goal.bounds-w-order-2
bounds-w-order-2 c = let t = turn_at (goal.at.bounds-w-order-2 c).Else-i-eq0 in omega arith

pub overflow_cast-c : goal.overflow_cast-c
overflow_cast-c c = let t = turn_at (goal.at.overflow_cast-c c).Else-i-eq0 in omega arith

pub same_edge-requires : goal.same_edge-requires
same_edge-requires c =
    let t = turn_at (goal.at.same_edge-requires c).Else-i-eq0 in
    record { known = omega arith; known_2 = omega arith }

pub request_of-requires : goal.request_of-requires
request_of-requires c = let t = turn_at (goal.at.request_of-requires c).Else-i-eq0 in omega arith

pub overflow_add-w : goal.overflow_add-w
overflow_add-w c =
    let t = turn_at (goal.at.overflow_add-w c).Else-i-eq0 in omega (arith, c.request_of.ensures)

pub offset_bounds-w-first : goal.offset_bounds-w-first
offset_bounds-w-first c =
    let t = turn_at (goal.at.offset_bounds-w-first c).Else-i-eq0 in omega (arith, c.request_of.ensures)

pub bounds-w-first : goal.bounds-w-first
bounds-w-first c =
    let t = turn_at (goal.at.bounds-w-first c).Else-i-eq0 in omega (arith, c.request_of.ensures)

pub request_of-requires-then-same_edge : goal.request_of-requires-then-same_edge
request_of-requires-then-same_edge c = let t = turn_at (goal.at.request_of-requires-then-same_edge c).Else-i-eq0 in omega arith

pub overflow_add-w-then-same_edge : goal.overflow_add-w-then-same_edge
overflow_add-w-then-same_edge c =
    let t = turn_at (goal.at.overflow_add-w-then-same_edge c).Else-i-eq0 in omega (arith, c.request_of-then-same_edge.ensures)

pub offset_bounds-w-first-then-same_edge : goal.offset_bounds-w-first-then-same_edge
offset_bounds-w-first-then-same_edge c =
    let t = turn_at (goal.at.offset_bounds-w-first-then-same_edge c).Else-i-eq0 in omega (arith, c.request_of-then-same_edge.ensures)

pub bounds-w-first-then-same_edge : goal.bounds-w-first-then-same_edge
bounds-w-first-then-same_edge c =
    let t = turn_at (goal.at.bounds-w-first-then-same_edge c).Else-i-eq0 in omega (arith, c.request_of-then-same_edge.ensures)

pub returns-then-same_edge : goal.returns-then-same_edge
returns-then-same_edge c =
    let the_pair = link-same c.requires.linking c.requires.i_bound _ _ (turn_at (goal.at.returns-then-same_edge c).Else-i-eq0).positive (sym c.same_edge.ensures ∙ c.if-same_edge.true) c.request_of-then-same_edge.ensures c.request_of.ensures in record { part = the_pair.0; kept = the_pair.1 }

pub returns : goal.returns
returns c =
    let the_pair = link-other c.requires.linking c.requires.i_bound (sym c.same_edge.ensures ∙ c.if-same_edge.false) in record { part = the_pair.0; kept = the_pair.1 }

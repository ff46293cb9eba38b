-- `coarsen_merge::allowed` meets its contract. Assumes nothing.
use mathlib.Core.Path.{refl}
use Rattle.coarsen_merge.specs.Steps.{allowed_in}
use Rattle.coarsen_merge.proofs.Start.{free-both}
use Rattle.coarsen_merge.proofs.allowed.Goals as goal

pub meet_only-requires : goal.meet_only-requires
meet_only-requires c =
    record { start_holds = c.requires.start_holds; a_lt_np = c.requires.face_asks.a<; c_lt_np = c.requires.face_asks.c< }

pub near_free-requires : goal.near_free-requires
near_free-requires c =
    record { start_holds = c.requires.start_holds; touched_holds = c.requires.touched_holds; v_lt_np = c.requires.face_asks.a< }

pub near_free-requires-then-meet_only : goal.near_free-requires-then-meet_only
near_free-requires-then-meet_only c =
    record { start_holds = c.requires.start_holds; touched_holds = c.requires.touched_holds; v_lt_np = c.requires.face_asks.c< }

pub returns-then-meet_only : goal.returns-then-meet_only
unfolding allowed_in
returns-then-meet_only c =
    rw (← c.worth.ensures, c.if-worth.true, ← c.meet_only.ensures, c.if-meet_only.true) (free-both _ _ _ _ c.requires.start_holds c.near_free.ensures c.near_free-then-meet_only.ensures)

pub returns-else-meet_only : goal.returns-else-meet_only
unfolding allowed_in
returns-else-meet_only c = rw (← c.worth.ensures, c.if-worth.true, ← c.meet_only.ensures, c.if-meet_only.false) refl

pub returns-else-worth : goal.returns-else-worth
unfolding allowed_in
returns-else-worth c = rw (← c.worth.ensures, c.if-worth.false) refl

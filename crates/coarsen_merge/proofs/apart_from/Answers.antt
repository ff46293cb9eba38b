-- `coarsen_merge::apart_from` meets its contract. Assumes nothing.
use mathlib.Core.Path.{refl}
use borrow.Author.Tests.{eq-eqb, ne_eqb}
use Rattle.coarsen_merge.proofs.apart_from.Goals as goal

pub returns-then-x-b : goal.returns-then-x-b
returns-then-x-b c = rw (eq-eqb _ _ c.if-x-b.true) refl

pub returns-then-x-d : goal.returns-then-x-d
returns-then-x-d c = rw (ne_eqb _ _ c.if-x-b.false, eq-eqb _ _ c.if-x-d.true) refl

pub is_edge-requires : goal.is_edge-requires
is_edge-requires c =
    record { map_holds = c.requires.start_holds.map; u_lt_np = c.requires.v_lt_np; v_lt_np = c.requires.x_lt_np }

pub returns : goal.returns
returns c = rw (ne_eqb _ _ c.if-x-b.false, ne_eqb _ _ c.if-x-d.false, ← c.is_edge.ensures) refl

-- `coarsen_moves::moved_at` meets its contract. Assumes nothing.
use borrow.Author.Tests.{eq-eqb, ne_eqb}
use Rattle.rule_coarsen.specs.MergeFits.{moved_at}
use Rattle.coarsen_moves.proofs.moved_at.Goals as goal

pub returns-then-v-m : goal.returns-then-v-m
unfolding moved_at
returns-then-v-m c = simp (eq-eqb _ _ c.if-v-m.true)

pub returns-then-v-m-2 : goal.returns-then-v-m-2
unfolding moved_at
returns-then-v-m-2 c = simp (ne_eqb _ _ c.if-v-m.false, eq-eqb _ _ c.if-v-m-2.true)

pub returns : goal.returns
unfolding moved_at
returns c = simp (ne_eqb _ _ c.if-v-m.false, ne_eqb _ _ c.if-v-m-2.false) c.point_at.ensures

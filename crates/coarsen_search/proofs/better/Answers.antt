-- `coarsen_search::better` meets its contract. Assumes nothing.
use mathlib.Core.Path.{refl}
use borrow.Author.Tests.{lt-ltb, le-ltb}
use Rattle.coarsen_search.specs.Steps.{better_of}
use Rattle.coarsen_search.proofs.better.Goals as goal

pub returns-in-Some : goal.returns-in-Some
unfolding better_of
returns-in-Some c = rw (c.in-Some.is, le-ltb _ _ c.if-next-old.true) refl

pub returns-in_default : goal.returns-in_default
unfolding better_of
returns-in_default c = rw (c.in-Some.is, lt-ltb _ _ c.if-next-old.false) refl

pub returns-in_default-2 : goal.returns-in_default-2
unfolding better_of
returns-in_default-2 c = rw c.in_default.is refl

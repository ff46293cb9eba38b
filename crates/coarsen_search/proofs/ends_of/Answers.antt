-- `coarsen_search::ends_of` meets its contract. Assumes nothing.
use mathlib.Core.Path.{refl}
use mathlib.Core.Logic.{inl, inr}
use Rattle.coarsen_search.proofs.ends_of.Goals as goal

pub returns-then-c-a : goal.returns-then-c-a
returns-then-c-a c = inr (refl, refl)

pub returns : goal.returns
returns c = inl (refl, refl)

-- `coarsen_search::diagonal_at` meets its contract. Assumes nothing.
use mathlib.Core.Path.{refl}
use Rattle.coarsen_search.specs.Steps.{diagonal_of}
use Rattle.coarsen_search.proofs.diagonal_at.Goals as goal

pub returns : goal.returns
unfolding diagonal_of
returns c =
    rw (c.corner_at-d.ensures, c.corner_at-c.ensures, c.corner_at-b.ensures, c.corner_at-a.ensures) refl

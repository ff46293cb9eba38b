-- `coarsen_merge::none_further` meets its contract. Assumes nothing.
use mathlib.Core.Path.{◌≡◌}
use mathlib.Core.Bool.{true}
use Rattle.lists.specs.Every.{every}
use Rattle.coarsen_merge.specs.Steps.{not_further}
use Rattle.coarsen_merge.proofs.none_further.Given as goal

abbrev pub invariant-loop-c : goal.invariant-loop-c
invariant-loop-c l = every (not_further l.cs l.quads l.f l.v) l.c-index ≡ true

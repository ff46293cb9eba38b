-- `coarsen_merge::none_shared` meets its contract. Assumes nothing.
use mathlib.Core.Path.{◌≡◌}
use mathlib.Core.Bool.{true}
use Rattle.lists.specs.Every.{every}
use Rattle.coarsen_merge.specs.Steps.{shares_none}
use Rattle.pass_map.specs.Regions.{was_in, start_in}
use Rattle.coarsen_merge.proofs.none_shared.Given as goal

abbrev pub invariant-loop-c : goal.invariant-loop-c
invariant-loop-c l = every (shares_none l.cs (was_in l.np l.nq l.w) (start_in l.np l.nq l.w) l.b l.d l.v) l.c-index ≡ true

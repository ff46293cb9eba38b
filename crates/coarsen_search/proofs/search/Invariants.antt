-- `coarsen_search::search` meets its contract. Assumes nothing.
use mathlib.Core.Path.{◌≡◌}
use Rattle.std.specs.Prelude.{IfSome}
use Rattle.coarsen_search.specs.Steps.{found_to}
use Rattle.coarsen_search.specs.Conditions.{Noted}
use Rattle.coarsen_search.proofs.search.Given as goal

abbrev pub invariant-loop-k : goal.invariant-loop-k
invariant-loop-k l =
    record {
      found : l.choice ≡ found_to l.np l.nq l.b l.len l.points l.quads l.labels l.w l.f l.k;
      first : IfSome l.first (Noted l.np l.nq);
      second : IfSome l.second (Noted l.np l.nq);
    }

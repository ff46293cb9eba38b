-- `rows_copies::first_found` meets its contract. Assumes nothing.
use mathlib.Core.Path.{◌≡◌}
use Prim.Native.Nat.{◌-◌}
use Rattle.rule_rows.specs.Rows.{try_count, try_from}
use Rattle.rows_copies.proofs.first_found.Given as goal

abbrev pub invariant-loop-tried : goal.invariant-loop-tried
invariant-loop-tried l = try_from (try_count - l._tried) l.b l.p l.d l.mask l.step ≡ try_from try_count l.b l.p l.d l.mask l.initial.step

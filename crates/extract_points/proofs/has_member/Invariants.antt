-- `extract_points::has_member` meets its contract. Assumes nothing.
use mathlib.Core.Path.{◌≡◌}
use mathlib.Core.Bool.{false}
use Rattle.lists.specs.Every.{some}
use Rattle.extract_points.specs.Slots.{member_in}
use Rattle.extract_points.proofs.has_member.Given as goal

abbrev pub invariant-loop-e : goal.invariant-loop-e
invariant-loop-e l = some (member_in l.kind l.group-items l.k) l.e ≡ false

-- `sheet::good_quads` meets its contract. Assumes nothing.
use mathlib.Core.Path.{◌≡◌}
use mathlib.Core.Bool.{true}
use Rattle.sheet.specs.Tests.{good_quad_at}
use Rattle.lists.specs.Every.{every}
use Rattle.sheet.proofs.good_quads.Given as goal

abbrev pub invariant-loop-q : goal.invariant-loop-q
invariant-loop-q l = every (good_quad_at l.n l.quads l.labels) l.q ≡ true

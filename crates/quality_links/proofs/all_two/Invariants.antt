-- `quality_links::all_two` meets its contract. Assumes nothing.
use mathlib.Core.Path.{◌≡◌}
use mathlib.Core.Bool.{true}
use Rattle.lists.specs.Every.{every}
use Rattle.lists.specs.Regions.{part}
use Rattle.quality_links.specs.Links.{two_at}
use Rattle.quality_links.proofs.all_two.Given as goal

abbrev pub invariant-loop-j : goal.invariant-loop-j
invariant-loop-j l = every (two_at l.quads l.deg l.w (part l.from l.m l.w)) l.j ≡ true

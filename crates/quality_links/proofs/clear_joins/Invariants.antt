-- `quality_links::clear_joins` meets its contract. Assumes nothing.
use Rattle.lists.specs.Regions.{part}
use Rattle.quality_links.proofs.Joining.{Cleared}
use Rattle.quality_links.proofs.clear_joins.Given as goal

abbrev pub invariant-loop-j : goal.invariant-loop-j
invariant-loop-j l = Cleared l.np l.quads (part l.from l.m l.initial.w) l.from l.m l.deg l.acc l.initial.w l.w l.j

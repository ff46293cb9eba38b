-- `quality_links::join_all` meets its contract. Assumes nothing.
use Rattle.lists.specs.Regions.{part}
use Rattle.quality_links.proofs.Joining.{Registered}
use Rattle.quality_links.proofs.join_all.Given as goal

abbrev pub invariant-loop-j : goal.invariant-loop-j
invariant-loop-j l = Registered l.np l.quads (part l.from l.m l.initial.w) l.from l.m l.deg l.acc l.initial.w l.w l.j

use Rattle.lists.specs.Regions.{part}
use Rattle.coarsen_bars.proofs.Marks.{Pointing}
use Rattle.coarsen_bars.proofs.mark_points.Given as goal

abbrev pub invariant-loop-j : goal.invariant-loop-j
invariant-loop-j l = Pointing (part l.from l.m l.initial.w) (part l.to l.np l.initial.w) l.from l.m l.to l.np l.initial.w l.w l.j

-- `sheet::mark_corners` meets its contract. Assumes nothing.
use lib.ListN.{length}
use Rattle.sheet.proofs.Masks.{Used}
use Rattle.sheet.proofs.mark_corners.Given as goal

abbrev pub invariant-loop-j : goal.invariant-loop-j
invariant-loop-j l = Used l.quads l.labels l.q (length l.initial.masks) l.l l.masks l.j

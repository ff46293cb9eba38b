-- `coarsen_compact::number_corners` meets its contract. Assumes nothing.
use Rattle.coarsen_compact.proofs.Numbers.{NumberLoop}
use Rattle.coarsen_compact.proofs.number_corners.Given as goal

abbrev pub invariant-loop-c : goal.invariant-loop-c
invariant-loop-c l = NumberLoop l.np l.m l.points l.initial.quads l.numbers l.initial.w l.initial.floats l.quads l.w l.floats l.used l.c

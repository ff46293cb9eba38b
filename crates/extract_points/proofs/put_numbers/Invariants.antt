-- `extract_points::put_numbers` meets its contract. Assumes nothing.
use Rattle.extract_points.proofs.Numbers.{Numbering}
use Rattle.extract_points.proofs.put_numbers.Given as goal

abbrev pub invariant-loop-e : goal.invariant-loop-e
invariant-loop-e l = Numbering l.g l.n l.c l.i l.initial.w l.w l.e

-- `extract_grid::sample_grid` meets its contract. Assumes nothing.
use lib.ListN.{length}
use Rattle.lists.proofs.Laws.{Filled}
use Rattle.rule_extract.specs.Lattice.{sample_at}
use Rattle.extract_grid.proofs.sample_grid.Given as goal

abbrev pub invariant-loop-t : goal.invariant-loop-t
invariant-loop-t l = Filled (sample_at l.g l.m) l.initial.s (length l.initial.s) l.s l.t

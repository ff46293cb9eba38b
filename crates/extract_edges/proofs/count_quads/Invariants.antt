-- `extract_edges::count_quads` meets its contract. Assumes nothing.
use Rattle.extract_edges.specs.Rows.{edge_number, Counted}
use Rattle.extract_edges.proofs.count_quads.Given as goal

abbrev pub invariant-loop-r : goal.invariant-loop-r
invariant-loop-r l = Counted l.g l.n (edge_number l.n l.r 0) l.count

-- `extract_edges::count_row` meets its contract. Assumes nothing.
use Rattle.extract_edges.specs.Rows.{Counted, edge_number}
use Rattle.extract_edges.proofs.count_row.Given as goal

abbrev pub invariant-loop-j : goal.invariant-loop-j
invariant-loop-j l = Counted l.g l.n (edge_number l.n l.r l.j) l.next

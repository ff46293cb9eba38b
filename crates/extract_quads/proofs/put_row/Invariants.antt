-- `extract_quads::put_row` meets its contract. Assumes nothing.
use Rattle.extract_edges.specs.Rows.{edge_number}
use Rattle.extract_quads.specs.Faces.{Drawn}
use Rattle.extract_quads.proofs.put_row.Given as goal

abbrev pub invariant-loop-j : goal.invariant-loop-j
invariant-loop-j l = Drawn l.g l.n (edge_number l.n l.r l.j) l.next l.quads l.labels

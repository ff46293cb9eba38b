-- `extract_quads::put_quads` meets its contract. Assumes nothing.
use Rattle.extract_edges.specs.Rows.{edge_number}
use Rattle.extract_quads.specs.Faces.{Drawn}
use Rattle.extract_quads.proofs.put_quads.Given as goal

abbrev pub invariant-loop-r : goal.invariant-loop-r
invariant-loop-r l = Drawn l.g l.n (edge_number l.n l.r 0) l.place l.quads l.labels

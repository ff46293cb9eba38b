-- `extract_cells::groups` meets its contract. Assumes nothing.
use Rattle.rule_extract.specs.Cells.{bit_of}
use Rattle.extract_cells.proofs.Faces.{Joining}
use Rattle.extract_cells.proofs.groups.Given as goal

abbrev pub invariant-loop-t : goal.invariant-loop-t
invariant-loop-t l = Joining (bit_of l.case) (bit_of l.centres) l.groups l.t

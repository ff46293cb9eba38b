-- `extract_cells::merge` meets its contract. Assumes nothing.
use Rattle.rule_extract.specs.Cells.{merged_at, pair}
use Rattle.lists.proofs.Laws.{Filled}
use lib.ListN.{length}
use Rattle.extract_cells.proofs.merge.Given as goal

abbrev pub invariant-loop-group : goal.invariant-loop-group
invariant-loop-group l = Filled (merged_at l.initial.groups (pair l.a l.b)) l.initial.groups (length l.initial.groups) l.groups l.group-index

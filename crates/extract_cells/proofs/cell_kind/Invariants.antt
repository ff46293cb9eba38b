-- `extract_cells::cell_kind` meets its contract. Assumes nothing.
use mathlib.Core.Path.{◌≡◌}
use Rattle.rule_sheet.specs.Quads.{pack_to}
use Rattle.rule_extract.specs.Cells.{bit_of}
use Rattle.extract_cells.specs.Cells.{kind_bit}
use Rattle.extract_cells.proofs.cell_kind.Given as goal

abbrev pub invariant-loop-i : goal.invariant-loop-i
invariant-loop-i l = l.kind ≡ pack_to (kind_bit (bit_of l.case)) l.i

-- `extract_cells::four_crossings` meets its contract. Assumes nothing.
use Rattle.extract_cells.proofs.Tables.{four-crossings}
use mathlib.Core.Path.{refl}
use Rattle.rule_extract.specs.Cells.{bit_of}
use Rattle.extract_cells.proofs.four_crossings.Goals as goal

pub returns : goal.returns
returns c =
    rw (← four-crossings (bit_of c.args.case) _ c.requires, c.crosses_edge-a.ensures, c.face_edge.ensures.value, c.crosses_edge-b.ensures, c.face_edge-2.ensures.value, c.crosses_edge-c.ensures, c.face_edge-3.ensures.value, c.crosses_edge-d.ensures, c.face_edge-4.ensures.value) refl

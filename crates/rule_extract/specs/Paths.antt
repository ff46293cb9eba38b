-- Which edges of the grid and of a cell cross.
use Rattle.std.specs.Prelude.{ℕ, Bool, not}
use Rattle.std.specs.Bool.{beq}
use Rattle.rule_extract.specs.declared.Grid.{Grid}
use Rattle.rule_extract.specs.declared.Site.{Site}
use Rattle.rule_extract.specs.Crossings.{next_site}
use Rattle.rule_extract.specs.Cells.{bit_of, crosses}
use Rattle.rule_extract.specs.Lattice.{inside_at, case_of}

-- the signs at the ends of the edge from a place along an axis differ
unfoldable pub crossed_at : Grid → Site → ℕ → Bool
crossed_at g c axis = not (beq (inside_at g c) (inside_at g (next_site c axis)))

-- the edge j of a cell crosses
abbrev pub edge_crosses : Grid → Site → ℕ → Bool
edge_crosses g c j = crosses (bit_of (case_of g c)) j

-- `extract_cells::pair_at` meets its contract. Assumes nothing.
use mathlib.Core.Path.{◌∙◌}
use Rattle.extract_cells.proofs.Tables.{first-at, second_at}
use Rattle.extract_cells.proofs.pair_at.Goals as goal

pub returns-clause-first : goal.returns-clause-first
returns-clause-first c = c.face_edge.ensures.value ∙ first-at _ c.requires

pub returns-clause-second : goal.returns-clause-second
returns-clause-second c = c.face_edge-2.ensures.value ∙ second_at _ c.requires

-- `coarsen_merge::valence_at` meets its contract. Assumes nothing.
use mathlib.Core.Path.{◌∙◌}
use Rattle.coarsen_merge.proofs.Start.{valence-at}
use Rattle.coarsen_merge.proofs.valence_at.Goals as goal

pub returns : goal.returns
returns c = c.at.ensures ∙ (valence-at _ c.requires.start_holds c.requires.v_lt_np).is

-- `extract::masks_tested` meets its contract. Assumes nothing.
use mathlib.Core.Path.{◌∙◌}
use Rattle.sheet.proofs.Tests.{corners-tested, masks-tested}
use Rattle.extract.proofs.masks_tested.Goals as goal

pub mark_quads-requires : goal.mark_quads-requires
mark_quads-requires c =
    record { holds = c.requires.holds; nq_value = rw c.clear.auto.s (corners-tested _ _ _ _ c.requires.holds.labels≤ ∙ c.requires.labels_value); masks_value = rw (← c.clear.auto.s) at c.clear.ensures }

pub returns : goal.returns
returns c = c.good_masks.ensures ∙ masks-tested _ _ _ _ _ (rw c.clear.auto.s at c.mark_quads.ensures)

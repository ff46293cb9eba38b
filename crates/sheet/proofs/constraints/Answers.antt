-- `sheet::constraints` meets its contract. Assumes nothing.
use mathlib.Core.Path.{sym, ◌∙◌}
use Rattle.sheet.proofs.Tests.{bare-is, verdict-bare, holds-quads, quads-decide}
use Rattle.sheet.proofs.constraints.Goals as goal

pub returns-then-is_bare : goal.returns-then-is_bare
returns-then-is_bare c =
    record { value = verdict-bare _ (sym (bare-is _ _ _ _ c.requires.lent_sheet.labels) ∙ sym c.is_bare.ensures ∙ c.if-is_bare.true); masks_if = tt }

pub quads_tested-requires : goal.quads_tested-requires
quads_tested-requires c = holds-quads _ _ _ _ _ c.requires.lent_sheet (sym c.is_bare.ensures ∙ c.if-is_bare.false)

pub returns : goal.returns
returns c =
    let the_pair = quads-decide _ _ _ _ _ _ _ (sym c.is_bare.ensures ∙ c.if-is_bare.false) c.requires.lent_sheet.labels c.requires.masks_len c.quads_tested.ensures.value c.quads_tested.ensures.masks_if in record { value = the_pair.0; masks_if = the_pair.1 }

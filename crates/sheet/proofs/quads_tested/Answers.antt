-- `sheet::quads_tested` meets its contract. Assumes nothing.
use mathlib.Core.Path.{◌≡◌, sym, ◌∙◌}
use lib.ListN.{length, take}
use Rattle.lists.specs.Sort.{tabulate}
use Rattle.rule_sheet.specs.Flat.{quads_of}
use Rattle.sheet.specs.Flat.{mask_in}
use Rattle.rule_sheet.specs.Tests.{good_corners}
use Rattle.sheet.specs.Sheet.{masks_of}
use Rattle.sheet.proofs.Tests.{corners-tested, masks-tested, verdict-corner, verdict-clash, verdict-accepted}
use Rattle.sheet.proofs.quads_tested.Goals.{After-good_quads, After-mark_quads}
use Rattle.sheet.proofs.quads_tested.Goals as goal

-- what the test of the corners says

corners_are : (c : After-good_quads) →
    c.good_quads.result ≡ good_corners (length c.args.masks.now) (quads_of c.args.nq c.args.quads.now) (take c.args.nq c.args.labels.now)
corners_are c = c.good_quads.ensures ∙ corners-tested _ _ _ _ c.requires.labels≤

-- the masks after the marks

masks-are : (c : After-mark_quads) →
    c.mark_quads.new.masks ≡ tabulate (mask_in c.args.quads.now c.args.labels.now c.args.nq) (length c.args.masks.now)
masks-are c = rw c.clear.auto.s at c.mark_quads.ensures

pub mark_quads-requires : goal.mark_quads-requires
mark_quads-requires c =
    record { holds = c.requires; nq_value = rw c.clear.auto.s (sym c.good_quads.ensures ∙ c.if-good_quads.true); masks_value = rw (← c.clear.auto.s) at c.clear.ensures }

pub returns-then-good_masks : goal.returns-then-good_masks
unfolding masks_of
returns-then-good_masks c =
    let e = masks-are (goal.at.returns-then-good_masks c).After-mark_quads in
    record { value = verdict-accepted _ _ _ (sym (corners_are (goal.at.returns-then-good_masks c).After-good_quads) ∙ c.if-good_quads.true) (sym (masks-tested _ _ _ _ _ e) ∙ sym c.good_masks.ensures ∙ c.if-good_masks.true); masks_if = e }

pub returns-then-good_quads : goal.returns-then-good_quads
returns-then-good_quads c =
    record { value = verdict-clash _ _ _ (sym (corners_are (goal.at.returns-then-good_quads c).After-good_quads) ∙ c.if-good_quads.true) (sym (masks-tested _ _ _ _ _ (masks-are (goal.at.returns-then-good_quads c).After-mark_quads)) ∙ sym c.good_masks.ensures ∙ c.if-good_masks.false); masks_if = tt }

pub returns : goal.returns
returns c =
    record { value = verdict-corner _ _ _ (sym (corners_are (goal.at.returns c).After-good_quads) ∙ c.if-good_quads.false); masks_if = tt }

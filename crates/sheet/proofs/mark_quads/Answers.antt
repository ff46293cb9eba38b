use mathlib.Core.Path.{◌≡◌}
use lib.ListN.{length}
use Rattle.sheet.proofs.Masks.{Turn, masks-begin, masks-turn}
use Rattle.sheet.proofs.mark_quads.Goals.{In-loop-q}
use Rattle.sheet.proofs.mark_quads.Goals as goal

turn_at : (c : In-loop-q) →
    (length c.loop-q.masks ≡ length c.args.masks.now) × Turn c.args.quads.now c.args.labels.now c.loop-q.masks c.loop-q.q
turn_at c =
    masks-turn _ _ _ _ _ _ c.requires.holds c.requires.nq_value c.loop-q-test.true c.loop-q.invariant

pub loop-q-init : goal.loop-q-init
loop-q-init c = masks-begin c.args.quads.now c.args.labels.now _ _ c.requires.masks_value

pub mark_corners-requires : goal.mark_corners-requires
mark_corners-requires c =
    let t = (turn_at (goal.at.mark_corners-requires c).In-loop-q).1 in
    record { q_in_bounds = t.quad; q_in_bounds_2 = t.label; q_value = t.good; masks_value = t.masks }

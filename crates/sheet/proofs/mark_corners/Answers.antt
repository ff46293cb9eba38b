use Rattle.sheet.proofs.Masks.{used_start, used-ready, used-next, used_all}
use Rattle.sheet.proofs.mark_corners.Goals as goal

pub loop-j-init : goal.loop-j-init
loop-j-init c =
    used_start _ _ _ _ _ _ c.byte_at-l.ensures c.requires.q_in_bounds_2 c.requires.q_value c.requires.masks_value

pub mark-requires : goal.mark-requires
mark-requires c =
    let the_pair = used-ready _ c.loop-j.invariant c.loop-j-test.true c.corner_at.ensures in record { v_in_bounds = the_pair.0; v_bound = the_pair.1.0; label_bound = the_pair.1.1 }

pub loop-j-preserved : goal.loop-j-preserved
loop-j-preserved c = used-next _ _ c.loop-j.invariant c.loop-j-test.true c.corner_at.ensures c.mark.ensures

pub returns : goal.returns
returns c = used_all c.loop-j.invariant c.loop-j-test.false

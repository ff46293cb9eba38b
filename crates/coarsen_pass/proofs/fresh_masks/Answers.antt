-- `coarsen_pass::fresh_masks` meets its contract. Assumes nothing.
use Rattle.coarsen_pass.proofs.Begin.{masks-ready, masks-are}
use Rattle.coarsen_pass.proofs.fresh_masks.Goals as goal

pub mark_quads-requires : goal.mark_quads-requires
mark_quads-requires c =
    let the_rest = masks-ready c.args.quads.now c.args.labels.now c.args.nq c.args.masks.now c.clear.new.s c.clear.auto.s c.clear.ensures c.requires.nq_value in record { holds = c.requires.holds; nq_value = the_rest.0; masks_value = the_rest.1 }

pub returns : goal.returns
returns c =
    masks-are c.args.quads.now c.args.labels.now c.args.nq c.args.masks.now c.clear.new.s _ c.clear.auto.s c.mark_quads.ensures

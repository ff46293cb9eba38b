-- `coarsen_pass::mask_sheet` meets its contract. Assumes nothing.
use native.Mathlib.Omega.{arith}
use Rattle.lists.proofs.Regions.{length-lent}
use Rattle.coarsen_pass.proofs.Begin.{masks-lent}
use Rattle.coarsen_pass.proofs.mask_sheet.Goals as goal

pub fresh_masks-requires : goal.fresh_masks-requires
fresh_masks-requires c =
    record { holds = c.requires.holds; nq_value = rw (length-lent 0 c.args.np c.args.w.now (omega arith)) c.requires.nq_value }

pub returns : goal.returns
returns c =
    let the_pair = masks-lent c.args.np c.args.nq c.args.quads.now c.args.labels.now c.args.w.now _ c.requires.np_in_bounds c.fresh_masks.ensures in record { part = the_pair.0; kept = the_pair.1 }

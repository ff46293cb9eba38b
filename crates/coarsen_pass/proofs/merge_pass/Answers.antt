-- `coarsen_pass::merge_pass` meets its contract. Assumes nothing.
use Rattle.coarsen_pass.proofs.Start.{prepare-asks, holds_of}
use Rattle.coarsen_pass.proofs.Rule.{passed-of}
use Rattle.coarsen_pass.proofs.merge_pass.Goals as goal

pub prepare-requires : goal.prepare-requires
prepare-requires c = prepare-asks c.requires.merge_pass_asks

pub visit_all-requires : goal.visit_all-requires
visit_all-requires c =
    record { merge_pass_holds = holds_of c.prepare.ensures c.requires.merge_pass_asks; len_value = c.requires.len_value }

pub returns : goal.returns
returns c = passed-of _ _ c.prepare.ensures c.visit_all.ensures

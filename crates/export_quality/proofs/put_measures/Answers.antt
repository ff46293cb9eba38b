-- `export_quality::put_measures` meets its contract. Assumes nothing.
use Rattle.rule_exports.specs.Measured.{fronted}
use Rattle.export_quality.proofs.put_measures.Goals as goal

pub returns : goal.returns
unfolding fronted
returns c = rw c.copy_from_slice.ensures.after

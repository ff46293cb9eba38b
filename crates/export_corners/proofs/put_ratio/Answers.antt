-- `export_corners::put_ratio` meets its contract. Assumes nothing.
use Rattle.rule_exports.specs.Measured.{fronted}
use Rattle.export_corners.proofs.put_ratio.Goals as goal

pub returns : goal.returns
unfolding fronted
returns c = rw c.copy_from_slice.ensures.after

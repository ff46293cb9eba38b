-- `export_band::told_verdict` meets its contract. Assumes nothing.
use mathlib.Core.Path.{◌∙◌}
use Rattle.export_band.proofs.told_verdict.Goals as goal

pub returns : goal.returns
returns c = c.before_verdict.ensures ∙ rw c.is_short_told.ensures

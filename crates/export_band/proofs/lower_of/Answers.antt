-- `export_band::lower_of` meets its contract. Assumes nothing.
use mathlib.Core.Path.{◌∙◌}
use borrow.Author.Tests.{lt-ltb, le-ltb}
use Rattle.rule_exports.specs.Told.{lower_of}
use Rattle.export_band.proofs.Told.{nan-bits}
use Rattle.export_band.proofs.lower_of.Goals as goal

pub returns-then-kind-gt-QUADRIC : goal.returns-then-kind-gt-QUADRIC
unfolding lower_of
returns-then-kind-gt-QUADRIC c = nan-bits ∙ rw (lt-ltb _ _ c.if-kind-gt-QUADRIC.true)

pub returns-else-kind-gt-QUADRIC : goal.returns-else-kind-gt-QUADRIC
unfolding lower_of
returns-else-kind-gt-QUADRIC c = rw (le-ltb _ _ c.if-kind-gt-QUADRIC.false)

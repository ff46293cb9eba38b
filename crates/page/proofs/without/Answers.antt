use mathlib.Core.Path.{ap, ◌∙◌}
use Prim.Native.Nat.{◌/◌}
use Rattle.page.proofs.Lines.{without-next}
use Rattle.page.proofs.without.Goals as goal

pub loop-preserved : goal.loop-preserved
loop-preserved c = ap (λ r. r / 10) c.loop.invariant ∙ without-next _ _

-- `edges::is_pair` meets its contract. Assumes nothing.
use mathlib.Core.Path.{sym, ap, ◌∙◌}
use Rattle.edges.specs.Steps.{is_two, pair_at}
use Rattle.edges.proofs.Walk.{two_yes, two_no}
use Rattle.edges.proofs.is_pair.Goals as goal

pub returns-in-Opposite : goal.returns-in-Opposite
unfolding pair_at
returns-in-Opposite c = sym (two_yes _ c.in-Opposite.is) ∙ ap is_two c.kind_at.ensures

pub returns-in_default : goal.returns-in_default
unfolding pair_at
returns-in_default c = sym (two_no _ c.in_default.not-Opposite c.in_default.not-Turned) ∙ ap is_two c.kind_at.ensures

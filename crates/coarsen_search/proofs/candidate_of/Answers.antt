-- `coarsen_search::candidate_of` meets its contract. Assumes nothing.
use mathlib.Core.Path.{refl}
use Rattle.coarsen_search.proofs.Choices.{allowed-gains}
use Rattle.coarsen_search.proofs.candidate_of.Goals as goal

pub overflow_sub-result : goal.overflow_sub-result
overflow_sub-result c =
    rw c.sums_of-s.ensures (allowed-gains c.args.np c.args.nq c.args.g.face c.args.g.a c.args.g.b c.args.g.c c.args.g.d c.args.w.now c.requires.w_value)

pub returns : goal.returns
returns c = rw (← c.sums_of-s.ensures) refl

-- `regularize_pass::try_pair` meets its contract. Assumes nothing.
use mathlib.Core.Path.{sym, ◌∙◌}
use Rattle.regularize_shapes.proofs.SwapFits.{named-by}
use Rattle.regularize_pass.proofs.Pairs.{step-none, swappable, step-made}
use Rattle.regularize_pass.proofs.try_pair.Goals as goal

pub returns-in_default : goal.returns-in_default
returns-in_default c =
    step-none c.requires.try_asks c.args.c c.args.d c.args.count c.requires.c_bound c.requires.d_bound (sym c.in_default.is ∙ c.choice_at.ensures)

pub make_swap-requires-clause-make_swap_asks : goal.make_swap-requires-clause-make_swap_asks
make_swap-requires-clause-make_swap_asks c =
    let X = swappable c.requires.try_asks c.args.c c.args.d c.args.count c.requires.c_bound c.requires.d_bound c.in-Some.k (sym c.in-Some.is ∙ c.choice_at.ensures) in
    rw c.six_at-h.ensures X

pub returns : goal.returns
returns c =
    step-made c.requires.try_asks c.args.c c.args.d c.args.count c.requires.c_bound c.requires.d_bound c.in-Some.k (sym c.in-Some.is ∙ c.choice_at.ensures) _ c.six_at-h.ensures (rw (c.number.ensures, named-by c.in-Some.k) at c.make_swap.ensures)

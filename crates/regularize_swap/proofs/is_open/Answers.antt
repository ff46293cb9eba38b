-- `regularize_swap::is_open` meets its contract. Assumes nothing.
use mathlib.Core.Path.{ap, ◌∙◌}
use native.Mathlib.Omega.{arith}
use Rattle.regularize_shapes.specs.SwapFits.{diagonal_of, turned}
use Rattle.regularize_swap.proofs.Diagonals.{open-yes}
use Rattle.regularize_swap.proofs.is_open.Goals as goal

pub returns : goal.returns
returns c =
    let e = c.turned_by-g.ensures ∙ ap (turned c.args.h) c.of.ensures in
    open-yes c.args.np c.args.nq c.args.w.now c.args.h (diagonal_of c.args.k) _ e _ _ c.valence_sum.ensures.value c.valence_sum-2.ensures.value c.args.least _ c.is_edge.ensures (omega (arith, c.if-valence_sum-after.false))

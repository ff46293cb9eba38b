-- `regularize_swap::gains` meets its contract. Assumes nothing.
use Rattle.regularize_swap.proofs.Diagonals.{ends-below}
use Rattle.regularize_swap.proofs.gains.Goals as goal

pub valence_sum-after-requires : goal.valence_sum-after-requires
valence_sum-after-requires c =
    let E = ends-below c.of.result _ c.requires.six_below c.turned_by-g.ensures in
    record { work_fits = c.requires.work_fits; u_lt_np = E.0; v_lt_np = E.1 }

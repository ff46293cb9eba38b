-- `coarsen_search::stay_around` meets its contract. Assumes nothing.
use native.Mathlib.Omega.{arith}
use mathlib.Core.Path.{refl}
use Rattle.coarsen_merge.proofs.Start.{spanned}
use Rattle.coarsen_search.proofs.Choices.{ended-below}
use Rattle.coarsen_search.proofs.stay_around.Goals as goal

pub at-place-requires : goal.at-place-requires
at-place-requires c = omega (arith, c.requires.v_lt_np)

pub returns : goal.returns
returns c =
    let e = (spanned c.args.v _ _ c.requires.start_holds c.requires.v_lt_np refl refl).end in
    record { stays_value = rw c.merge_of-m.ensures at c.quads_stay.ensures.stays_value; at_bound = ended-below c.quads_stay.result _ _ e c.quads_stay.ensures.at_bound }

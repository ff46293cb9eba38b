-- `regularize_swap::make_swap` meets its contract. Assumes nothing.
use mathlib.Core.Path.{ap, ◌∙◌}
use Rattle.regularize_shapes.specs.SwapFits.{diagonal_of, turned}
use Rattle.regularize_swap.proofs.Made.{move-ready, map-moved, swap-done}
use Rattle.regularize_swap.proofs.make_swap.Goals as goal

pub move_valences-requires-clause-move_valences_asks : goal.move_valences-requires-clause-move_valences_asks
move_valences-requires-clause-move_valences_asks c =
    move-ready c.requires.swap_pass_holds c.requires.make_swap_asks c.of.result _ c.turned_by-g.ensures

pub bar_six-requires-clause-map_holds : goal.bar_six-requires-clause-map_holds
bar_six-requires-clause-map_holds c =
    map-moved c.requires.swap_pass_holds c.requires.make_swap_asks c.move_valences.ensures.kept

pub returns : goal.returns
returns c =
    let e = c.turned_by-g.ensures ∙ ap (turned c.args.h) c.of.ensures in
    swap-done c.requires.swap_pass_holds c.requires.make_swap_asks (diagonal_of c.args.k) _ e c.put_pair.ensures (c.move_valences.ensures.part, (c.move_valences.ensures.kept, c.move_valences.ensures.bounded_2)) (c.bar_six.ensures.part, c.bar_six.ensures.kept)

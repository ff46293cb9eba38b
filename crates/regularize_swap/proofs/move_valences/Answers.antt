-- `regularize_swap::move_valences` meets its contract. Assumes nothing.
use Rattle.regularize_swap.proofs.Moves.{moving-start, moved-less, moved_more}
use Rattle.regularize_swap.proofs.move_valences.Goals as goal

pub returns : goal.returns
returns c =
    let z = moving-start c.requires.np_in_bounds c.requires.bounded in
    let y = moved-less c.args.a z c.requires.move_valences_asks.a< c.one_less.ensures in
    let x = moved-less c.args.b y c.requires.move_valences_asks.b< c.one_less-2.ensures in
    let w = moved_more c.args.c x c.requires.move_valences_asks.c< c.one_more.ensures in
    let r = moved_more c.args.d w c.requires.move_valences_asks.d< c.one_more-2.ensures in
    record { part = r.at; kept = r.kept; bounded_2 = r.bounded }

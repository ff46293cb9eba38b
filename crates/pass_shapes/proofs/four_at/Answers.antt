-- `pass_shapes::four_at` meets its contract. Assumes nothing.
use Rattle.pass_shapes.proofs.Shaped.{four_is}
use Rattle.pass_shapes.proofs.four_at.Goals as goal

pub returns : goal.returns
returns c =
    let the_pair = four_is _ _ c.requires.cornered c.requires.q_lt_nq c.corner_at-a.ensures c.corner_at-b.ensures c.corner_at-c.ensures c.corner_at-d.ensures in record { value = the_pair.0; four_below = the_pair.1 }

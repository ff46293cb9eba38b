-- `coarsen_search::landing` meets its contract. Assumes nothing.
use native.Mathlib.Omega.{arith}
use Rattle.coarsen_search.specs.Steps.{landing_of}
use Rattle.coarsen_search.proofs.landing.Goals as goal

pub at-requires : goal.at-requires
at-requires c = omega arith

pub at-requires-2 : goal.at-requires-2
at-requires-2 c = omega arith

pub joined-mask-requires : goal.joined-mask-requires
joined-mask-requires c =
    record { a_bound = simp (c.at-2.ensures, c.at.ensures) c.requires.landing_asks.mask_a; c_bound = simp (c.at-2.ensures, c.at.ensures) c.requires.landing_asks.mask_c }

pub new_position-requires : goal.new_position-requires
new_position-requires c =
    record { np_in_bounds = c.requires.np_in_bounds; a_lt_np = c.requires.landing_asks.a<; c_lt_np = c.requires.landing_asks.c< }

pub returns : goal.returns
unfolding landing_of
returns c = rw (← c.at.ensures, ← c.at-2.ensures, ← c.joined-mask.ensures) c.new_position.ensures

use native.Mathlib.Omega.{arith}
use mathlib.Core.Path.{refl}
use Rattle.rows_gather.proofs.Numbers.{bit-le, numbers-start, next_small, number_put, numbers-turn, numbers-end}
use Rattle.rows_gather.proofs.number_copies.Goals as goal

pub loop-k-init : goal.loop-k-init
loop-k-init c = numbers-start (c.requires.np_le_limit, (c.requires.np_in_bounds, (c.requires.np_in_bounds_2, c.requires.apart)))

pub overflow_cast-w : goal.overflow_cast-w
overflow_cast-w c = let h = next_small c.loop-k.invariant c.loop-k-test.true in omega arith

pub is_copied-requires : goal.is_copied-requires
is_copied-requires c =
    record { k_bound = c.loop-k-test.true; np_in_bounds = omega (arith, c.loop-k.invariant.in_masks, (number_put c.loop-k.invariant _ c.loop-k-test.true refl).len) }

pub overflow_add-next : goal.overflow_add-next
overflow_add-next c =
    omega (arith, next_small c.loop-k.invariant c.loop-k-test.true, bit-le c.is_copied.result)

pub loop-k-preserved : goal.loop-k-preserved
loop-k-preserved c =
    numbers-turn c.loop-k.invariant _ _ _ c.loop-k-test.true refl c.is_copied.ensures c.from-next.ensures

pub returns : goal.returns
returns c =
    let the_pair = numbers-end c.loop-k.invariant (omega arith) in record { value = the_pair.0; part = the_pair.1.0; kept = the_pair.1.1 }

-- `rows_gather::put_seam` meets its contract. Assumes nothing.
use native.Mathlib.Omega.{arith}
use lib.ListN.{length-set}
use Rattle.rows_gather.proofs.Lists.{seam-next, seam-stay, seam-turn}
use Rattle.rows_gather.proofs.put_seam.Goals as goal

pub is_seam-requires : goal.is_seam-requires
is_seam-requires c =
    record { cornered = c.requires.seaming.cornered; nq_in_bounds = c.requires.seaming.labelled; part = c.requires.seaming.order; i_bound = c.requires.i_bound }

pub overflow_add-w : goal.overflow_add-w
overflow_add-w c = omega (arith, c.requires.seaming.order.fits, c.requires.i_bound)

pub bounds-w-order : goal.bounds-w-order
bounds-w-order c = omega (arith, c.requires.seaming.order.fits, c.requires.i_bound)

pub overflow_add-w-then-is_seam : goal.overflow_add-w-then-is_seam
overflow_add-w-then-is_seam c = omega (arith, c.requires.seaming.room, c.requires.seaming.next≤, c.requires.i_bound)

pub bounds-w-at : goal.bounds-w-at
bounds-w-at c = omega (arith, c.requires.seaming.room, c.requires.seaming.next≤, c.requires.i_bound)

pub overflow_add-w-then-is_seam-2 : goal.overflow_add-w-then-is_seam-2
overflow_add-w-then-is_seam-2 c =
    omega (arith, c.requires.seaming.order.fits, c.requires.seaming.cornered.few, c.requires.i_bound)

pub overflow_add-w-then-is_seam-3 : goal.overflow_add-w-then-is_seam-3
overflow_add-w-then-is_seam-3 c =
    omega (arith, c.requires.seaming.order.fits, c.requires.seaming.cornered.few, c.requires.i_bound)

pub bounds-w-order-then-is_seam : goal.bounds-w-order-then-is_seam
bounds-w-order-then-is_seam c =
    let h = seam-next _ _ _ _ _ _ c.is_seam.ensures c.if-is_seam.true in simp length-set (omega (arith, c.requires.seaming.order.fits))

pub overflow_add-w-then-is_seam-4 : goal.overflow_add-w-then-is_seam-4
overflow_add-w-then-is_seam-4 c = omega (arith, c.requires.seaming.room, c.requires.seaming.next≤, c.requires.i_bound)

pub overflow_add-w-then-is_seam-5 : goal.overflow_add-w-then-is_seam-5
overflow_add-w-then-is_seam-5 c = omega (arith, c.requires.seaming.room, c.requires.seaming.next≤, c.requires.i_bound)

pub bounds-w-at-then-is_seam : goal.bounds-w-at-then-is_seam
bounds-w-at-then-is_seam c =
    simp length-set (omega (arith, c.requires.seaming.room, c.requires.seaming.next≤, c.requires.i_bound))

pub overflow_add-result : goal.overflow_add-result
overflow_add-result c =
    omega (arith, c.requires.seaming.cornered.few, c.requires.seaming.next≤, c.requires.i_bound)

pub shape_of-w-then-is_seam : goal.shape_of-w-then-is_seam
shape_of-w-then-is_seam c = simp length-set

pub returns-then-is_seam : goal.returns-then-is_seam
returns-then-is_seam c =
    let the_pair = seam-turn c.requires.seaming c.requires.i_bound _ c.is_seam.ensures c.if-is_seam.true in record { seaming_2 = the_pair.0; kept = the_pair.1 }

pub returns : goal.returns
returns c =
    let the_pair = seam-stay c.requires.seaming c.requires.i_bound _ c.is_seam.ensures c.if-is_seam.false in record { seaming_2 = the_pair.0; kept = the_pair.1 }

-- `rows_gather::is_seam` meets its contract. Assumes nothing.
use native.Mathlib.Omega.{arith}
use Rattle.edges.proofs.Walk.{walked-of}
use Rattle.rows_gather.proofs.Lists.{place-low, two-next, seam-yes, seam-no}
use Rattle.rows_gather.proofs.is_seam.Goals as goal

pub is_pair-requires : goal.is_pair-requires
is_pair-requires c =
    record { walk_asks = walked-of c.requires.cornered c.requires.part; i_lt_n = c.requires.i_bound }

pub overflow_add-order-then-is_pair : goal.overflow_add-order-then-is_pair
overflow_add-order-then-is_pair c = omega (arith, c.requires.part.fits, c.requires.i_bound)

pub at-requires : goal.at-requires
at-requires c = omega (arith, c.requires.part.fits, c.requires.i_bound)

pub byte_at-a-requires : goal.byte_at-a-requires
byte_at-a-requires c =
    let h = place-low c.requires.cornered c.requires.part _ _ c.requires.i_bound c.at.ensures in omega (arith, c.requires.nq_in_bounds)

pub overflow_add-i : goal.overflow_add-i
overflow_add-i c = omega (arith, c.requires.i_bound, c.requires.cornered.few)

pub overflow_add-order-then-is_pair-2 : goal.overflow_add-order-then-is_pair-2
overflow_add-order-then-is_pair-2 c =
    let h = two-next c.requires.cornered c.requires.part _ _ c.requires.i_bound c.is_pair.ensures c.if-is_pair.true in omega (arith, c.requires.part.fits)

pub at-requires-then-is_pair : goal.at-requires-then-is_pair
at-requires-then-is_pair c =
    let h = two-next c.requires.cornered c.requires.part _ _ c.requires.i_bound c.is_pair.ensures c.if-is_pair.true in omega (arith, c.requires.part.fits)

pub byte_at-b-requires : goal.byte_at-b-requires
byte_at-b-requires c =
    let h = place-low c.requires.cornered c.requires.part _ _ (two-next c.requires.cornered c.requires.part _ _ c.requires.i_bound c.is_pair.ensures c.if-is_pair.true) c.at-then-is_pair.ensures in omega (arith, c.requires.nq_in_bounds)

pub returns-then-is_pair : goal.returns-then-is_pair
returns-then-is_pair c =
    seam-yes c.requires.cornered c.requires.part _ _ c.requires.i_bound c.is_pair.ensures c.args.labels.now _ _ _ _ c.if-is_pair.true c.at.ensures c.at-then-is_pair.ensures c.byte_at-a.ensures c.byte_at-b.ensures

pub returns : goal.returns
returns c =
    seam-no c.requires.cornered c.requires.part _ _ c.requires.i_bound c.is_pair.ensures c.args.labels.now c.if-is_pair.false

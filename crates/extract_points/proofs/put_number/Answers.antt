-- `extract_points::put_number` meets its contract. Assumes nothing.
use native.Mathlib.Omega.{arith}
use Rattle.extract_points.specs.Slots.{numbered_if}
use Rattle.extract_paths.proofs.Slots.{cell-number}
use Rattle.extract_points.proofs.Numbers.{group-low, bit-crosses}
use Rattle.extract_points.proofs.put_number.Goals as goal

pub slot_label-label-requires : goal.slot_label-label-requires
slot_label-label-requires c =
    record { cell_at = c.requires.cell_at; e_bound = c.requires.e_bound; e_value = c.requires.e_value (bit-crosses _ c.requires.known c.requires.e_bound c.bit.ensures c.if-bit.true) }

pub rank-requires : goal.rank-requires
rank-requires c = group-low _ c.requires.known c.requires.e_bound

pub overflow_add-number : goal.overflow_add-number
overflow_add-number c = omega (arith, c.requires.first_bound)

pub overflow_cast-w : goal.overflow_cast-w
overflow_cast-w c = omega (arith, c.requires.first_bound)

pub overflow_mul-w : goal.overflow_mul-w
overflow_mul-w c = omega (arith, c.requires.first_bound)

pub overflow_add-w : goal.overflow_add-w
overflow_add-w c = omega (arith, c.requires.first_bound)

pub overflow_mul-w-then-bit : goal.overflow_mul-w-then-bit
overflow_mul-w-then-bit c = let n = cell-number c.requires.cell_at in omega arith

pub overflow_add-w-then-bit : goal.overflow_add-w-then-bit
overflow_add-w-then-bit c = let n = cell-number c.requires.cell_at in omega arith

pub offset_bounds-w-i : goal.offset_bounds-w-i
offset_bounds-w-i c = let n = cell-number c.requires.cell_at in omega arith

pub returns-then-bit : goal.returns-then-bit
unfolding numbered_if
returns-then-bit c =
    rw (← c.bit.ensures, c.if-bit.true, c.rank.ensures.value, c.slot_label-label.ensures.value)

pub returns-else-bit : goal.returns-else-bit
unfolding numbered_if
returns-else-bit c = rw (← c.bit.ensures, c.if-bit.false)

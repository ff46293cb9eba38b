-- `rows_copies::copy_at` meets its contract. Assumes nothing.
use native.Mathlib.Omega.{arith}
use Rattle.sheet.proofs.Masks.{shl_is, pow_small}
use Rattle.rows_copies.proofs.Put.{copy-by}
use Prim.Native.Nat.{◌%◌}
use Rattle.rows_copies.proofs.copy_at.Goals as goal

pub inward_at-d-requires : goal.inward_at-d-requires
inward_at-d-requires c =
    record { labelled = c.requires.labelled; incident = c.requires.incident; v_lt_np = omega (arith, c.requires.k_bound) }

pub point_at-p-requires : goal.point_at-p-requires
point_at-p-requires c = omega (arith, c.requires.labelled.held.points, c.requires.k_bound)

pub overflow_cast-l-2 : goal.overflow_cast-l-2
overflow_cast-l-2 c =
    rw (shl_is (c.args.k % 8) (omega arith)) (omega (arith, pow_small (c.args.k % 8) (omega arith)))

pub first_found-requires : goal.first_found-requires
first_found-requires c = c.requires.len_value

pub returns : goal.returns
returns c =
    copy-by _ _ _ _ _ _ _ _ _ _ c.first_found.ensures (shl_is (c.args.k % 8) (omega arith)) c.point_at-p.ensures c.inward_at-d.ensures

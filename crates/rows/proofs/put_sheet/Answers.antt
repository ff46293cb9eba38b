-- `rows::put_sheet` meets its contract. Assumes nothing.
use Rattle.std.proofs.Common.{ap, not}
use native.Mathlib.Omega.{arith}
use mathlib.Core.Path.{refl, sym, ◌∙◌}
use Rattle.rows.proofs.Rule.{not-false, finished-old, finished-points, finished-more, finished-strips, finished-quads, finished-labels, finished-room, finished-done, finished-lost, finished_open}
use Rattle.rows.proofs.put_sheet.Goals as goal

pub copy_points-requires : goal.copy_points-requires
copy_points-requires c =
    record { n_in_bounds = c.requires.gathered.sheet.held.points; n_in_bounds_2 = finished-old c.requires }

pub put_copies-requires : goal.put_copies-requires
put_copies-requires c =
    record { gathered = c.requires.gathered; w_in_bounds = finished-points c.requires _ c.copy_points.auto.out; front = c.copy_points.ensures }

pub returns-then-not-put_copies : goal.returns-then-not-put_copies
returns-then-not-put_copies c = finished-lost c.requires _ _ _ _ _ c.put_copies.ensures.value (ap not c.if-not-put_copies.true)

pub returns-then-not-is_paired : goal.returns-then-not-is_paired
returns-then-not-is_paired c =
    finished_open c.requires _ _ _ _ _ _ c.put_copies.ensures.value (ap not c.if-not-put_copies.false) c.is_paired.ensures (ap not c.if-not-is_paired.true)

pub overflow_sub-m : goal.overflow_sub-m
overflow_sub-m c = omega (arith, finished-more c.requires)

pub put_quads-requires : goal.put_quads-requires
put_quads-requires c =
    record { gathered = c.requires.gathered; m_value = finished-strips c.requires; m_in_bounds = finished-quads c.requires _ refl; m_in_bounds_2 = finished-labels c.requires _ refl }

pub tested-requires : goal.tested-requires
tested-requires c =
    let the_pair = finished-room c.requires _ _ _ _ (c.put_copies.auto.out ∙ c.copy_points.auto.out) c.put_quads.auto.new_quads c.put_quads.auto.new_labels refl in record { lent_sheet = the_pair.0; points_in_bounds = the_pair.1 }

pub returns : goal.returns
returns c =
    finished-done c.requires c.args.b _ _ c.put_copies.ensures.value c.if-not-put_copies.false c.put_copies.ensures.front_2 (sym c.is_paired.ensures ∙ c.if-not-is_paired.false) (c.put_quads.ensures.front, c.put_quads.ensures.front_2) c.tested.ensures

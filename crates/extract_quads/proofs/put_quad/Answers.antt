-- `extract_quads::put_quad` meets its contract. Assumes nothing.
use native.Mathlib.Omega.{arith}
use Rattle.extract_quads.proofs.Dual.{row-inner, put-inside, put-outside}
use Rattle.extract_quads.proofs.put_quad.Goals as goal

pub slot_at-p-requires : goal.slot_at-p-requires
slot_at-p-requires c =
    record { all_numbered = c.requires.all_numbered; row_in = c.requires.row_in; j_bound = c.requires.j_bound; axis_value = c.requires.axis_value; k_bound = omega arith }

pub slot_at-q-requires : goal.slot_at-q-requires
slot_at-q-requires c =
    record { all_numbered = c.requires.all_numbered; row_in = c.requires.row_in; j_bound = c.requires.j_bound; axis_value = c.requires.axis_value; k_bound = omega arith }

pub slot_at-s-requires : goal.slot_at-s-requires
slot_at-s-requires c =
    record { all_numbered = c.requires.all_numbered; row_in = c.requires.row_in; j_bound = c.requires.j_bound; axis_value = c.requires.axis_value; k_bound = omega arith }

pub slot_at-t-requires : goal.slot_at-t-requires
slot_at-t-requires c =
    record { all_numbered = c.requires.all_numbered; row_in = c.requires.row_in; j_bound = c.requires.j_bound; axis_value = c.requires.axis_value; k_bound = omega arith }

pub bounds-labels-place : goal.bounds-labels-place
bounds-labels-place c = c.requires.place_in_bounds_2

pub put_quad-requires : goal.put_quad-requires
put_quad-requires c = c.requires.place_in_bounds

pub returns-then-sign : goal.returns-then-sign
returns-then-sign c =
    let I = row-inner _ c.requires.row_in c.requires.j_bound in
    let the_pair = put-inside _ _ _ _ _ _ _ _ _ c.args.labels.now I c.slot_at-p.ensures c.slot_at-q.ensures c.slot_at-s.ensures c.slot_at-t.ensures
    c.requires.sign_value c.if-sign.true c.put_quad.ensures in record { quads_after = the_pair.0; labels_after = the_pair.1 }

pub put_quad-requires-else-sign : goal.put_quad-requires-else-sign
put_quad-requires-else-sign c = c.requires.place_in_bounds

pub returns-else-sign : goal.returns-else-sign
returns-else-sign c =
    let I = row-inner _ c.requires.row_in c.requires.j_bound in
    let the_pair = put-outside _ _ _ _ _ _ _ _ _ c.args.labels.now I c.slot_at-p.ensures c.slot_at-q.ensures c.slot_at-s.ensures c.slot_at-t.ensures
    c.requires.sign_value c.if-sign.false c.put_quad-else-sign.ensures in record { quads_after = the_pair.0; labels_after = the_pair.1 }

-- `extract_quads::slot_at` meets its contract. Assumes nothing.
use native.Mathlib.Omega.{arith}
use Rattle.extract_quads.proofs.Dual.{offset-low, row-inner, cell-within, slot-in, slot_read}
use Rattle.extract_quads.proofs.slot_at.Goals as goal

pub overflow_sub-row : goal.overflow_sub-row
overflow_sub-row c = let o = offset-low _ c.requires.k_bound in omega (arith, o.0, c.requires.row_in.b>)

pub overflow_sub-j : goal.overflow_sub-j
overflow_sub-j c = let o = offset-low _ c.requires.k_bound in omega (arith, o.1)

pub index_of-requires : goal.index_of-requires
index_of-requires c =
    let o = offset-low _ c.requires.k_bound in
    record { n_bound = omega (arith, c.requires.row_in.n≤); within = rw c.place_on-c.ensures (cell-within _ _ _ o.0 o.1 (row-inner _ c.requires.row_in c.requires.j_bound)) }

pub overflow_mul-result : goal.overflow_mul-result
overflow_mul-result c =
    let o = offset-low _ c.requires.k_bound in omega (arith, o.0, o.1, c.requires.row_in.axis<, c.index_of.ensures.upper_bound)

pub overflow_mul-result-2 : goal.overflow_mul-result-2
overflow_mul-result-2 c =
    let o = offset-low _ c.requires.k_bound in omega (arith, o.0, o.1, c.requires.row_in.axis<, c.index_of.ensures.upper_bound)

pub overflow_mul-result-3 : goal.overflow_mul-result-3
overflow_mul-result-3 c =
    let o = offset-low _ c.requires.k_bound in omega (arith, o.0, o.1, c.requires.row_in.axis<, c.index_of.ensures.upper_bound)

pub overflow_add-result : goal.overflow_add-result
overflow_add-result c =
    let o = offset-low _ c.requires.k_bound in omega (arith, o.0, o.1, c.requires.row_in.axis<, c.index_of.ensures.upper_bound)

pub overflow_add-result-2 : goal.overflow_add-result-2
overflow_add-result-2 c =
    let o = offset-low _ c.requires.k_bound in omega (arith, o.0, o.1, c.requires.row_in.axis<, c.index_of.ensures.upper_bound)

pub overflow_add-result-3 : goal.overflow_add-result-3
overflow_add-result-3 c =
    let o = offset-low _ c.requires.k_bound in omega (arith, o.0, o.1, c.requires.row_in.axis<, c.index_of.ensures.upper_bound)

pub offset_bounds-w-index_of : goal.offset_bounds-w-index_of
offset_bounds-w-index_of c =
    let o = offset-low _ c.requires.k_bound in omega (arith, o.0, o.1, c.requires.row_in.axis<, c.index_of.ensures.upper_bound)

pub bounds-w-index_of : goal.bounds-w-index_of
bounds-w-index_of c =
    let o = offset-low _ c.requires.k_bound in
    slot-in _ _ _ o.0 o.1 _ c.requires.all_numbered (row-inner _ c.requires.row_in c.requires.j_bound) c.place_on-c.ensures c.index_of.ensures.value

pub returns : goal.returns
returns c =
    let o = offset-low _ c.requires.k_bound in
    slot_read _ _ _ o.0 o.1 _ c.requires.all_numbered (row-inner _ c.requires.row_in c.requires.j_bound) c.requires.axis_value c.place_on-c.ensures c.index_of.ensures.value

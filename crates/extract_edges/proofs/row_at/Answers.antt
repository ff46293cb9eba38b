-- `extract_edges::row_at` meets its contract. Assumes nothing.
use native.Mathlib.Omega.{arith}
use Rattle.extract_edges.proofs.Rows.{row-places, first-within, row_made}
use Rattle.extract_edges.proofs.row_at.Goals as goal

pub overflow_sub-q : goal.overflow_sub-q
overflow_sub-q c = let R = row-places _ _ c.requires.r_bound in omega (arith, R.n>, R.b<)

pub nonzero_div-q : goal.nonzero_div-q
nonzero_div-q c = let R = row-places _ _ c.requires.r_bound in omega (arith, R.n>, R.b<)

pub nonzero_div-axis : goal.nonzero_div-axis
nonzero_div-axis c = let R = row-places _ _ c.requires.r_bound in omega (arith, R.n>, R.b<)

pub nonzero_rem-a : goal.nonzero_rem-a
nonzero_rem-a c = let R = row-places _ _ c.requires.r_bound in omega (arith, R.n>, R.b<)

pub overflow_sub-b : goal.overflow_sub-b
overflow_sub-b c = let R = row-places _ _ c.requires.r_bound in omega (arith, R.n>, R.b<)

pub nonzero_rem-b : goal.nonzero_rem-b
nonzero_rem-b c = let R = row-places _ _ c.requires.r_bound in omega (arith, R.n>, R.b<)

pub overflow_add-b : goal.overflow_add-b
overflow_add-b c = let R = row-places _ _ c.requires.r_bound in omega (arith, R.n>, R.b<)

pub index_of-requires : goal.index_of-requires
index_of-requires c =
    record { n_bound = omega (arith, c.requires.n_bound); within = first-within _ _ c.requires.n_bound (row-places _ _ c.requires.r_bound) c.place_on-c.ensures }

pub stride-requires : goal.stride-requires
stride-requires c = omega (arith, c.requires.n_bound)

pub overflow_add-axis : goal.overflow_add-axis
overflow_add-axis c = let R = row-places _ _ c.requires.r_bound in omega (arith, R.axis<)

pub stride-requires-2 : goal.stride-requires-2
stride-requires-2 c = omega (arith, c.requires.n_bound)

pub returns : goal.returns
returns c =
    row_made _ _ c.requires.n_bound (row-places _ _ c.requires.r_bound) c.place_on-c.ensures c.requires.r_bound _ _ _ c.index_of.ensures.value c.stride.ensures c.stride-2.ensures

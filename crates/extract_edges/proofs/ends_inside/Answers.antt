-- `extract_edges::ends_inside` meets its contract. Assumes nothing.
use native.Mathlib.Omega.{arith}
use Rattle.extract_edges.proofs.Rows.{sample-room, end_read}
use Rattle.extract_edges.proofs.ends_inside.Goals as goal

pub overflow_mul-result : goal.overflow_mul-result
overflow_mul-result c =
    let s = sample-room c.requires.row_in _ c.requires.j_bound c.requires.samples in omega (arith, s.small)

pub overflow_add-result : goal.overflow_add-result
overflow_add-result c =
    let s = sample-room c.requires.row_in _ c.requires.j_bound c.requires.samples in omega (arith, s.small)

pub overflow_add-result-2 : goal.overflow_add-result-2
overflow_add-result-2 c =
    let s = sample-room c.requires.row_in _ c.requires.j_bound c.requires.samples in omega (arith, s.small)

pub offset_bounds-samples-row : goal.offset_bounds-samples-row
offset_bounds-samples-row c =
    let s = sample-room c.requires.row_in _ c.requires.j_bound c.requires.samples in omega (arith, s.small)

pub bounds-samples-row : goal.bounds-samples-row
bounds-samples-row c = (sample-room c.requires.row_in _ c.requires.j_bound c.requires.samples).end<

pub returns : goal.returns
returns c = end_read c.requires.row_in _ c.requires.j_bound c.requires.samples

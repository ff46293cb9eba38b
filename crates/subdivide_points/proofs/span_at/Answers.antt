-- `subdivide_points::span_at` meets its contract. Assumes nothing.
use native.Mathlib.Omega.{arith}
use Rattle.incidence.proofs.Marks.{around}
use Rattle.subdivide_points.proofs.Turns.{span_of}
use Rattle.subdivide_points.proofs.span_at.Goals as goal

pub overflow_add-result : goal.overflow_add-result
overflow_add-result c =
    let A = around c.requires.incident c.requires.v_lt_np in omega (arith, c.at-s.ensures, A.s≤, A.e≤, A.fits)

pub overflow_add-result-2 : goal.overflow_add-result-2
overflow_add-result-2 c =
    let A = around c.requires.incident c.requires.v_lt_np in omega (arith, c.at-e.ensures, A.e≤, A.fits)

pub slice_bounds-result-start : goal.slice_bounds-result-start
slice_bounds-result-start c =
    let A = around c.requires.incident c.requires.v_lt_np in omega (arith, c.at-s.ensures, A.s≤, A.e≤, A.fits)

pub slice_bounds-result-count : goal.slice_bounds-result-count
slice_bounds-result-count c =
    let A = around c.requires.incident c.requires.v_lt_np in omega (arith, c.at-s.ensures, c.at-e.ensures, A.s≤)

pub slice_bounds-result-end : goal.slice_bounds-result-end
slice_bounds-result-end c =
    let A = around c.requires.incident c.requires.v_lt_np in omega (arith, c.at-e.ensures, A.e≤, A.fits)

pub returns : goal.returns
returns c = span_of _ _ c.requires.incident c.requires.v_lt_np c.at-s.ensures c.at-e.ensures

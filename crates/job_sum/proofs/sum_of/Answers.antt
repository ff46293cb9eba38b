-- `job_sum::sum_of` meets its contract. Assumes nothing.
use native.Mathlib.Omega.{arith}
use Prim.Native.Nat.{◌*◌}
use mathlib.Core.Path.{sym}
use lib.Seq.{length-take-le}
use Rattle.job_sum.proofs.Counting.{front-zeros, front-sum, front_kept}
use Rattle.job_sum.proofs.sum_of.Goals as goal

pub slice_bounds-squared_sum-end : goal.slice_bounds-squared_sum-end
slice_bounds-squared_sum-end c = sym (length-take-le _ _ c.requires.quads_in_bounds)

pub slice_bounds-squared_sum-end-3 : goal.slice_bounds-squared_sum-end-3
slice_bounds-squared_sum-end-3 c = sym (length-take-le _ _ c.requires.points_in_bounds)

pub squared_sum-requires : goal.squared_sum-requires
squared_sum-requires c =
    let q = length-take-le (4 * c.args.c.quads) c.args.quads.now c.requires.quads_in_bounds in
    let l = length-take-le c.args.c.points c.args.work.now c.requires.points_in_bounds in
    record { nq_le_limit = c.requires.few.quads≤; nq_in_bounds = omega (arith, q); counts_len_bound = omega (arith, l, c.requires.few.points≤); counts_value = front-zeros c.args.c.points c.args.work.now c.requires.work_value }

pub returns : goal.returns
returns c =
    record { value = front-sum c.args.c.points c.args.work.now _ c.requires.points_in_bounds c.squared_sum.ensures.value; work_unchanged = front_kept c.args.c.points c.args.work.now c.squared_sum.ensures.counts_unchanged }

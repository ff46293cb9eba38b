use native.Mathlib.Omega.{arith}
use native.Mathlib.Nat.{mul-le-mul_right}
use Prim.Native.Nat.{◌*◌, ◌≤◌}
use Rattle.extract_points.proofs.Counts.{cube-small}
use Rattle.extract_points.proofs.Cells.{drawn-start, cell-paths, place-room, drawn-turn, drawn-end}
use Rattle.extract_points.proofs.draw_points.Goals as goal

pub overflow_mul-e-end : goal.overflow_mul-e-end
overflow_mul-e-end c =
    let b : c.args.n * c.args.n ≤ 130 * c.args.n = mul-le-mul_right c.args.n (omega arith) in
    omega arith

pub overflow_mul-e-end-2 : goal.overflow_mul-e-end-2
overflow_mul-e-end-2 c =
    let b = cube-small c.args.n (omega arith) in
    omega arith

pub loop-e-init : goal.loop-e-init
loop-e-init c = drawn-start _ _ _ _

pub draw_cell_at-place-requires : goal.draw_cell_at-place-requires
draw_cell_at-place-requires c =
    let r = place-room c.loop-e.invariant c.loop-e-test.true in
    record { samples = c.requires.samples; e_bound = c.loop-e-test.true; cell_paths = cell-paths c.loop-e.invariant c.loop-e-test.true c.requires.pathed c.loop-e.auto.w; place_bound = omega (arith, c.requires.n_len_bound); place_value = c.loop-e.invariant.place_is; e_in_bounds = omega (arith, c.requires.n_in_bounds) }

pub loop-e-preserved : goal.loop-e-preserved
loop-e-preserved c =
    drawn-turn c.loop-e.invariant c.loop-e-test.true (c.draw_cell_at-place.ensures.value, (c.draw_cell_at-place.ensures.out_after, c.draw_cell_at-place.ensures.numbered))

pub returns : goal.returns
returns c =
    let the_pair = drawn-end c.loop-e.invariant (omega arith) c.requires.pathed c.loop-e.auto.w c.requires.n_in_bounds in record { value = the_pair.0; front = the_pair.1.0; all_numbered = the_pair.1.1 }

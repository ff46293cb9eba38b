-- `subdivide_points::end_at` meets its contract. Assumes nothing.
use native.Mathlib.Omega.{arith}
use Rattle.subdivide_points.proofs.Sums.{below_at}
use Rattle.subdivide_points.proofs.Pairs.{smaller-from, smaller-to, larger-from, larger-to, end-even, end-odd}
use Rattle.subdivide_points.proofs.end_at.Goals as goal

pub offset_bounds-quads-c : goal.offset_bounds-quads-c
offset_bounds-quads-c c =
    let h = below_at _ _ c.requires.below c.requires.i_bound c.at-c.ensures in omega (arith, c.requires.nq_in_bounds)

pub bounds-quads-c : goal.bounds-quads-c
bounds-quads-c c =
    let h = below_at _ _ c.requires.below c.requires.i_bound c.at-c.ensures in omega (arith, c.requires.nq_in_bounds)

pub overflow_add-b : goal.overflow_add-b
overflow_add-b c =
    let h = below_at _ _ c.requires.below c.requires.i_bound c.at-c.ensures in omega (arith, c.requires.nq_in_bounds)

pub overflow_add-b-2 : goal.overflow_add-b-2
overflow_add-b-2 c =
    let h = below_at _ _ c.requires.below c.requires.i_bound c.at-c.ensures in omega (arith, c.requires.nq_in_bounds)

pub offset_bounds-quads-c-2 : goal.offset_bounds-quads-c-2
offset_bounds-quads-c-2 c =
    let h = below_at _ _ c.requires.below c.requires.i_bound c.at-c.ensures in omega (arith, c.requires.nq_in_bounds)

pub bounds-quads-c-2 : goal.bounds-quads-c-2
bounds-quads-c-2 c =
    let h = below_at _ _ c.requires.below c.requires.i_bound c.at-c.ensures in omega (arith, c.requires.nq_in_bounds)

pub returns-then-a-b : goal.returns-then-a-b
returns-then-a-b c =
    end-even c.args.nq c.args.quads.now c.args.i _ c.requires.below c.requires.i_bound c.at-c.ensures _ (omega arith) (smaller-from c.args.quads.now _ (omega arith))

pub returns-else-a-b : goal.returns-else-a-b
returns-else-a-b c =
    end-even c.args.nq c.args.quads.now c.args.i _ c.requires.below c.requires.i_bound c.at-c.ensures _ (omega arith) (smaller-to c.args.quads.now _ (omega arith))

pub returns-then-a-b-2 : goal.returns-then-a-b-2
returns-then-a-b-2 c =
    end-odd c.args.nq c.args.quads.now c.args.i _ c.requires.below c.requires.i_bound c.at-c.ensures _ (λ e. omega arith) (larger-to c.args.quads.now _ (omega arith))

pub returns-else-a-b-2 : goal.returns-else-a-b-2
returns-else-a-b-2 c =
    end-odd c.args.nq c.args.quads.now c.args.i _ c.requires.below c.requires.i_bound c.at-c.ensures _ (λ e. omega arith) (larger-from c.args.quads.now _ (omega arith))

-- `extract_paths::source` meets its contract. Assumes nothing.
use native.Mathlib.Omega.{arith}
use Rattle.extract_paths.specs.Paths.{source_of}
use Rattle.extract_paths.proofs.Slots.{cell-number, stride-room}
use Prim.Native.Nat.{◌/◌, ◌%◌}
use lib.Dec.{eqb}
use Rattle.extract_paths.proofs.source.Goals as goal

pub overflow_add-result : goal.overflow_add-result
overflow_add-result c = let n = cell-number c.requires.cell_at in omega arith

pub stride-requires : goal.stride-requires
stride-requires c = omega (arith, c.requires.cell_at.n≤)

pub overflow_mul-result : goal.overflow_mul-result
overflow_mul-result c =
    let n = cell-number c.requires.cell_at in let s = stride-room _ _ _ (eqb (c.args.j / 2 % 2) 0) c.requires.cell_at (omega arith) c.if-j-along.true c.along.ensures c.stride.ensures in omega arith

pub overflow_sub-result : goal.overflow_sub-result
overflow_sub-result c =
    let s = stride-room _ _ _ (eqb (c.args.j / 2 % 2) 0) c.requires.cell_at (omega arith) c.if-j-along.true c.along.ensures c.stride.ensures in omega arith

pub returns-then-j-along : goal.returns-then-j-along
unfolding source_of
returns-then-j-along c = rw (← c.along.ensures, c.if-j-along.true, c.stride.ensures)

pub overflow_add-result-then-j-along-2 : goal.overflow_add-result-then-j-along-2
overflow_add-result-then-j-along-2 c = let n = cell-number c.requires.cell_at in omega arith

pub stride-requires-then-j-along-2 : goal.stride-requires-then-j-along-2
stride-requires-then-j-along-2 c = omega (arith, c.requires.cell_at.n≤)

pub overflow_mul-result-then-j-along-2 : goal.overflow_mul-result-then-j-along-2
overflow_mul-result-then-j-along-2 c =
    let n = cell-number c.requires.cell_at in let s = stride-room _ _ _ (eqb (c.args.j % 2) 0) c.requires.cell_at (omega arith) c.if-j-along-2.true c.along-2.ensures c.stride-then-j-along-2.ensures in omega arith

pub overflow_sub-result-then-j-along-2 : goal.overflow_sub-result-then-j-along-2
overflow_sub-result-then-j-along-2 c =
    let s = stride-room _ _ _ (eqb (c.args.j % 2) 0) c.requires.cell_at (omega arith) c.if-j-along-2.true c.along-2.ensures c.stride-then-j-along-2.ensures in omega arith

pub returns-then-j-along-2 : goal.returns-then-j-along-2
unfolding source_of
returns-then-j-along-2 c =
    rw (← c.along.ensures, c.if-j-along.false, ← c.along-2.ensures, c.if-j-along-2.true, c.stride-then-j-along-2.ensures)

pub returns : goal.returns
unfolding source_of
returns c = rw (← c.along.ensures, c.if-j-along.false, ← c.along-2.ensures, c.if-j-along-2.false)

-- `rows_quads::corner_for` meets its contract. Assumes nothing.
use native.Mathlib.Omega.{arith}
use Rattle.rows_quads.proofs.Strips.{key-from, corner-copied, corner-kept}
use Rattle.rows_quads.proofs.corner_for.Goals as goal

pub at-requires : goal.at-requires
at-requires c = omega (arith, c.requires.gathered.sheet.held.cornered.quads, c.requires.c_bound)

pub overflow_mul-k : goal.overflow_mul-k
overflow_mul-k c =
    omega (arith, c.requires.gathered.sheet.few, c.at.ensures, c.requires.gathered.sheet.held.cornered.points _ c.requires.c_bound)

pub byte_at-requires : goal.byte_at-requires
byte_at-requires c = omega (arith, c.requires.gathered.sheet.labelled, c.requires.c_bound)

pub overflow_add-k : goal.overflow_add-k
overflow_add-k c =
    omega (arith, c.requires.gathered.sheet.few, key-from c.requires.gathered _ _ _ c.requires.c_bound c.at.ensures c.byte_at.ensures)

pub is_copied-requires : goal.is_copied-requires
is_copied-requires c =
    record { k_bound = (key-from c.requires.gathered _ _ _ c.requires.c_bound c.at.ensures c.byte_at.ensures).1.1; np_in_bounds = c.requires.gathered.work.numbered.masks.fits }

pub overflow_add-result : goal.overflow_add-result
overflow_add-result c =
    omega (arith, c.requires.gathered.sheet.few, c.requires.gathered.work.numbered.numbers.fits, key-from c.requires.gathered _ _ _ c.requires.c_bound c.at.ensures c.byte_at.ensures)

pub offset_bounds-w-n : goal.offset_bounds-w-n
offset_bounds-w-n c =
    omega (arith, c.requires.gathered.sheet.few, c.requires.gathered.work.numbered.numbers.fits, key-from c.requires.gathered _ _ _ c.requires.c_bound c.at.ensures c.byte_at.ensures)

pub bounds-w-n : goal.bounds-w-n
bounds-w-n c =
    omega (arith, c.requires.gathered.work.numbered.numbers.fits, key-from c.requires.gathered _ _ _ c.requires.c_bound c.at.ensures c.byte_at.ensures)

pub returns-then-is_copied : goal.returns-then-is_copied
returns-then-is_copied c =
    corner-copied c.requires.gathered _ _ _ _ c.requires.c_bound c.at.ensures c.byte_at.ensures c.is_copied.ensures c.if-is_copied.true

pub bounds-quads-c : goal.bounds-quads-c
bounds-quads-c c = omega (arith, c.requires.gathered.sheet.held.cornered.quads, c.requires.c_bound)

pub returns : goal.returns
returns c =
    corner-kept c.requires.gathered _ _ _ _ c.requires.c_bound c.at.ensures c.byte_at.ensures c.is_copied.ensures c.if-is_copied.false

-- `rows_quads::put_strip` meets its contract. Assumes nothing.
use native.Mathlib.Omega.{arith}
use Rattle.rows_quads.proofs.Strips.{key-from, key-to, strip-read}
use mathlib.Core.Path.{refl}
use Rattle.rows_quads.proofs.put_strip.Goals as goal

pub byte_at-l-requires : goal.byte_at-l-requires
byte_at-l-requires c = omega (arith, c.requires.gathered.sheet.labelled, c.requires.c_bound)

pub bounds-quads-c : goal.bounds-quads-c
bounds-quads-c c = omega (arith, c.requires.gathered.sheet.held.cornered.quads, c.requires.c_bound)

pub overflow_mul-b : goal.overflow_mul-b
overflow_mul-b c = omega (arith, c.requires.gathered.sheet.held.cornered.few, c.requires.c_bound)

pub overflow_add-b : goal.overflow_add-b
overflow_add-b c = omega (arith, c.requires.gathered.sheet.held.cornered.few, c.requires.c_bound)

pub overflow_add-b-2 : goal.overflow_add-b-2
overflow_add-b-2 c = omega (arith, c.requires.gathered.sheet.held.cornered.few, c.requires.c_bound)

pub bounds-quads-c-2 : goal.bounds-quads-c-2
bounds-quads-c-2 c = omega (arith, c.requires.gathered.sheet.held.cornered.quads, c.requires.c_bound)

pub overflow_cast-e : goal.overflow_cast-e
overflow_cast-e c =
    omega (arith, c.requires.gathered.sheet.few, key-to c.requires.gathered _ _ _ c.requires.c_bound refl c.byte_at-l.ensures)

pub overflow_mul-e : goal.overflow_mul-e
overflow_mul-e c =
    omega (arith, c.requires.gathered.sheet.few, key-to c.requires.gathered _ _ _ c.requires.c_bound refl c.byte_at-l.ensures)

pub overflow_add-e : goal.overflow_add-e
overflow_add-e c =
    omega (arith, c.requires.gathered.sheet.few, c.requires.gathered.work.numbered.numbers.fits, key-to c.requires.gathered _ _ _ c.requires.c_bound refl c.byte_at-l.ensures)

pub overflow_add-e-2 : goal.overflow_add-e-2
overflow_add-e-2 c =
    omega (arith, c.requires.gathered.sheet.few, c.requires.gathered.work.numbered.numbers.fits, key-to c.requires.gathered _ _ _ c.requires.c_bound refl c.byte_at-l.ensures)

pub offset_bounds-w-num : goal.offset_bounds-w-num
offset_bounds-w-num c =
    omega (arith, c.requires.gathered.sheet.few, c.requires.gathered.work.numbered.numbers.fits, key-to c.requires.gathered _ _ _ c.requires.c_bound refl c.byte_at-l.ensures)

pub bounds-w-num : goal.bounds-w-num
bounds-w-num c =
    omega (arith, c.requires.gathered.work.numbered.numbers.fits, key-to c.requires.gathered _ _ _ c.requires.c_bound refl c.byte_at-l.ensures)

pub overflow_cast-f : goal.overflow_cast-f
overflow_cast-f c =
    omega (arith, c.requires.gathered.sheet.few, key-from c.requires.gathered _ _ _ c.requires.c_bound refl c.byte_at-l.ensures)

pub overflow_mul-f : goal.overflow_mul-f
overflow_mul-f c =
    omega (arith, c.requires.gathered.sheet.few, key-from c.requires.gathered _ _ _ c.requires.c_bound refl c.byte_at-l.ensures)

pub overflow_add-f : goal.overflow_add-f
overflow_add-f c =
    omega (arith, c.requires.gathered.sheet.few, c.requires.gathered.work.numbered.numbers.fits, key-from c.requires.gathered _ _ _ c.requires.c_bound refl c.byte_at-l.ensures)

pub overflow_add-f-2 : goal.overflow_add-f-2
overflow_add-f-2 c =
    omega (arith, c.requires.gathered.sheet.few, c.requires.gathered.work.numbered.numbers.fits, key-from c.requires.gathered _ _ _ c.requires.c_bound refl c.byte_at-l.ensures)

pub offset_bounds-w-num-2 : goal.offset_bounds-w-num-2
offset_bounds-w-num-2 c =
    omega (arith, c.requires.gathered.sheet.few, c.requires.gathered.work.numbered.numbers.fits, key-from c.requires.gathered _ _ _ c.requires.c_bound refl c.byte_at-l.ensures)

pub bounds-w-num-2 : goal.bounds-w-num-2
bounds-w-num-2 c =
    omega (arith, c.requires.gathered.work.numbered.numbers.fits, key-from c.requires.gathered _ _ _ c.requires.c_bound refl c.byte_at-l.ensures)

pub put_quad-requires : goal.put_quad-requires
put_quad-requires c = c.requires.i_in_bounds

pub shape_of-out : goal.shape_of-out
shape_of-out c = c.put_quad.auto.quads

pub returns : goal.returns
returns c =
    strip-read c.requires.gathered _ c.args.i _ c.args.out.now _ c.requires.c_bound c.byte_at-l.ensures c.put_quad.ensures

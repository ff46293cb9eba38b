-- `rows_copies::put_copy` meets its contract. Assumes nothing.
use native.Mathlib.Omega.{arith}
use Rattle.rows_copies.proofs.Put.{put-none, put-fails, put-found, number-room}
use Rattle.rows_gather.proofs.Numbers.{number_read}
use Rattle.rows_copies.proofs.put_copy.Goals as goal

pub is_copied-requires : goal.is_copied-requires
is_copied-requires c =
    record { k_bound = c.requires.k_bound; np_in_bounds = c.requires.gathered.work.numbered.masks.fits }

pub copy_at-r-requires : goal.copy_at-r-requires
copy_at-r-requires c =
    record { len_value = c.requires.len_value; labelled = c.requires.gathered.sheet; incident = c.requires.gathered.work.corners; k_bound = c.requires.k_bound }

pub returns-in_default : goal.returns-in_default
returns-in_default c =
    let the_pair = put-fails _ _ _ _ _ _ _ _ _ _ _ _ c.is_copied.ensures c.if-is_copied.true c.copy_at-r.ensures c.in_default.is in record { value = the_pair.0; out_after = the_pair.1 }

pub overflow_mul-n-then-is_copied : goal.overflow_mul-n-then-is_copied
overflow_mul-n-then-is_copied c =
    omega (arith, c.requires.gathered.work.numbered.numbers.fits, c.requires.gathered.sheet.few, c.requires.gathered.sheet.held.cornered.few)

pub overflow_add-n-then-is_copied : goal.overflow_add-n-then-is_copied
overflow_add-n-then-is_copied c =
    omega (arith, c.requires.gathered.work.numbered.numbers.fits, c.requires.k_bound, c.requires.gathered.sheet.few, c.requires.gathered.sheet.held.cornered.few)

pub at-requires : goal.at-requires
at-requires c = omega (arith, c.requires.gathered.work.numbered.numbers.fits, c.requires.k_bound)

pub put_point-requires : goal.put_point-requires
put_point-requires c =
    number-room _ _ _ _ _ _ c.is_copied.ensures c.if-is_copied.true c.requires.k_bound (number_read _ _ _ _ _ _ c.requires.gathered.work.numbered.numbers c.requires.k_bound c.at.ensures) c.requires.w_in_bounds

pub shape_of-out-then-is_copied : goal.shape_of-out-then-is_copied
shape_of-out-then-is_copied c = c.put_point.auto.points

pub returns-then-is_copied : goal.returns-then-is_copied
returns-then-is_copied c =
    let the_pair = put-found _ _ _ _ _ _ _ _ _ _ _ _ _ _ c.is_copied.ensures c.if-is_copied.true c.copy_at-r.ensures c.in-Some.is (number_read _ _ _ _ _ _ c.requires.gathered.work.numbered.numbers c.requires.k_bound c.at.ensures) c.put_point.ensures in record { value = the_pair.0; out_after = the_pair.1 }

pub returns : goal.returns
returns c =
    let the_pair = put-none _ _ _ _ _ _ _ _ _ _ c.is_copied.ensures c.if-is_copied.false in record { value = the_pair.0; out_after = the_pair.1 }

-- `coarsen_merge::shares_none` meets its contract. Assumes nothing.
use native.Mathlib.Omega.{arith}
use Rattle.coarsen_merge.proofs.Start.{ends_at}
use mathlib.Core.Path.{refl}
use Rattle.coarsen_merge.proofs.shares_none.Goals as goal

pub overflow_mul-was : goal.overflow_mul-was
overflow_mul-was c = omega arith

pub overflow_mul-c : goal.overflow_mul-c
overflow_mul-c c = omega arith

pub overflow_add-c : goal.overflow_add-c
overflow_add-c c = omega arith

pub overflow_add-c-2 : goal.overflow_add-c-2
overflow_add-c-2 c = omega arith

pub overflow_add-was-2 : goal.overflow_add-was-2
overflow_add-was-2 c = omega arith

pub at-x-requires : goal.at-x-requires
at-x-requires c = (ends_at _ c.requires.start_holds c.requires.c_bound).in_before

pub overflow_mul-c-2 : goal.overflow_mul-c-2
overflow_mul-c-2 c = omega arith

pub overflow_add-c-3 : goal.overflow_add-c-3
overflow_add-c-3 c = omega arith

pub overflow_add-c-4 : goal.overflow_add-c-4
overflow_add-c-4 c = omega arith

pub overflow_add-was-3 : goal.overflow_add-was-3
overflow_add-was-3 c = omega arith

pub at-y-requires : goal.at-y-requires
at-y-requires c = (ends_at _ c.requires.start_holds c.requires.c_bound).in_to

pub apart_from-requires : goal.apart_from-requires
apart_from-requires c =
    let t = ends_at _ c.requires.start_holds c.requires.c_bound in
    record { start_holds = c.requires.start_holds; v_lt_np = c.requires.v_lt_np; x_lt_np = rw (c.at-x.ensures, t.before_is) t.before< }

pub apart_from-requires-2 : goal.apart_from-requires-2
apart_from-requires-2 c =
    let t = ends_at _ c.requires.start_holds c.requires.c_bound in
    record { start_holds = c.requires.start_holds; v_lt_np = c.requires.v_lt_np; x_lt_np = rw (c.at-y.ensures, t.to_is) t.to< }

pub returns : goal.returns
returns c =
    let t = ends_at _ c.requires.start_holds c.requires.c_bound in rw (c.apart_from-2.ensures, c.apart_from.ensures, c.at-y.ensures, c.at-x.ensures, t.before_is, t.to_is) refl

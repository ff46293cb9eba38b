-- `coarsen_merge::corner_free` meets its contract. Assumes nothing.
use native.Mathlib.Omega.{arith}
use Rattle.coarsen_merge.proofs.Corners.{within}
use mathlib.Core.Path.{refl}
use Rattle.coarsen_merge.proofs.corner_free.Goals as goal

pub corner_at-requires : goal.corner_at-requires
corner_at-requires c = (within _ _ c.requires.cornered c.requires.q_lt_nq c.requires.j_bound).room

pub at-requires : goal.at-requires
at-requires c =
    let t = within _ _ c.requires.cornered c.requires.q_lt_nq c.requires.j_bound in omega arith

pub returns : goal.returns
returns c = rw (c.at.ensures, c.corner_at.ensures) refl

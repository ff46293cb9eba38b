-- `coarsen_merge::sums_of` meets its contract. Assumes nothing.
use native.Mathlib.Omega.{arith}
use mathlib.Core.Path.{refl}
use Rattle.coarsen_merge.specs.Steps.{sum_of_four, sum_of_three, gain_of}
use Rattle.coarsen_merge.proofs.Start.{few_quads}
use Rattle.coarsen_merge.proofs.sums_of.Goals as goal

pub valence_at-va-requires : goal.valence_at-va-requires
valence_at-va-requires c = record { start_holds = c.requires.start_holds; v_lt_np = c.requires.face_asks.a< }

pub valence_at-vb-requires : goal.valence_at-vb-requires
valence_at-vb-requires c = record { start_holds = c.requires.start_holds; v_lt_np = c.requires.face_asks.b< }

pub valence_at-vc-requires : goal.valence_at-vc-requires
valence_at-vc-requires c = record { start_holds = c.requires.start_holds; v_lt_np = c.requires.face_asks.c< }

pub valence_at-vd-requires : goal.valence_at-vd-requires
valence_at-vd-requires c = record { start_holds = c.requires.start_holds; v_lt_np = c.requires.face_asks.d< }

pub sum_before-before-requires : goal.sum_before-before-requires
sum_before-before-requires c =
    rw (c.valence_at-vd.ensures, c.valence_at-vc.ensures, c.valence_at-vb.ensures, c.valence_at-va.ensures) (few_quads c.requires.start_holds c.requires.face_asks)

pub sum_after-after-requires : goal.sum_after-after-requires
sum_after-after-requires c =
    record { d_bound = simp (c.valence_at-vd.ensures, c.valence_at-vc.ensures, c.valence_at-vb.ensures, c.valence_at-va.ensures) (few_quads c.requires.start_holds c.requires.face_asks); bound = simp (c.valence_at-vd.ensures, c.valence_at-vc.ensures, c.valence_at-vb.ensures, c.valence_at-va.ensures) (omega arith); le_b = simp (c.valence_at-vd.ensures, c.valence_at-vc.ensures, c.valence_at-vb.ensures, c.valence_at-va.ensures) c.requires.face_asks.at_b; le_d = simp (c.valence_at-vd.ensures, c.valence_at-vc.ensures, c.valence_at-vb.ensures, c.valence_at-va.ensures) c.requires.face_asks.at_d }

pub returns : goal.returns
unfolding gain_of sum_of_four sum_of_three
returns c =
    rw (c.sum_after-after.ensures, c.sum_before-before.ensures, c.valence_at-vd.ensures, c.valence_at-vc.ensures, c.valence_at-vb.ensures, c.valence_at-va.ensures) refl

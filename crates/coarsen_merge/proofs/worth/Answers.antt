-- `coarsen_merge::worth` meets its contract. Assumes nothing.
use Rattle.coarsen_merge.proofs.Start.{worth-is}
use Rattle.coarsen_merge.proofs.worth.Goals as goal

pub valence_at-vb-requires : goal.valence_at-vb-requires
valence_at-vb-requires c = record { start_holds = c.requires.start_holds; v_lt_np = c.requires.face_asks.b< }

pub valence_at-vd-requires : goal.valence_at-vd-requires
valence_at-vd-requires c = record { start_holds = c.requires.start_holds; v_lt_np = c.requires.face_asks.d< }

pub returns : goal.returns
returns c =
    worth-is c.args.np c.args.nq c.args.a c.args.b c.args.c c.args.d c.args.w.now _ _ _ _ c.masks_join.ensures c.valence_at-vb.ensures c.valence_at-vd.ensures c.sums_of-s.ensures

-- `rows_quads::put_quads` meets its contract. Assumes nothing.
use native.Mathlib.Omega.{arith}
use Rattle.lists.proofs.Laws.{length-tab}
use lib.Seq.{length-take-le}
use Rattle.rows_quads.proofs.Strips.{front-behind, end-room}
use Prim.Native.Nat.{◌*◌}
use Rattle.rows_quads.proofs.put_quads.Goals as goal

pub put_copied-requires : goal.put_copied-requires
put_copied-requires c =
    record { gathered = c.requires.gathered; nq_in_bounds = omega (arith, c.requires.m_in_bounds) }

pub put_strips-requires : goal.put_strips-requires
put_strips-requires c =
    record { gathered = c.requires.gathered; m_value = c.requires.m_value; m_in_bounds = end-room (4 * c.args.nq) (4 * c.args.m) c.put_copied.new.out c.args.new_quads.now c.put_copied.auto.out (omega (arith, c.requires.m_in_bounds)) }

pub copy_labels-requires : goal.copy_labels-requires
copy_labels-requires c =
    record { nq_in_bounds = c.requires.gathered.sheet.labelled; nq_in_bounds_2 = omega (arith, c.requires.m_in_bounds_2) }

pub put_strip_labels-requires : goal.put_strip_labels-requires
put_strip_labels-requires c =
    record { gathered = c.requires.gathered; m_value = c.requires.m_value; m_in_bounds = end-room c.args.nq c.args.m c.copy_labels.new.out c.args.new_labels.now c.copy_labels.auto.out c.requires.m_in_bounds_2 }

pub returns : goal.returns
returns c =
    record { front = front-behind _ c.put_copied.ensures (length-tab _ _) c.put_strips.ensures c.put_strips.auto.out; front_2 = front-behind _ c.copy_labels.ensures (length-take-le _ _ c.requires.gathered.sheet.labelled) c.put_strip_labels.ensures c.put_strip_labels.auto.out }

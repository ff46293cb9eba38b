use native.Mathlib.Omega.{arith}
use mathlib.Core.Path.{◌≡◌}
use Rattle.refine.proofs.Loops.{adds-start, own-read, number-room, adds-yes, adds-no}
use Rattle.refine.proofs.put_new.Goals as goal
use Rattle.refine.proofs.put_new.Goals.{then-at-t, else-at-t}

pub loop-t-init : goal.loop-t-init
loop-t-init g c = adds-start _ _ _ _ _

pub place-requires : goal.place-requires
place-requires g c =
    c.requires.placed _ c.loop-t-test.true (own-read c.requires.making c.loop-t-test.true _ c.at.ensures c.if-at-t.true)

pub put_point-requires : goal.put_point-requires
put_point-requires g c =
    let h = number-room c.requires.making c.loop-t-test.true _ c.at-then-at-t.ensures in omega arith

pub loop-t-preserved : goal.loop-t-preserved
loop-t-preserved g c = elim c.if-at-t.branch [
  | then-at-t w ↦ rw w.out-is (adds-yes c.requires.making c.loop-t-test.true c.loop-t.invariant _ _ _ c.at.ensures w.if-at-t.true w.at-then-at-t.ensures c.loop-t.auto.out w.place.ensures w.put_point.ensures)
  | else-at-t w ↦ rw w.out-is (adds-no c.requires.making c.loop-t-test.true c.loop-t.invariant _ c.at.ensures w.if-at-t.false)
]

pub returns : goal.returns
returns g c = let e : c.loop-t.t ≡ c.args.m = omega arith in rw e at c.loop-t.invariant

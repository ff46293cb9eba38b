use native.Mathlib.Omega.{arith}
use mathlib.Core.Path.{◌≡◌, refl}
use Rattle.extract_crossings.proofs.Paths.{replay-step, replay-none}
use Rattle.extract_crossings.proofs.replay.Goals as goal

pub loop-i-init : goal.loop-i-init
loop-i-init c = refl

pub loop-i-preserved : goal.loop-i-preserved
loop-i-preserved c =
    rw (← c.loop-i.invariant, replay-step _ _ _ c.loop-i-test.true, ← c.narrow-s.ensures)

pub returns : goal.returns
returns c =
    let e : c.loop-i.i ≡ 32 = omega arith in
    rw (← c.edge_span-s.ensures, ← c.loop-i.invariant, replay-none _ _ _ e) c.mid.ensures

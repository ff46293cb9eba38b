use native.Mathlib.Omega.{arith}
use mathlib.Core.Path.{ap}
use Prim.Native.Nat.{ℕ, ◌/◌}
use lib.ListN.{get_or}
use Rattle.lists.proofs.Laws.{filled-start, filled-turn}
use Rattle.sheet.proofs.Fronts.{front-filled}
use Rattle.rows_gather.specs.Steps.{seams_of, corner_label}
use Rattle.rows_quads.proofs.Strips.{seam-read, seam-low, map-own}
use Rattle.rows_quads.proofs.put_strip_labels.Goals as goal

pub loop-t-init : goal.loop-t-init
loop-t-init c = filled-start _ _ _ c.requires.m_in_bounds

pub bounds-labels-at : goal.bounds-labels-at
bounds-labels-at c =
    let h = seam-low c.requires.gathered _ _ (omega (arith, c.requires.m_value, c.loop-t-test.true)) c.at.ensures in omega (arith, c.requires.gathered.sheet.labelled)

pub loop-t-preserved : goal.loop-t-preserved
loop-t-preserved c =
    filled-turn _ c.loop-t.invariant c.loop-t-test.true (ap (λ (x : ℕ). get_or c.args.labels.now (x / 4) 0) (seam-read c.requires.gathered _ _ (omega (arith, c.requires.m_value, c.loop-t-test.true)) c.at.ensures))

pub returns : goal.returns
returns c =
    rw (map-own (corner_label c.args.labels.now) (seams_of c.args.np c.args.nq c.args.quads.now c.args.labels.now) c.args.m c.requires.m_value) at (front-filled c.loop-t.invariant (omega arith))

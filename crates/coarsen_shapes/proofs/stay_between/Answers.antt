use native.Mathlib.Omega.{arith}
use mathlib.Core.Path.{◌≡◌, ◌∙◌}
use Rattle.points.specs.Points.{point_at}
use Rattle.coarsen_shapes.specs.MergeFits.{corner_stays}
use Rattle.coarsen_shapes.proofs.Walk.{pass-start, pass-next}
use Rattle.coarsen_shapes.proofs.stay_between.Goals.{After-face_stays}
use Rattle.coarsen_shapes.proofs.stay_between.Goals as goal

-- the quad of the corner that was read
there : (c : After-face_stays) →
    corner_stays c.args.f c.args.len (point_at c.args.points.now) c.args.labels.now c.args.quads.now c.args.m c.args.w.now c.loop-i.i ≡ c.face_stays.result
there c = cc

pub loop-i-init : goal.loop-i-init
loop-i-init c = pass-start _ _

pub loop-i-preserved : goal.loop-i-preserved
loop-i-preserved c =
    pass-next c.loop-i.invariant (there (goal.at.loop-i-preserved c).After-face_stays ∙ c.if-not-face_stays.false)

pub returns-then-not-face_stays : goal.returns-then-not-face_stays
returns-then-not-face_stays c =
    record { low = c.loop-i.auto.i; high = c.loop-i-test.true; before = c.loop-i.invariant.each; falls = there (goal.at.returns-then-not-face_stays c).After-face_stays ∙ c.if-not-face_stays.true }

pub returns : goal.returns
returns c =
    let low = c.requires.corners_in.low in
    let e : c.loop-i.i ≡ c.args.to = omega arith in
    rw e at c.loop-i.invariant

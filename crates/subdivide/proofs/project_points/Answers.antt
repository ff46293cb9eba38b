use native.Mathlib.Omega.{arith}
use mathlib.Core.Path.{sym}
use mathlib.Core.Bool.{true≢false}
use Rattle.subdivide.proofs.Landing.{project-is, landed-start, landed-turn, landed-fails, landed-end}
use Rattle.subdivide.proofs.project_points.Goals as goal

pub loop-v-init : goal.loop-v-init
loop-v-init c = landed-start _ _ _ _

pub overflow_cast-mask : goal.overflow_cast-mask
overflow_cast-mask c = let h = c.requires.masked.low _ c.loop-v-test.true in omega (arith, c.at-mask.ensures)

pub returns-in_default : goal.returns-in_default
returns-in_default c =
    let f = landed-fails c.loop-v.invariant _ _ c.at-mask.ensures (project-is _ _ _ _ _ _ _ c.project-r.ensures c.length-len.ensures c.point_at.ensures) c.loop-v-test.true c.in_default.is in
    record { value = f; front = λ e. absurd (true≢false (sym e)) }

pub loop-v-preserved : goal.loop-v-preserved
loop-v-preserved c =
    landed-turn c.loop-v.invariant _ _ c.at-mask.ensures (project-is _ _ _ _ _ _ _ c.project-r.ensures c.length-len.ensures c.point_at.ensures) _ _ c.loop-v-test.true c.requires.n_in_bounds c.in-Some.is c.put_point.ensures

pub returns : goal.returns
returns c =
    let e = landed-end c.loop-v.invariant (omega arith) in
    record { value = e.0; front = λ q. e.1 }

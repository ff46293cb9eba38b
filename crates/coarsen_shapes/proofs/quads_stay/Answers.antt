-- `coarsen_shapes::quads_stay` meets its contract. Assumes nothing.
use native.Mathlib.Omega.{arith}
use Prim.Native.Nat.{◌+◌, ◌-◌, ◌*◌}
use mathlib.Core.Path.{◌≡◌}
use Rattle.std.proofs.lemmas.Result.{err_from_is_err_and}
use Rattle.lists.specs.Regions.{part, Part}
use Rattle.points.specs.Points.{point_at}
use Rattle.sheet.specs.Edges.{point_corners}
use Rattle.edges.proofs.Maps.{RunAt, point-run}
use Rattle.coarsen_shapes.proofs.Walk.{walk-falls, once-round, quads-as-lent, run-part, corners-in}
use Rattle.coarsen_shapes.proofs.quads_stay.Goals.{After-at-next}
use Rattle.coarsen_shapes.proofs.quads_stay.Goals as goal

-- the corners at v
run-here : (c : After-at-next) →
    RunAt c.args.order c.at-first.result c.at-next.result (point_corners (part c.args.was (4 * c.args.nq) c.args.w.now) c.args.nq c.args.v) c.args.w.now
run-here c = point-run _ c.requires.point_map_holds c.requires.v_lt_np c.at-first.ensures c.at-next.ensures

-- their region goes from s to e
corners-here : (c : After-at-next) →
    Part (c.args.order + c.at-first.result) (c.args.order + c.at-next.result - (c.args.order + c.at-first.result)) (point_corners (part c.args.was (4 * c.args.nq) c.args.w.now) c.args.nq c.args.v) c.args.w.now
corners-here c = run-part (run-here c)

end-here : (c : After-at-next) →
    let s = c.args.order + c.at-first.result in
    s + (c.args.order + c.at-next.result - s) ≡ c.args.order + c.at-next.result
end-here c = let r = (run-here c).s≤ in omega arith

pub within-from-requires : goal.within-from-requires
within-from-requires c = let r = run-here c in omega arith

pub stay_between-requires-clause-corners_in : goal.stay_between-requires-clause-corners_in
stay_between-requires-clause-corners_in c =
    let C = (goal.at.stay_between-requires-clause-corners_in c).After-at-next in
    corners-in (part c.args.was (4 * c.args.nq) c.args.w.now) c.args.nq c.args.v _ _ (corners-here C) c.within-from.ensures.lower_bound c.within-from.ensures.upper_bound (omega (arith, end-here C))

pub stay_between-requires-2-clause-corners_in : goal.stay_between-requires-2-clause-corners_in
stay_between-requires-2-clause-corners_in c =
    let C = (goal.at.stay_between-requires-2-clause-corners_in c).After-at-next in
    corners-in (part c.args.was (4 * c.args.nq) c.args.w.now) c.args.nq c.args.v _ _ (corners-here C) (omega arith) c.within-from.ensures.lower_bound (omega (arith, c.within-from.ensures.upper_bound, end-here C))

pub returns-in_err-stay_between-clause-stays_value : goal.returns-in_err-stay_between-clause-stays_value
returns-in_err-stay_between-clause-stays_value c =
    let C = (goal.at.returns-in_err-stay_between-clause-stays_value c).After-at-next in
    let p = err_from_is_err_and c.from_residual.result c.from_residual.ensures.1 in
    rw p.1 (walk-falls c.args.nq c.args.was c.args.v c.args.f c.args.len (point_at c.args.points.now) c.args.labels.now c.args.m (corners-here C) _ _ _ _ (quads-as-lent c.args.nq c.args.was c.args.w.now) c.within-from.ensures.lower_bound (omega (arith, end-here C)) c.in_err-stay_between.ensures)

pub returns-clause-stays_value : goal.returns-clause-stays_value
returns-clause-stays_value c =
    let C = (goal.at.returns-clause-stays_value c).After-at-next in
    once-round c.args.nq c.args.was c.args.v c.args.f c.args.len (point_at c.args.points.now) c.args.labels.now c.args.m (corners-here C) _ c.within-from.result c.stay_between-2.result (quads-as-lent c.args.nq c.args.was c.args.w.now) (omega (arith, c.within-from.ensures.upper_bound, end-here C)) (rw (end-here C) c.in_ok-stay_between.ensures) c.stay_between-2.ensures

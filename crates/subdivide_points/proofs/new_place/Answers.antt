-- `subdivide_points::new_place` meets its contract. Assumes nothing.
use native.Mathlib.Omega.{arith}
use Rattle.subdivide_points.proofs.Turns.{place-centre, place-edge}
use Rattle.subdivide_points.proofs.new_place.Goals as goal

pub returns-then-t-eq4 : goal.returns-then-t-eq4
returns-then-t-eq4 c = place-centre _ _ _ _ _ _ c.if-t-eq4.true c.centre_at.ensures

pub edge_place-requires : goal.edge_place-requires
edge_place-requires c =
    record { positioned = c.requires.positioned; nq_in_bounds = c.requires.nq_in_bounds; c_bound = omega arith; d_bound = omega (arith, c.at-d.ensures, c.requires.t_bound_2 c.if-t-eq4.false) }

pub returns : goal.returns
returns c =
    place-edge _ _ _ _ _ _ _ _ _ c.requires.nq_in_bounds_2 c.requires.t_bound c.if-t-eq4.false c.at-d.ensures c.edge_place.ensures

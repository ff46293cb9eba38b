-- `subdivide_points::edge_place` meets its contract. Assumes nothing.
use native.Mathlib.Omega.{arith}
use Rattle.subdivide_points.proofs.Turns.{edge-low, edge-high, edge-crease, edge-inside, centre-of}
use Rattle.subdivide_points.proofs.edge_place.Goals as goal

pub point_at-a-requires : goal.point_at-a-requires
point_at-a-requires c = edge-low _ _ c.requires.positioned c.requires.c_bound c.key_at.ensures

pub point_at-b-requires : goal.point_at-b-requires
point_at-b-requires c = edge-high _ _ c.requires.positioned c.requires.c_bound c.key_at-2.ensures

pub returns-then-byte_at : goal.returns-then-byte_at
returns-then-byte_at c =
    edge-crease _ _ _ _ _ _ _ _ _ _ _ c.key_at.ensures c.key_at-2.ensures c.point_at-a.ensures c.point_at-b.ensures c.byte_at.ensures c.byte_at-2.ensures _ c.if-byte_at.true c.halfway.ensures

pub centre_at-g-requires : goal.centre_at-g-requires
centre_at-g-requires c = record { positioned = c.requires.positioned; q_lt_nq = omega (arith, c.requires.d_bound) }

pub returns : goal.returns
returns c =
    edge-inside _ _ _ _ _ _ _ _ _ _ _ c.key_at.ensures c.key_at-2.ensures c.point_at-a.ensures c.point_at-b.ensures c.byte_at.ensures c.byte_at-2.ensures _ _ _ c.if-byte_at.false (centre-of _ _ _ _ c.centre_at-f.ensures) (centre-of _ _ _ _ c.centre_at-g.ensures) c.edge_point.ensures

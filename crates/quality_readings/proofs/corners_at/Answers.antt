-- `quality_readings::corners_at` meets its contract. Assumes nothing.
use native.Mathlib.Omega.{arith}
use Rattle.quality_readings.specs.Readings.{corners_at}
use Rattle.quality_readings.proofs.corners_at.Goals as goal

pub corner_point-p0-requires : goal.corner_point-p0-requires
corner_point-p0-requires c = record { j_in_bounds = omega arith; j_in_bounds_2 = c.requires.c0 }

pub corner_point-p1-requires : goal.corner_point-p1-requires
corner_point-p1-requires c = record { j_in_bounds = omega arith; j_in_bounds_2 = c.requires.c1 }

pub corner_point-p2-requires : goal.corner_point-p2-requires
corner_point-p2-requires c = record { j_in_bounds = omega arith; j_in_bounds_2 = c.requires.c2 }

pub corner_point-p3-requires : goal.corner_point-p3-requires
corner_point-p3-requires c = record { j_in_bounds = omega arith; j_in_bounds_2 = c.requires.c3 }

pub returns : goal.returns
unfolding corners_at
returns c = cc

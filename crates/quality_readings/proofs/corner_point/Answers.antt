-- `quality_readings::corner_point` meets its contract. Assumes nothing.
use Rattle.quality_readings.proofs.corner_point.Goals as goal

pub point_at-requires : goal.point_at-requires
point_at-requires c = rw c.corner_at.ensures c.requires.j_in_bounds_2

pub returns : goal.returns
returns c = cc

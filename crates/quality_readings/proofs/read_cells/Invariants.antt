-- `quality_readings::read_cells` meets its contract. Assumes nothing.
use Rattle.quality_readings.specs.Readings.{cell_at}
use Rattle.quality_readings.proofs.Cells.{Reading}
use Rattle.quality_readings.proofs.read_cells.Given as goal

abbrev pub invariant-loop-q : goal.invariant-loop-q
invariant-loop-q l = Reading (cell_at l.f l.len l.points l.quads l.labels) l.n l.initial.floats l.floats l.q

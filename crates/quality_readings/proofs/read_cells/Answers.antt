use native.Mathlib.Omega.{arith}
use Rattle.quality_readings.proofs.Cells.{reading-start, reading-end, read-turn, read-fails}
use Rattle.quality_readings.proofs.read_cells.Goals as goal

pub loop-q-init : goal.loop-q-init
loop-q-init c = reading-start _ _ _ c.requires.floats

pub loop-q-preserved : goal.loop-q-preserved
loop-q-preserved c =
    read-turn _ _ _ _ c.args.labels.now _ _ _ _ _ _ _ c.loop-q.invariant c.loop-q-test.true c.corners_at-p.ensures (c.read_cell.ensures.value, c.read_cell.ensures.floats_after) c.if-not-read_cell.false

pub returns-then-not-read_cell : goal.returns-then-not-read_cell
returns-then-not-read_cell c =
    let the_pair = read-fails _ _ _ _ c.args.labels.now _ _ _ _ _ _ _ c.loop-q.invariant c.loop-q-test.true c.corners_at-p.ensures (c.read_cell.ensures.value, c.read_cell.ensures.floats_after) c.if-not-read_cell.true in record { value = the_pair.0; readings = the_pair.1.0; kept = the_pair.1.1 }

pub returns : goal.returns
returns c =
    let the_pair = reading-end _ _ _ _ _ c.loop-q.invariant (omega arith) in record { value = the_pair.0; readings = the_pair.1.0; kept = the_pair.1.1 }

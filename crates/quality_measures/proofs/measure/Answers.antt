-- `quality_measures::measure` meets its contract. Assumes nothing.
use Rattle.quality_readings.proofs.Cells.{readable}
use Rattle.quality_measures.proofs.Rule.{refused, measured}
use Rattle.quality_measures.proofs.measure.Goals as goal

pub read_cells-requires : goal.read_cells-requires
read_cells-requires c =
    readable c.args.b _ c.args.points.now _ c.args.labels.now c.requires.measurable _ c.requires.quads_in_bounds_2

pub returns-then-read_cells : goal.returns-then-read_cells
returns-then-read_cells c =
    let the_pair = measured _ _ _ _ _ c.requires.measurable _ _ _ _ _ _ _ _ _ c.length-len.ensures c.if-read_cells.true (c.read_cells.ensures.value, (c.read_cells.ensures.readings, c.read_cells.ensures.kept)) (c.sort_scores.ensures.part, (c.sort_scores.ensures.kept, c.sort_scores.ensures.kept_2)) c.summary.ensures in record { value = the_pair.0; kept = the_pair.1.0; kept_2 = the_pair.1.1 }

pub returns : goal.returns
returns c =
    let the_pair = refused _ _ _ _ _ c.requires.measurable _ _ _ _ _ _ c.length-len.ensures c.if-read_cells.false (c.read_cells.ensures.value, (c.read_cells.ensures.readings, c.read_cells.ensures.kept)) in record { value = the_pair.0; kept = the_pair.1.0; kept_2 = the_pair.1.1 }

use native.Mathlib.Omega.{arith}
use Rattle.extract_edges.proofs.Counts.{counted_next, counted-row}
use Rattle.extract_edges.proofs.count_row.Goals as goal

pub row_at-row-requires : goal.row_at-row-requires
row_at-row-requires c = record { n_bound = omega arith; r_bound = c.requires.r_bound }

pub loop-j-init : goal.loop-j-init
loop-j-init c = c.requires.counted

pub count_edge-next-requires : goal.count_edge-next-requires
count_edge-next-requires c =
    record { samples = c.requires.samples; row_at = c.row_at-row.ensures; j_bound = c.loop-j-test.true; counted = c.loop-j.invariant }

pub loop-j-preserved : goal.loop-j-preserved
loop-j-preserved c = counted_next _ _ c.count_edge-next.ensures

pub returns : goal.returns
returns c = counted-row _ _ c.loop-j.invariant (omega arith)

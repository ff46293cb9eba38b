use native.Mathlib.Omega.{arith}
use Rattle.extract_edges.proofs.Counts.{counted_start, counted-all}
use Rattle.extract_edges.proofs.count_quads.Goals as goal

pub loop-r-init : goal.loop-r-init
loop-r-init c = counted_start _ _

pub count_row-count-requires : goal.count_row-count-requires
count_row-count-requires c = record { samples = c.requires; r_bound = omega arith; counted = c.loop-r.invariant }

pub loop-r-preserved : goal.loop-r-preserved
loop-r-preserved c = c.count_row-count.ensures

pub returns : goal.returns
returns c =
    let the_pair = counted-all _ c.loop-r.invariant (omega arith) in record { value = the_pair.0; upper_bound = the_pair.1 }

use native.Mathlib.Omega.{arith}
use Rattle.extract_quads.proofs.Turns.{drawn-next, drawn-row}
use Rattle.extract_quads.proofs.put_row.Goals as goal

pub row_at-row-requires : goal.row_at-row-requires
row_at-row-requires c = record { n_bound = omega arith; r_bound = c.requires.r_bound }

pub loop-j-init : goal.loop-j-init
loop-j-init c = c.requires.drawn

pub put_edge-next-requires : goal.put_edge-next-requires
put_edge-next-requires c =
    record { samples = c.requires.samples; all_numbered = c.requires.all_numbered; row_at = c.row_at-row.ensures; j_bound = c.loop-j-test.true; drawn = c.loop-j.invariant }

pub loop-j-preserved : goal.loop-j-preserved
loop-j-preserved c = drawn-next _ _ c.put_edge-next.ensures

pub returns : goal.returns
returns c = drawn-row _ _ c.loop-j.invariant (omega arith)

use native.Mathlib.Omega.{arith}
use Rattle.extract_quads.proofs.Turns.{drawn-start, drawn-all}
use Rattle.extract_quads.proofs.put_quads.Goals as goal

pub loop-r-init : goal.loop-r-init
loop-r-init c = drawn-start c.requires.n_in_bounds c.requires.n_in_bounds_2

pub put_row-place-requires : goal.put_row-place-requires
put_row-place-requires c =
    record { samples = c.requires.samples; all_numbered = c.requires.all_numbered; r_bound = omega arith; drawn = c.loop-r.invariant }

pub loop-r-preserved : goal.loop-r-preserved
loop-r-preserved c = c.put_row-place.ensures

pub returns : goal.returns
returns c =
    let the_pair = drawn-all _ c.loop-r.invariant (omega arith) in record { front = the_pair.0; front_2 = the_pair.1 }

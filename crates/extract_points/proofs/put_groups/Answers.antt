use native.Mathlib.Omega.{arith}
use Rattle.extract_points.proofs.Putting.{placing-start, placing-room, placing-turn, placing-end}
use Rattle.extract_points.proofs.put_groups.Goals as goal

pub loop-k-init : goal.loop-k-init
loop-k-init c = placing-start _ _ _ _

pub put_group-next-requires : goal.put_group-next-requires
put_group-next-requires c =
    record { cell_at = c.requires.cell_at; cell_paths = c.requires.cell_paths; known = c.requires.known; place_bound = omega (arith, c.requires.place_bound); k_in_bounds = placing-room c.loop-k.invariant c.loop-k-test.true c.loop-k.auto.out c.requires.c_in_bounds }

pub loop-k-preserved : goal.loop-k-preserved
loop-k-preserved c =
    placing-turn c.loop-k.invariant c.put_group-next.ensures.value c.put_group-next.ensures.out_after

pub returns : goal.returns
returns c =
    let the_pair = placing-end c.loop-k.invariant (omega arith) in record { value = the_pair.0; out_after = the_pair.1 }

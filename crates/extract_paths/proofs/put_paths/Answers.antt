use native.Mathlib.Omega.{arith}
use mathlib.Core.Path.{◌≡◌}
use Rattle.extract_paths.proofs.Slots.{pathed-start}
use Rattle.extract_paths.proofs.put_paths.Goals as goal

pub loop-e-init : goal.loop-e-init
loop-e-init c = pathed-start _ _ _

pub put_cell_at-requires : goal.put_cell_at-requires
put_cell_at-requires c =
    record { samples = c.requires.samples; e_bound = omega (arith, c.requires.count_bound); e_in_bounds = omega (arith, c.requires.count_in_bounds); pathed = c.loop-e.invariant }

pub loop-e-preserved : goal.loop-e-preserved
loop-e-preserved c = c.put_cell_at.ensures

pub returns : goal.returns
returns c = let q : c.loop-e.e ≡ c.args.count = omega arith in rw q at c.loop-e.invariant

use native.Mathlib.Omega.{arith}
use Rattle.extract_points.proofs.Counts.{totalling-start, totalling-turn, cube-small}
use mathlib.Core.Path.{◌≡◌, ap, ◌∙◌}
use lib.ListN.{length}
use Rattle.rule_extract.specs.Drawing.{points_to}
use Rattle.extract_points.proofs.count_points.Goals as goal

pub loop-e-init : goal.loop-e-init
loop-e-init c = totalling-start _ _

pub cell_count-total-requires : goal.cell_count-total-requires
cell_count-total-requires c = record { samples = c.requires.samples; e_bound = omega (arith, c.requires.count_bound) }

pub overflow_add-total : goal.overflow_add-total
overflow_add-total c = let s = cube-small c.args.n (omega arith) in omega (arith, c.requires.count_bound)

pub loop-e-preserved : goal.loop-e-preserved
loop-e-preserved c = totalling-turn c.loop-e.invariant c.cell_count-total.ensures.value c.cell_count-total.ensures.upper_bound

pub returns : goal.returns
returns c =
    let e : c.loop-e.e ≡ c.args.count = omega arith in
    record { value = c.loop-e.invariant.is ∙ ap (λ m. length (points_to c.args.g c.args.n m)) e; upper_bound = omega arith }

use native.Mathlib.Omega.{arith}
use Rattle.extract_points.proofs.Numbers.{numbering_start, numbering-turn, numbering-end, path-kept}
use Rattle.extract_paths.proofs.Slots.{cell-kept}
use Rattle.extract_points.proofs.put_numbers.Goals as goal

pub loop-e-init : goal.loop-e-init
loop-e-init c = numbering_start _ _ _ _ _

pub put_number-requires : goal.put_number-requires
put_number-requires c =
    record { cell_at = cell-kept _ _ c.loop-e.auto.w c.requires.cell_at; e_bound = c.loop-e-test.true; known = c.requires.known; first_bound = c.requires.first_bound; e_value = path-kept c.loop-e.invariant c.requires.cell_paths c.loop-e-test.true }

pub loop-e-preserved : goal.loop-e-preserved
loop-e-preserved c =
    numbering-turn c.loop-e.invariant c.loop-e-test.true (omega (arith, c.requires.cell_at.room)) c.requires.known c.requires.cell_at.number c.requires.first_value c.put_number.ensures

pub returns : goal.returns
returns c = numbering-end c.loop-e.invariant (omega arith)

-- `extract_grid::face_centres` meets its contract. Assumes nothing.
use mathlib.Core.Path.{◌≡◌}
use Rattle.rule_sheet.specs.Quads.{pack_to}
use Rattle.extract_grid.specs.Lattice.{centre_bit}
use Rattle.extract_grid.proofs.face_centres.Given as goal

abbrev pub invariant-loop-f : goal.invariant-loop-f
invariant-loop-f l = l.centres ≡ pack_to (centre_bit l.g l.c l.kind) l.f

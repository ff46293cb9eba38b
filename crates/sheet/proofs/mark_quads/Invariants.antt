-- `sheet::mark_quads` meets its contract. Assumes nothing.
use mathlib.Core.Path.{◌≡◌}
use lib.ListN.{length}
use Rattle.lists.specs.Sort.{tabulate}
use Rattle.sheet.specs.Flat.{mask_in}
use Rattle.sheet.proofs.mark_quads.Given as goal

abbrev pub invariant-loop-q : goal.invariant-loop-q
invariant-loop-q l = l.masks ≡ tabulate (mask_in l.quads l.labels l.q) (length l.initial.masks)

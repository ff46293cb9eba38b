-- `rows_copies::centres_at` meets its contract. Assumes nothing.
use Rattle.std.proofs.Common.{◌≡◌, take}
use Rattle.lists.specs.Sort.{keep}
use Rattle.rows_copies.specs.Steps.{of_label, centres_of}
use Rattle.rows_copies.proofs.centres_at.Given as goal

abbrev pub invariant-loop-corner : goal.invariant-loop-corner
invariant-loop-corner l = l.c ≡ centres_of l.points l.quads (keep (of_label l.labels l.l) (take l.corner-index l.corners))

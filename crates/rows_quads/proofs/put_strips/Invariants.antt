-- `rows_quads::put_strips` meets its contract. Assumes nothing.
use lib.ListN.{get_or}
use Rattle.lists.specs.Regions.{part}
use Rattle.lists.specs.Sort.{tabulate}
use Rattle.rule_sheet.specs.Flat.{flat_quads}
use Rattle.sheet.specs.Results.{Front}
use Rattle.rows_gather.specs.Steps.{seams_of, masks_at}
use Rattle.rows_quads.specs.Steps.{strip_in}
use Rattle.rows_quads.proofs.put_strips.Given as goal

abbrev pub invariant-loop-t : goal.invariant-loop-t
invariant-loop-t l = Front (flat_quads (tabulate (λ k. strip_in l.np l.quads l.labels (part (masks_at l.np l.nq) l.np l.w) (get_or (seams_of l.np l.nq l.quads l.labels) k 0)) l.t)) l.out

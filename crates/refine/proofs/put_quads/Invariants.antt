-- `refine::put_quads` meets its contract. Assumes nothing.
use Prim.Native.Nat.{◌*◌}
use Rattle.lists.specs.Regions.{part}
use Rattle.refine.specs.Requests.{child_at}
use Rattle.lists.specs.Steps.{nth}
use Rattle.lists.specs.Sort.{tabulate}
use Rattle.rule_sheet.specs.Flat.{flat_quads}
use Rattle.sheet.specs.Results.{Front}
use Rattle.refine.proofs.put_quads.Given as goal

abbrev pub invariant-loop-c : goal.invariant-loop-c
invariant-loop-c l = Front (flat_quads (tabulate (child_at (nth (part l.num (5 * l.nq) l.w)) l.quads) l.c)) l.out

-- `quality_links::round_length` meets its contract. Assumes nothing.
use Prim.Native.Nat.{◌-◌}
use Rattle.rule_sheet.specs.Quads.{valence}
use Rattle.rule_sheet.specs.Flat.{quads_of}
use Rattle.quality_links.proofs.Rounds.{Walk}
use Rattle.quality_links.proofs.round_length.Given as goal

abbrev pub invariant-loop-x : goal.invariant-loop-x
invariant-loop-x l = Walk (quads_of l.nq l.quads) l.v l.u l.last l.x l.count

abbrev pub decreases-loop-x : goal.decreases-loop-x
decreases-loop-x l = valence (quads_of l.nq l.quads) l.v - l.count

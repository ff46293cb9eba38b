-- `quality_measures::scores` meets its contract. Assumes nothing.
use Prim.Native.Nat.{◌*◌}
use Rattle.lists.proofs.Regions.{RegionFilled}
use Rattle.quality_measures.proofs.Rule.{score_at}
use Rattle.quality_measures.proofs.scores.Given as goal

abbrev pub invariant-loop-q : goal.invariant-loop-q
invariant-loop-q l = RegionFilled (score_at l.mean l.n l.initial.floats) (3 * l.n) l.n l.initial.floats l.floats l.q

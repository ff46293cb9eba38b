-- `extract_paths::put_paths` meets its contract. Assumes nothing.
use Prim.Native.Nat.{◌*◌}
use Rattle.extract_paths.specs.Paths.{Pathed}
use Rattle.extract_paths.proofs.put_paths.Given as goal

abbrev pub invariant-loop-e : goal.invariant-loop-e
invariant-loop-e l = Pathed l.g l.n l.w (12 * l.e)

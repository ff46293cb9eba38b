-- `extract_paths::put_cell` meets its contract. Assumes nothing.
use Prim.Native.Nat.{◌+◌, ◌*◌}
use Rattle.extract_paths.specs.Paths.{Pathed}
use Rattle.extract_paths.proofs.put_cell.Given as goal

abbrev pub invariant-loop-j : goal.invariant-loop-j
invariant-loop-j l = Pathed l.g l.n l.w (12 * l.e + l.j)

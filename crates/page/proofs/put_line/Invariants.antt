-- `page::put_line` meets its contract. Assumes nothing.
use Prim.Native.Nat.{◌*◌}
use Rattle.page.specs.Steps.{byte_of}
use Rattle.page.proofs.Lines.{Writing}
use Rattle.page.proofs.put_line.Given as goal

abbrev pub invariant-loop-i : goal.invariant-loop-i
invariant-loop-i l = Writing (41 * l.j) (byte_of l.name l.n) l.initial.page l.page l.i

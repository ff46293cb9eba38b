-- `<u64 as Little>::read` meets its contract. Assumes nothing.
use native.Mathlib.Omega.{arith}
use Rattle.encoding.proofs.Loops.{number-from, number-behind}
use Rattle.encoding.proofs.U64Little.read.Goals as goal

pub returns : goal.returns
returns c = let s = c.args.s.now in
    omega (arith, c.from_le_bytes.ensures, number-behind 8 s c.requires, number-from 0 s, number-from 1 s, number-from 2 s, number-from 3 s, number-from 4 s, number-from 5 s, number-from 6 s, number-from 7 s)

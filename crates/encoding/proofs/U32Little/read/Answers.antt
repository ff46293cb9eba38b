-- `<u32 as Little>::read` meets its contract. Assumes nothing.
use native.Mathlib.Omega.{arith}
use Rattle.encoding.proofs.Loops.{number-from, number-behind}
use Rattle.encoding.proofs.U32Little.read.Goals as goal

pub returns : goal.returns
returns c = let s = c.args.s.now in
    omega (arith, c.from_le_bytes.ensures, number-behind 4 s c.requires, number-from 0 s, number-from 1 s, number-from 2 s, number-from 3 s)

-- `<u64 as Little>::write` meets its contract. Assumes nothing.
use mathlib.Core.Path.{◌∙◌}
use Rattle.encoding.proofs.Loops.{low-bytes}
use Rattle.encoding.proofs.U64Little.write.Goals as goal

pub returns : goal.returns
returns c = c.copy_from_slice.ensures.after ∙ c.to_le_bytes.ensures ∙ low-bytes 8 c.args.self

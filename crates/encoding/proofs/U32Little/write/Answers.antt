-- `<u32 as Little>::write` meets its contract. Assumes nothing.
use mathlib.Core.Path.{◌∙◌}
use Rattle.encoding.proofs.Loops.{low-bytes}
use Rattle.encoding.proofs.U32Little.write.Goals as goal

pub returns : goal.returns
returns c = c.copy_from_slice.ensures.after ∙ c.to_le_bytes.ensures ∙ low-bytes 4 c.args.self

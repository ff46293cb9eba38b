-- `rows_gather::is_copied` meets its contract. Assumes nothing.
use Rattle.rows_gather.proofs.Numbers.{copied_at}
use Rattle.rows_gather.proofs.is_copied.Goals as goal

pub returns : goal.returns
returns c = copied_at _ _ _ _ _ c.requires.k_bound c.requires.np_in_bounds c.has_copy.ensures

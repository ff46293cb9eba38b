-- `extract_cells::joined` meets its contract. Assumes nothing.
use Rattle.extract_cells.proofs.Bits.{joined_by_lem}
use Rattle.extract_cells.proofs.joined.Goals as goal

pub returns : goal.returns
returns c =
    joined_by_lem _ _ _ _ _ _ _ _ _ _ c.requires.t_bound c.requires.kind_value c.requires.a_bound c.requires.b_bound c.requires.pair_value c.bit.ensures c.bit-2.ensures c.bit-four.ensures c.is_parted.ensures

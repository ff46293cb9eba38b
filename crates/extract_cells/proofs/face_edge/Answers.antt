-- `extract_cells::face_edge` meets its contract. Assumes nothing.
use Rattle.extract_cells.proofs.Tables.{edge_at}
use Rattle.extract_cells.proofs.face_edge.Goals as goal

pub returns : goal.returns
returns c =
    let the_pair = edge_at _ _ c.requires.f_bound c.requires.k_bound in record { value = the_pair.0; upper_bound = the_pair.1 }

-- `export_finer::rows_after` meets its contract. Assumes nothing.
use Rattle.export_finer.proofs.rows_after.Goals as goal

pub returns-in-Err : goal.returns-in-Err
returns-in-Err c =
    record { fact = rw c.in-Err.is c.refuse.ensures.makes; cleared = c.refuse.ensures.cleared }

pub returns : goal.returns
returns c =
    record { fact = rw c.in_default.is c.boundary_rows.ensures.sheet; cleared = c.boundary_rows.ensures.cleared }

-- `export_finer::subdivide_after` meets its contract. Assumes nothing.
use Rattle.export_finer.proofs.subdivide_after.Goals as goal

pub returns-in-Err : goal.returns-in-Err
returns-in-Err c =
    record { fact = rw c.in-Err.is c.refuse.ensures.makes; cleared = c.refuse.ensures.cleared }

pub returns : goal.returns
returns c =
    record { fact = rw c.in_default.is c.subdivide.ensures.sheet; cleared = c.subdivide.ensures.cleared }

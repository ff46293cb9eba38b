-- `export_extract::extract_after` meets its contract. Assumes nothing.
use Rattle.export_extract.proofs.extract_after.Goals as goal

pub returns-in-Err : goal.returns-in-Err
returns-in-Err c =
    record { fact = rw c.in-Err.is c.refuse.ensures.makes; cleared = c.refuse.ensures.cleared }

pub returns-then-few : goal.returns-then-few
returns-then-few c =
    record { fact = rw (c.in_default.is, c.if-few.true) c.extract_idle.ensures.fact; cleared = c.extract_idle.ensures.cleared }

pub returns : goal.returns
returns c =
    record { fact = rw (c.in_default.is, c.if-few.false) c.extract_candidate.ensures.sheet; cleared = c.extract_candidate.ensures.cleared }

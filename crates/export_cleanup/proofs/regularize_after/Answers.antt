-- `export_cleanup::regularize_after` meets its contract. Assumes nothing.
use mathlib.Core.Path.{refl}
use Rattle.export_cleanup.proofs.regularize_after.Goals as goal

pub returns-in-Err : goal.returns-in-Err
returns-in-Err c =
    record { fact = rw c.in-Err.is (record { answer = refl; quads = refl }); cleared = c.clear_work.ensures }

pub returns : goal.returns
returns c =
    record { fact = rw c.in_default.is c.regularize.ensures.sheet; cleared = c.regularize.ensures.cleared }

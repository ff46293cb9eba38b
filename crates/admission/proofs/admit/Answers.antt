-- `admission::admit` meets its contract. Assumes nothing.
use Rattle.admission.proofs.admit.Goals as goal

pub returns : goal.returns
returns c =
    record { value = rw c.band_verdict-brought.ensures at c.admit_after.ensures.value; masks_at = c.admit_after.ensures.masks_at }

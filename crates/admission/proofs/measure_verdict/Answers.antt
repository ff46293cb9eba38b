-- `admission::measure_verdict` meets its contract. Assumes nothing.
use Rattle.admission.proofs.measure_verdict.Goals as goal

pub returns : goal.returns
returns c = rw c.measurable_band_verdict-brought.ensures at c.admit_after.ensures.value

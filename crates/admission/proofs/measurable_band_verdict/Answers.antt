-- `admission::measurable_band_verdict` meets its contract. Assumes nothing.
use Rattle.rule_admission.specs.Admission.{measurable_verdict}
use Rattle.admission.proofs.measurable_band_verdict.Goals as goal

pub returns : goal.returns
unfolding measurable_verdict
returns c = rw (← c.measurable.ensures) c.box_unless.ensures

-- `admission::band_verdict` meets its contract. Assumes nothing.
use Rattle.rule_admission.specs.Admission.{domain_verdict}
use Rattle.admission.proofs.band_verdict.Goals as goal

pub returns : goal.returns
unfolding domain_verdict
returns c = rw (← c.validate.ensures) c.box_unless.ensures

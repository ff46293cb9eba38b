-- `job_open::is_other` meets its contract. Assumes nothing.
use Rattle.job_open.proofs.is_other.Goals as goal

pub returns-in-Some : goal.returns-in-Some
returns-in-Some c =
    record { value = rw (c.in-Some.is, c.sum_of.ensures.value); work_unchanged = c.sum_of.ensures.work_unchanged }

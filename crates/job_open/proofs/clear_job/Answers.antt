-- `job_open::clear_job` meets its contract. Assumes nothing.
use Rattle.job_open.proofs.clear_job.Goals as goal

pub returns : goal.returns
returns c =
    record { header_after = c.clear.ensures; points_after = c.clear-2.ensures; quads_after = c.clear-3.ensures; labels_after = c.clear-4.ensures }

-- `quads::quads_open_job` meets its contract. Assumes nothing.
use Rattle.export_job.proofs.Shown.{opened-shows}
use Rattle.quads.proofs.quads_open_job.Goals as goal

pub returns : goal.returns
returns c =
    record { answer = opened-shows c.open_after-r.ensures.fact c.put_answer.ensures; cleared = c.open_after-r.ensures.work_after }

-- `job_open::get_job` meets its contract. Assumes nothing.
use mathlib.Core.Path.{refl}
use Rattle.encoding.proofs.Loops.{part-same}
use Rattle.job_open.proofs.Opening.{reads_of}
use Rattle.job_open.proofs.get_job.Goals as goal

pub returns : goal.returns
returns c =
    reads_of c.args.file.now c.args.c c.args.header.now c.args.points.now c.args.quads.now c.args.labels.now
    c.get_all.ensures c.get_all-2.ensures c.get_all-3.ensures (rw (c.copy.ensures, part-same _ c.args.c.labels c.args.file.now) refl)

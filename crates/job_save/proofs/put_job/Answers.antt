-- `job_save::put_job` meets its contract. Assumes nothing.
use native.Mathlib.Omega.{arith}
use Rattle.rule_job.specs.Files.{job_of}
use Rattle.encoding.proofs.Loops.{copied}
use Rattle.job_save.proofs.Saving.{put_five}
use Rattle.job_save.proofs.put_job.Goals as goal

pub put_trailer-requires : goal.put_trailer-requires
put_trailer-requires c = record { few = c.requires.lent_job.sheet.few; c_in_bounds = omega arith }

pub returns : goal.returns
returns c =
    put_five (job_of c.args.c c.args.header.now c.args.points.now c.args.quads.now c.args.labels.now) c.args.sum c.args.file.now c.requires.lent_job c.requires.c_in_bounds
    c.put_all.ensures c.put_all-2.ensures c.put_all-3.ensures (copied _ _ _ c.copy.ensures) c.put_trailer.ensures

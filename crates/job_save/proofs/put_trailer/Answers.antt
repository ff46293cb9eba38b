-- `job_save::put_trailer` meets its contract. Assumes nothing.
use Rattle.job_save.proofs.Saving.{put_three}
use Rattle.job_save.proofs.put_trailer.Goals as goal

pub returns : goal.returns
returns c =
    put_three c.args.c c.args.sum c.args.file.now c.requires.c_in_bounds c.put_all.ensures c.put.ensures c.put-2.ensures

-- `export_job::sum_told` meets its contract. Assumes nothing.
use Rattle.export_job.proofs.sum_told.Goals as goal

pub returns : goal.returns
returns c = rw c.read_trailer.ensures at c.show_sum.ensures

-- `export_job::open_idle` meets its contract. Assumes nothing.
use Rattle.export_job.proofs.Idle.{idle-opens}
use Rattle.export_job.proofs.open_idle.Goals as goal

pub returns : goal.returns
returns c =
    record {
      fact = idle-opens c.args.file.now c.args.header.now c.args.points.now c.args.quads.now c.args.labels.now c.args.work.now c.open-r.ensures.fact
          (c.clear.ensures, (c.clear-2.ensures, (c.clear-3.ensures, c.clear-4.ensures)));
      work_after = rw c.open-r.ensures.work_after at c.clear-5.ensures;
    }

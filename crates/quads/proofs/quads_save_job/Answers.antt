-- `quads::quads_save_job` meets its contract. Assumes nothing.
use lib.ListN.{length}
use Rattle.rule_sheet.specs.declared.Counts.{Counts}
use Rattle.rule_job.specs.Files.{job_of}
use Rattle.rule_job.specs.Jobs.{save_rule}
use Rattle.export_job.proofs.Shown.{answer-saves}
use Rattle.quads.proofs.quads_save_job.Goals as goal

pub returns : goal.returns
returns c =
    let n : Counts = record { points = c.args.np; quads = c.args.nq; labels = c.args.nl } in
    let x = job_of n c.args.header.now c.args.points.now c.args.quads.now c.args.labels.now in
    record { answer = answer-saves n (save_rule x (length c.args.work.now) (length c.args.file.now)) c.answer_verdict-before.ensures c.save_after-r.ensures.fact c.put_answer.ensures; cleared = c.save_after-r.ensures.work_after }

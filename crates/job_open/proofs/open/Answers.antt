-- `job_open::open` meets its contract. Assumes nothing.
use mathlib.Core.Path.{sym, ◌∙◌}
use lib.ListN.{length}
use Rattle.job_save.proofs.Saving.{still-zeros}
use Rattle.job_open.proofs.Trailers.{found_in}
use Rattle.job_open.proofs.Opening.{zeros_of, zeros-room, opens-found, opens-broken}
use Rattle.job_open.proofs.open.Goals as goal

pub open_found-requires : goal.open_found-requires
open_found-requires c =
    let Z = zeros_of c.args.header.now c.args.points.now c.args.quads.now c.args.labels.now c.args.work.now (c.clear_job.ensures.header_after, (c.clear_job.ensures.points_after, (c.clear_job.ensures.quads_after, c.clear_job.ensures.labels_after))) in
    record { s_value = (found_in _ _ _ (sym c.read_trailer.ensures ∙ c.in-Some.is)).starts.size; zeros = rw (zeros-room c.args.header.now c.args.points.now c.args.quads.now c.args.labels.now c.args.work.now Z c.clear.ensures) Z; work_value = (still-zeros {n = length c.args.work.now} c.clear.ensures).1 }

pub returns : goal.returns
returns c =
    let Z = zeros_of c.args.header.now c.args.points.now c.args.quads.now c.args.labels.now c.args.work.now (c.clear_job.ensures.header_after, (c.clear_job.ensures.points_after, (c.clear_job.ensures.quads_after, c.clear_job.ensures.labels_after))) in
    record { fact = opens-found _ (sym c.read_trailer.ensures ∙ c.in-Some.is) (rw (zeros-room c.args.header.now c.args.points.now c.args.quads.now c.args.labels.now c.args.work.now Z c.clear.ensures) at c.open_found.ensures.fact); work_after = c.open_found.ensures.work_unchanged ∙ c.clear.ensures }

pub returns-in_default : goal.returns-in_default
returns-in_default c =
    record { fact = opens-broken _ (sym c.read_trailer.ensures ∙ c.in_default.is) (zeros_of c.args.header.now c.args.points.now c.args.quads.now c.args.labels.now c.args.work.now (c.clear_job.ensures.header_after, (c.clear_job.ensures.points_after, (c.clear_job.ensures.quads_after, c.clear_job.ensures.labels_after)))); work_after = c.clear.ensures }

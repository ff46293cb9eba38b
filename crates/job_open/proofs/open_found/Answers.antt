-- `job_open::open_found` meets its contract. Assumes nothing.
use native.Mathlib.Omega.{arith}
use Prim.Native.Nat.{◌≤◌}
use mathlib.Core.Path.{◌≡◌, refl, sym, ◌∙◌}
use mathlib.Core.Bool.{false}
use lib.ListN.{length}
use Rattle.rule_sheet.specs.Lent.{is_large, before_verdict}
use Rattle.rule_job.specs.Files.{trailer_at, job_in}
use Rattle.rule_job.specs.Jobs.{JobRoom, job_room_of, is_short_job}
use Rattle.job_save.specs.Steps.{LentJob}
use Rattle.job_save.proofs.Saving.{Sized, lent_of, work-of, accepted-by}
use Rattle.job_open.proofs.Opening.{in-sized, tested-refuses, other-is, corners-read, sum-refuses, tested-opens, zeros-again}
use Rattle.job_open.proofs.open_found.Goals.{After-tested}
use Rattle.job_open.proofs.open_found.Goals as goal
use Rattle.rule_sheet.proofs.Exits.{exited}
use Rattle.rule_sheet.specs.Verdicts.{Accepted}

abbrev room : After-tested → JobRoom
room c = job_room_of c.args.header.now c.args.points.now c.args.quads.now c.args.labels.now c.args.work.now

told : (c : After-tested) → before_verdict c.args.c (is_short_job c.args.c (room c)) ≡ c.tested.result
told c = sym c.tested.ensures

-- what is left where the test accepts
tested-by : (c : After-tested) → c.tested.result ≡ Accepted → (is_large c.args.c ≡ false) × (is_short_job c.args.c (room c) ≡ false)
tested-by c e = accepted-by c.args.c (is_short_job c.args.c (room c)) (told c ∙ e)

lent : (c : After-tested) → c.tested.result ≡ Accepted → LentJob c.args.c (length c.args.header.now) (length c.args.points.now) (length c.args.quads.now) (length c.args.labels.now)
lent c e = let A = tested-by c e in lent_of c.args.c (room c) A.1 A.0

whole : (c : After-tested) → trailer_at c.args.c ≤ length c.args.file.now
whole c = omega arith

sized : (c : After-tested) → Sized (job_in c.args.file.now c.args.c)
sized c = in-sized c.args.file.now c.args.c (whole c)

pub returns-in_err-tested : goal.returns-in_err-tested
returns-in_err-tested c =
    rw (exited _ _ c.from_residual.ensures.1)
    (record { fact = tested-refuses c.args.file.now c.args.c c.args.s (room (goal.at.returns-in_err-tested c).After-tested) _ (told (goal.at.returns-in_err-tested c).After-tested ∙ c.in_err-tested.was) c.requires.zeros; work_unchanged = refl })

pub get_job-requires : goal.get_job-requires
get_job-requires c =
    record { c_in_bounds = whole (goal.at.get_job-requires c).After-tested; lent_job = lent (goal.at.get_job-requires c).After-tested c.in_ok-tested.was }

pub is_other-requires : goal.is_other-requires
is_other-requires c =
    record { few = (lent (goal.at.is_other-requires c).After-tested c.in_ok-tested.was).sheet.few; quads_in_bounds = corners-read c.args.file.now c.args.c (sized (goal.at.is_other-requires c).After-tested) c.get_job.ensures; points_in_bounds = work-of c.args.c (room (goal.at.is_other-requires c).After-tested) (tested-by (goal.at.is_other-requires c).After-tested c.in_ok-tested.was).1; work_value = c.requires.work_value }

pub returns-then-is_other : goal.returns-then-is_other
returns-then-is_other c =
    let Z = zeros-again c.args.file.now c.args.c c.args.header.now c.args.points.now c.args.quads.now c.args.labels.now c.args.work.now (sized (goal.at.returns-then-is_other c).After-tested) (lent (goal.at.returns-then-is_other c).After-tested c.in_ok-tested.was) c.get_job.ensures (c.clear_job.ensures.header_after, (c.clear_job.ensures.points_after, (c.clear_job.ensures.quads_after, c.clear_job.ensures.labels_after))) in
    record { fact = sum-refuses c.args.file.now c.args.c c.args.s (room (goal.at.returns-then-is_other c).After-tested) (told (goal.at.returns-then-is_other c).After-tested ∙ c.in_ok-tested.was) (other-is c.args.file.now c.args.c c.args.s (sized (goal.at.returns-then-is_other c).After-tested) c.get_job.ensures c.is_other.ensures.value ∙ c.if-is_other.true) Z; work_unchanged = c.is_other.ensures.work_unchanged }

pub returns : goal.returns
returns c =
    record { fact = tested-opens c.args.file.now c.args.c c.args.s (room (goal.at.returns c).After-tested) (told (goal.at.returns c).After-tested ∙ c.in_ok-tested.was) (other-is c.args.file.now c.args.c c.args.s (sized (goal.at.returns c).After-tested) c.get_job.ensures c.is_other.ensures.value ∙ c.if-is_other.false) (sized (goal.at.returns c).After-tested) c.requires.zeros c.get_job.ensures; work_unchanged = c.is_other.ensures.work_unchanged }

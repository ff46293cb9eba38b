-- `job_save::save` meets its contract. Assumes nothing.
use native.Mathlib.Omega.{arith}
use Prim.Native.Nat.{ℕ}
use mathlib.Core.Path.{◌≡◌, sym, ◌∙◌}
use lib.ListN.{length}
use Rattle.rule_job.specs.Files.{Job, job_of}
use Rattle.job_save.proofs.Saving.{save_verdict, Accepts, accepts, still-zeros, saves-refused, saves-done}
use Rattle.job_save.proofs.save.Goals.{After-tested-v}
use Rattle.job_save.proofs.save.Goals as goal
use Rattle.rule_sheet.proofs.Exits.{exited}
use Rattle.rule_sheet.specs.Verdicts.{Accepted}

-- the lent job
abbrev job : After-tested-v → Job
job c = job_of c.args.c c.args.header.now c.args.points.now c.args.quads.now c.args.labels.now

-- the elements of work, and the bytes
abbrev work : After-tested-v → ℕ
work c = length c.args.work.now

abbrev room : After-tested-v → ℕ
room c = length c.args.file.now

told : (c : After-tested-v) → save_verdict (job c) (work c) (room c) ≡ c.tested-v.result
told c = sym c.tested-v.ensures

accepted : (c : After-tested-v) → c.tested-v.result ≡ Accepted → Accepts (job c) (work c) (room c)
accepted c e = accepts (job c) (work c) (room c) (told c ∙ e)

pub sum_of-sum-requires : goal.sum_of-sum-requires
sum_of-sum-requires c =
    let A = accepted (goal.at.sum_of-sum-requires c).After-tested-v c.in_ok-v.was in
    let z = still-zeros {n = work (goal.at.sum_of-sum-requires c).After-tested-v} c.clear.ensures in
    record { few = A.lent.sheet.few; quads_in_bounds = A.lent.sheet.quads; points_in_bounds = omega (arith, A.work, z.0); work_value = z.1 }

pub put_job-requires : goal.put_job-requires
put_job-requires c =
    let A = accepted (goal.at.put_job-requires c).After-tested-v c.in_ok-v.was in
    record { lent_job = A.lent; c_in_bounds = omega (arith, A.room) }

pub size_of-requires : goal.size_of-requires
size_of-requires c = (accepted (goal.at.size_of-requires c).After-tested-v c.in_ok-v.was).lent.sheet.few

pub returns-in_err-v : goal.returns-in_err-v
returns-in_err-v c =
    rw (exited _ _ c.from_residual.ensures.1)
    (record { fact = saves-refused (job (goal.at.returns-in_err-v c).After-tested-v) (work (goal.at.returns-in_err-v c).After-tested-v) (room (goal.at.returns-in_err-v c).After-tested-v) _ (told (goal.at.returns-in_err-v c).After-tested-v ∙ c.in_err-v.was) c.clear-2.ensures; work_after = c.clear.ensures })

pub returns : goal.returns
returns c =
    record { fact = saves-done (job (goal.at.returns c).After-tested-v) (work (goal.at.returns c).After-tested-v) (room (goal.at.returns c).After-tested-v) _ _ (accepted (goal.at.returns c).After-tested-v c.in_ok-v.was).lent (told (goal.at.returns c).After-tested-v ∙ c.in_ok-v.was) c.sum_of-sum.ensures.value c.clear-2.ensures c.put_job.ensures c.size_of.ensures; work_after = c.sum_of-sum.ensures.work_unchanged ∙ c.clear.ensures }

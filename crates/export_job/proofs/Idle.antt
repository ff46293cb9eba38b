-- Opening into no slices is a refusal. Assumes nothing.
use Prim.Native.Nat.{ℕ}
use mathlib.Core.Path.{◌≡◌, refl}
use mathlib.Core.Bool.{Bool, true, false, cond}
use mathlib.Core.List.{List, ◌++◌}
use native.Mathlib.Omega.{arith}
use lib.ListN.{length, replicate}
use Rattle.rule_sheet.specs.Lent.{is_large, before_verdict}
use Rattle.rule_sheet.specs.Outcomes.{Outcome, refuses, gives, after_test}
use Rattle.rule_sheet.specs.Results.{padded}
use Rattle.rule_job.specs.Files.{Job, trailer_of, job_in}
use Rattle.rule_job.specs.Jobs.{job_room_with, job_room_of, is_short_job, summed, open_with, open_rule, Opens}
use Rattle.job_open.specs.Steps.{Zeros}
use Rattle.job_open.proofs.Opening.{zeros_of, zeros-open}
use Rattle.std.specs.Prelude.{Err, Some, None, Option}
use Rattle.rule_sheet.specs.Verdicts.{Answer}
use Rattle.rule_job.specs.declared.Trailer.{Trailer}
use Rattle.rule_sheet.specs.declared.Refusal.{Refusal}
use Rattle.rule_sheet.specs.declared.Refusal.TheVariants as refusals
use Rattle.rule_sheet.specs.declared.Refusal.TheVariants.{Large, Short}

-- an outcome is a refusal
record IsRefusal (o : Outcome Job) : Type 0 where
  pub number : Refusal
  pub is : o ≡ refuses number

idle-refuses : (F : List ℕ) → IsRefusal (open_rule F (job_room_with 0 0 0 0 0))
unfolding open_with before_verdict is_short_job
idle-refuses F = go (trailer_of F)
  where
    tested : (o : Outcome Job) (b : Bool) → IsRefusal (after_test (cond b (Err Large) (Err Short)) o)
    tested o true = record { number = Large; is = refl }
    tested o false = record { number = Short; is = refl }

    go : (t : Option Trailer) → IsRefusal (open_with F (job_room_with 0 0 0 0 0) t)
    go (Some t) = tested (summed t.sum (job_in F t.counts)) (is_large t.counts)
    go None = record { number = refusals.Trailer; is = refl }

-- nothing is opened, and the slices that were lent are cleared whole
pub idle-opens : (F H P Q L W : List ℕ) {r : Answer} {X Y Z U H' P' Q' L' : List ℕ} → Opens (open_rule F (job_room_with 0 0 0 0 0)) (job_room_with 0 0 0 0 0) r X Y Z U
    → (H' ≡ replicate (length (X ++ H)) 0) × ((P' ≡ replicate (length (Y ++ P)) 0) × ((Q' ≡ replicate (length (Z ++ Q)) 0) × (L' ≡ replicate (length (U ++ L)) 0)))
    → Opens (open_rule F (job_room_with 0 0 0 0 0)) (job_room_of H P Q L W) r H' P' Q' L'
unfolding padded
idle-opens F H P Q L W {r} {X} {Y} {Z} {U} {H'} {P'} {Q'} {L'} O e = go (open_rule F (job_room_with 0 0 0 0 0)) (idle-refuses F) O
  where
    C : Zeros (job_room_of (X ++ H) (Y ++ P) (Z ++ Q) (U ++ L) W) H' P' Q' L'
    C = zeros_of (X ++ H) (Y ++ P) (Z ++ Q) (U ++ L) W e

    go : (o : Outcome Job) → IsRefusal o → Opens o (job_room_with 0 0 0 0 0) r X Y Z U → Opens o (job_room_of H P Q L W) r H' P' Q' L'
    go (refuses n) i A = rw A.answer (zeros-open n (rw (A.header, A.points, A.quads, A.labelled) at C))
    go (gives j) i A = absurd (let x : ◌≡◌ {A = ℕ} 0 1 = cc in omega arith)

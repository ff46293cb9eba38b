-- The theorems of job files. Assumes nothing.
use Prim.Native.Nat.{ℕ, ◌*◌, ◌^◌, ◌≤◌}
use mathlib.Core.Path.{◌≡◌, refl, sym, ap, ◌∙◌}
use mathlib.Core.Bool.{false}
use mathlib.Core.List.{List}
use native.Mathlib.Omega.{arith}
use lib.ListN.{length, take}
use lib.Seq.{take_at}
use borrow.Author.Tests.{eq-eqb}
use Rattle.lists.proofs.Laws.{length-tab}
use Rattle.encoding.proofs.Laws.{under-take}
use Rattle.rule_sheet.specs.declared.Tally.{Tally}
use Rattle.rule_sheet.specs.Flat.{quads_of}
use Rattle.rule_sheet.specs.Sheet.{points_of}
use Rattle.rule_sheet.specs.Outcomes.{Outcome, refuses, gives, after_test}
use Rattle.rule_sheet.specs.Results.{padded}
use Rattle.rule_sheet.specs.Squared.{squared}
use Rattle.sheet.proofs.Flat.{length-quads}
use Rattle.sheet.proofs.Tests.{few-of}
use Rattle.rule_job.specs.Files.{Job, sum_of, file_of}
use Rattle.rule_job.specs.Jobs.{held_job, save_rule, saved_answer, file_shown, is_other, sum_by}
use Rattle.job_sum.proofs.Bound.{squared-fits}
use Rattle.job_save.proofs.Saving.{save_verdict, Accepts, accepts, held-sized, long-file}
use Rattle.job_exact.specs.Exact.{InMemory, StartsFit, EveryStart, EverySum, SavedOpens, OlderOpens, OpenedSaves, SavedTells, ToldIsTrue, IsDemand3}
use Rattle.job_exact.proofs.Saved.{saved-trailer, open-bytes}
use Rattle.job_exact.proofs.Opened.{open_gives, own-sum, opened-again}
use Rattle.std.specs.Prelude.{Ok, Err, Some, None}
use Rattle.rule_sheet.specs.Verdicts.{Verdict}

-- ---- starts and sums fit

pub every-sum : EverySum
unfolding EverySum
every-sum n S h k = squared-fits n S h k

-- what is given by a rule that accepts
saved-by : (x : Job) (w n : ℕ) (j : Job) → save_rule x w n ≡ gives j → Accepts x w n × (held_job x ≡ j)
unfolding save_rule
saved-by x w n j = go (save_verdict x w n) refl
  where
    go : (v : Verdict) → save_verdict x w n ≡ v → after_test v (gives (held_job x)) ≡ gives j → Accepts x w n × (held_job x ≡ j)
    go (Ok u) a e = (accepts x w n a, cc)
    go (Err k) a e = absurd (let z : ◌≡◌ {A = ℕ} 0 1 = cc in omega arith)

fits : (x : Job) (w n : ℕ) → Accepts x w n → StartsFit (held_job x)
fits x w n A =
    let f = few-of x.counts A.few in
    let l = long-file (held_job x) (held-sized x A.lent) (Some (sum_of (held_job x))) in
    record {
      quads = omega (arith, f.points≤);
      labels = omega (arith, f.points≤, f.quads≤);
      trailer = omega (arith, f.points≤, f.quads≤, f.labels≤);
      size = omega (arith, l, f.points≤, f.quads≤, f.labels≤);
    }

pub every-start : EveryStart
unfolding EveryStart
every-start x w n j e = let a = saved-by x w n j e in rw a.1 at (fits x w n a.0)

-- the sum of a lent job is a u64
sum-small : (x : Job) (w n : ℕ) → Accepts x w n → sum_of (held_job x) ≤ 17592169267200
sum-small x w n A =
    let f = few-of x.counts A.few in
    let Q = take (4 * x.counts.quads) x.quads in
    squared-fits x.counts.points (quads_of x.counts.quads Q) f.points≤ (omega (arith, length-quads x.counts.quads Q, f.quads≤))

-- ---- saving and opening

held-memory : (x : Job) → InMemory x → InMemory (held_job x)
held-memory x M = record {
  header = under-take (2 ^ 64) 8 x.header (omega arith) M.header;
  points = under-take (2 ^ 64) (3 * x.counts.points) x.points (omega arith) M.points;
  quads = under-take (2 ^ 32) (4 * x.counts.quads) x.quads (omega arith) M.quads;
  labels = under-take 256 x.counts.labels x.labels (omega arith) M.labels;
}

no_other : (n : ℕ) → is_other (Some n) n ≡ false
no_other n = rw (eq-eqb n n refl)

-- the bytes that an answer counts are the file
counted : (j : Job) (n : ℕ) (t : Tally) (F : List ℕ) → Ok t ≡ saved_answer (gives j) → F ≡ padded 0 n (file_shown (gives j)) → take t.count F ≡ file_of j
unfolding padded
counted j n t F a f = let k : t.count ≡ length (file_of j) = cc in rw (f, k) (take_at (file_of j) _ (length (file_of j)) refl)

-- what an answer and a slice show is the file of an accepted job
saved-file : (x : Job) (w n : ℕ) (t : Tally) (F : List ℕ) (o : Outcome Job) → save_rule x w n ≡ o
    → Ok t ≡ saved_answer o → F ≡ padded 0 n (file_shown o) → Accepts x w n × (take t.count F ≡ file_of (held_job x))
saved-file x w n t F (gives j) s e f =
    let a = saved-by x w n j s in
    (a.0, counted j n t F e f ∙ ap file_of (sym a.1))
saved-file x w n t F (refuses k) s e f = absurd (let z : ◌≡◌ {A = ℕ} 0 1 = cc in omega arith)

pub saved-opens : SavedOpens
unfolding SavedOpens
saved-opens x w n t F room M S h =
    let a = saved-file x w n t F (save_rule x w n) refl S.answer S.file in
    let A = a.0 in
    let m = sum_of (held_job x) in
    rw a.1 (open-bytes (held_job x) A.few (held-sized x A.lent) (Some m) (omega (arith, sum-small x w n A)) (no_other m) (held-memory x M) room h)

pub older-opens : OlderOpens
unfolding OlderOpens
older-opens x w n j room M s h =
    let a = saved-by x w n j s in
    let A = a.0 in
    rw (← a.1) (open-bytes (held_job x) A.few (held-sized x A.lent) None tt refl (held-memory x M) room (rw (← a.1) at h))

pub opened-saves : OpenedSaves
unfolding OpenedSaves
opened-saves F room j b e = opened-again F j b (open_gives F room j e)

-- ---- the sum that is told

pub saved-tells : SavedTells
unfolding SavedTells sum_by
saved-tells x w n t F S =
    let a = saved-file x w n t F (save_rule x w n) refl S.answer S.file in
    let A = a.0 in
    let m = sum_of (held_job x) in
    rw (a.1, saved-trailer (held_job x) A.few (held-sized x A.lent) (Some m) (omega (arith, sum-small x w n A))) refl

pub told-is-true : ToldIsTrue
unfolding ToldIsTrue sum_by
told-is-true F room j n e t =
    let O = open_gives F room j e in
    let i : O.sum ≡ Some n = let f : gives O.sum ≡ gives (Some n) = rw O.found at t in cc in
    own-sum n (sum_of j) (rw i at O.own)

pub is-demand-3 : IsDemand3
unfolding IsDemand3 points_of
is-demand-3 x H P L = ap (λ (n : ℕ). squared n (quads_of x.counts.quads x.quads)) (sym (length-tab _ x.counts.points))

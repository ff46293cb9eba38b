-- What opening leaves in the slices. Assumes nothing.
use Prim.Native.Nat.{ℕ, ◌*◌, ◌≤◌}
use mathlib.Core.Path.{◌≡◌, refl, sym, ap, ◌∙◌}
use mathlib.Core.Bool.{Bool, true, false}
use mathlib.Core.List.{List, ◌++◌}
use native.Mathlib.Omega.{arith}
use lib.ListN.{length, take, drop, replicate, length-append, length-drop, length-replicate}
use lib.Seq.{take_at, length-take-le}
use Rattle.lists.specs.Regions.{part}
use Rattle.encoding.specs.Encoding.{numbers}
use Rattle.encoding.proofs.Laws.{length-numbers}
use Rattle.rule_sheet.specs.declared.Counts.{Counts}
use Rattle.rule_sheet.specs.Flat.{quads_of}
use Rattle.rule_sheet.specs.Lent.{before_verdict}
use Rattle.rule_sheet.specs.Outcomes.{refuses, gives, after_test}
use Rattle.rule_sheet.specs.Squared.{squared}
use Rattle.sheet.proofs.Results.{pad-over, pad-none}
use Rattle.rule_job.specs.Files.{Job, sum_of, quads_at, labels_at, trailer_at, trailer_of, job_in}
use Rattle.rule_job.specs.Jobs.{JobRoom, job_room_of, is_short_job, is_other, summed, open_with, open_rule, Opens}
use Rattle.job_save.specs.Steps.{LentJob}
use Rattle.job_save.proofs.Saving.{Sized}
use Rattle.job_open.specs.Steps.{Zeros, Reads}
use Rattle.std.specs.Prelude.{Ok, Err, Some, None, Option}
use Rattle.rule_sheet.specs.Verdicts.{Answer, Accepted}
use Rattle.rule_sheet.specs.declared.Refusal.TheVariants as refusals
use Rattle.rule_sheet.specs.declared.Refusal.{Refusal}

-- the lists of the job in a file
pub in-sized : (F : List ℕ) (c : Counts) → trailer_at c ≤ length F → Sized (job_in F c)
unfolding job_in
in-sized F c e = record {
  header = length-numbers 8 8 F;
  points = length-numbers 8 (3 * c.points) (drop 64 F);
  quads = length-numbers 4 (4 * c.quads) (drop (quads_at c) F);
  labels = length-take-le c.labels (drop (labels_at c) F) (rw (length-drop (labels_at c) F) (omega arith));
}

-- the slices once they are read
pub reads_of : (F : List ℕ) (c : Counts) (H P Q L : List ℕ) {H' P' Q' L' : List ℕ}
    → H' ≡ numbers 8 8 F ++ drop 8 H
    → P' ≡ numbers 8 (3 * c.points) (drop 64 F) ++ drop (3 * c.points) P
    → Q' ≡ numbers 4 (4 * c.quads) (drop (quads_at c) F) ++ drop (4 * c.quads) Q
    → L' ≡ part (labels_at c) c.labels F ++ drop c.labels L
    → Reads (job_in F c) H P Q L H' P' Q' L'
unfolding job_in
reads_of F c H P Q L a b d e = record { header = a; points = b; quads = d; labels = e }

-- zeros are what a refusal leaves
pub zeros-open : (n : Refusal) {r : JobRoom} {H P Q L : List ℕ} → Zeros r H P Q L → Opens (refuses n) r (Err n) H P Q L
zeros-open n {r} Z = record {
  answer = refl;
  header = pad-none 0 r.header Z.header;
  points = pad-none 0 r.sheet.points Z.points;
  quads = pad-none 0 r.sheet.quads Z.quads;
  labelled = pad-none 0 r.sheet.labels Z.labels;
}

-- a job is read into slices of zeros
reads-open : {r : JobRoom} {j : Job} {H P Q L H' P' Q' L' : List ℕ} → Zeros r H P Q L → Sized j → Reads j H P Q L H' P' Q' L'
    → Opens (gives j) r (Ok (record { count = 0; sheet = j.counts })) H' P' Q' L'
reads-open {r} {j} Z S R = record {
  answer = refl;
  header = pad-over 0 8 r.header j.header Z.header S.header R.header;
  points = pad-over 0 (3 * j.counts.points) r.sheet.points j.points Z.points S.points R.points;
  quads = pad-over 0 (4 * j.counts.quads) r.sheet.quads j.quads Z.quads S.quads R.quads;
  labelled = pad-over 0 j.counts.labels r.sheet.labels j.labels Z.labels S.labels R.labels;
}

-- ---- what is opened, by the test of the slices and by the sum

-- what the quads that were read add up to
pub other-is : (F : List ℕ) (c : Counts) (s : Option ℕ) {H P Q L H' P' Q' L' : List ℕ} {b : Bool} → Sized (job_in F c) → Reads (job_in F c) H P Q L H' P' Q' L'
    → b ≡ is_other s (squared c.points (quads_of c.quads (take (4 * c.quads) Q'))) → is_other s (sum_of (job_in F c)) ≡ b
unfolding job_in
other-is F c s {Q = Q} S R e =
    let t = ap (take (4 * c.quads)) R.quads ∙ take_at (job_in F c).quads (drop (4 * c.quads) Q) (4 * c.quads) S.quads in
    sym (e ∙ rw t)

pub corners-read : (F : List ℕ) (c : Counts) {H P Q L H' P' Q' L' : List ℕ} → Sized (job_in F c) → Reads (job_in F c) H P Q L H' P' Q' L' → 4 * c.quads ≤ length Q'
unfolding job_in
corners-read F c {Q = Q} S R = omega (arith, ap length R.quads ∙ length-append (job_in F c).quads (drop (4 * c.quads) Q), S.quads)

module _ (F : List ℕ) (c : Counts) (s : Option ℕ) (r : JobRoom) where
  -- the outcome
  abbrev Opened : Answer → List ℕ → List ℕ → List ℕ → List ℕ → Type 0
  Opened a H P Q L = Opens (after_test (before_verdict c (is_short_job c r)) (summed s (job_in F c))) r a H P Q L

  pub tested-refuses : (n : Refusal) {H P Q L : List ℕ} → before_verdict c (is_short_job c r) ≡ Err n → Zeros r H P Q L → Opened (Err n) H P Q L
  tested-refuses n e Z = rw e (zeros-open n Z)

  pub sum-refuses : {H P Q L : List ℕ} → before_verdict c (is_short_job c r) ≡ Accepted → is_other s (sum_of (job_in F c)) ≡ true → Zeros r H P Q L → Opened (Err refusals.Sum) H P Q L
  unfolding summed
  sum-refuses e o Z = rw (e, o) (zeros-open refusals.Sum Z)

  pub tested-opens : {H P Q L H' P' Q' L' : List ℕ} → before_verdict c (is_short_job c r) ≡ Accepted → is_other s (sum_of (job_in F c)) ≡ false
      → Sized (job_in F c) → Zeros r H P Q L → Reads (job_in F c) H P Q L H' P' Q' L'
      → Opened (Ok (record { count = 0; sheet = c })) H' P' Q' L'
  unfolding summed job_in
  tested-opens e o S Z R = rw (e, o) (reads-open Z S R)

-- by the trailer
pub opens-found : (F : List ℕ) {c : Counts} {s : Option ℕ} {r : JobRoom} {a : Answer} {H P Q L : List ℕ} → trailer_of F ≡ Some (record { counts = c; sum = s })
    → Opens (after_test (before_verdict c (is_short_job c r)) (summed s (job_in F c))) r a H P Q L → Opens (open_rule F r) r a H P Q L
unfolding open_with
opens-found F e O = rw e O

pub opens-broken : (F : List ℕ) {r : JobRoom} {H P Q L : List ℕ} → trailer_of F ≡ None → Zeros r H P Q L → Opens (open_rule F r) r (Err refusals.Trailer) H P Q L
unfolding open_with
opens-broken F e Z = rw e (zeros-open refusals.Trailer Z)

-- ---- slices that were cleared

pub zeros_of : (H P Q L W : List ℕ) {H' P' Q' L' : List ℕ}
    → (H' ≡ replicate (length H) 0) × ((P' ≡ replicate (length P) 0) × ((Q' ≡ replicate (length Q) 0) × (L' ≡ replicate (length L) 0))) → Zeros (job_room_of H P Q L W) H' P' Q' L'
zeros_of H P Q L W e = record { header = e.0; points = e.1.0; quads = e.1.1.0; labels = e.1.1.1 }

-- they have the room that they had
pub zeros-room : (H P Q L W : List ℕ) {H' P' Q' L' W' : List ℕ} → Zeros (job_room_of H P Q L W) H' P' Q' L' → W' ≡ replicate (length W) 0
    → job_room_of H' P' Q' L' W' ≡ job_room_of H P Q L W
zeros-room H P Q L W Z w =
    let a = ap length Z.header ∙ length-replicate (length H) 0 in
    let b = ap length Z.points ∙ length-replicate (length P) 0 in
    let d = ap length Z.quads ∙ length-replicate (length Q) 0 in
    let e = ap length Z.labels ∙ length-replicate (length L) 0 in
    let f = ap length w ∙ length-replicate (length W) 0 in
    rw (a, b, d, e, f)

-- slices into which the job in a file was read, cleared again
pub zeros-again : (F : List ℕ) (c : Counts) (H P Q L W : List ℕ) {H' P' Q' L' H'' P'' Q'' L'' : List ℕ} → Sized (job_in F c)
    → LentJob c (length H) (length P) (length Q) (length L)
    → Reads (job_in F c) H P Q L H' P' Q' L'
    → (H'' ≡ replicate (length H') 0) × ((P'' ≡ replicate (length P') 0) × ((Q'' ≡ replicate (length Q') 0) × (L'' ≡ replicate (length L') 0))) → Zeros (job_room_of H P Q L W) H'' P'' Q'' L''
unfolding job_in
zeros-again F c H P Q L W S K R z =
    let j = job_in F c in
    let a = long 8 j.header H S.header K.header R.header in
    let b = long (3 * c.points) j.points P S.points K.sheet.points R.points in
    let d = long (4 * c.quads) j.quads Q S.quads K.sheet.quads R.quads in
    let e = long c.labels j.labels L S.labels K.sheet.labels R.labels in
    zeros_of H P Q L W (rw a at z.0, (rw b at z.1.0, (rw d at z.1.1.0, rw e at z.1.1.1)))
  where
    long : (n : ℕ) (l s : List ℕ) {r : List ℕ} → length l ≡ n → n ≤ length s → r ≡ l ++ drop n s → length r ≡ length s
    long n l s e h f = ap length f ∙ length-append l (drop n s) ∙ omega (arith, length-drop n s)

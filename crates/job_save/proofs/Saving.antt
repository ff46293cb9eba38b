-- The bytes of a job: how many, and put one after the other. Assumes nothing.
use Prim.Native.Nat.{ℕ, ◌+◌, ◌*◌, ◌≤◌, zero-le}
use mathlib.Core.Path.{◌≡◌, refl, ap, ◌∙◌}
use mathlib.Core.Bool.{Bool, true, false, cond, ◌||◌}
use mathlib.Core.List.{List, [], ◌++◌, append_assoc, append-nil}
use native.Mathlib.Omega.{arith}
use lib.Dec.{ltb}
use lib.ListN.{length, take, drop, replicate, length-append, length-replicate}
use lib.Seq.{length-take-le}
use borrow.Author.Tests.{ltb-false}
use Rattle.lists.specs.Regions.{part}
use Rattle.encoding.specs.Encoding.{little, littles}
use Rattle.encoding.proofs.Laws.{length-little, length-littles}
use Rattle.encoding.proofs.Loops.{Written, written_is, written_none, written-more}
use Rattle.rule_sheet.specs.declared.Counts.{Counts}
use Rattle.rule_sheet.specs.Lent.{is_large, before_verdict}
use Rattle.sheet.proofs.Tests.{or_left, or_right, holds_of}
use Rattle.sheet.proofs.Results.{pad-over, pad-none}
use Rattle.rule_job.specs.Files.{Job, sum_of, quads_at, labels_at, trailer_at, starts_of, sum_bytes, trailer_size, trailer_bytes, file_with, file_of, size_of}
use Rattle.rule_job.specs.Jobs.{JobRoom, is_short_job, room_in, held_job, save_rule, Saves}
use Rattle.job_save.specs.Steps.{LentJob}
use Rattle.std.specs.Prelude.{Ok, Err, Some, None, Option}
use Rattle.rule_sheet.specs.Verdicts.{Verdict, Accepted}
use Rattle.rule_sheet.specs.declared.Refusal.TheVariants.{Large, Short}
use Rattle.rule_sheet.specs.declared.Refusal.{Refusal}

-- ---- what 12 and 13 leave

module _ (c : Counts) (r : JobRoom) (e : is_short_job c r ≡ false) where
  pub lent_of : is_large c ≡ false → LentJob c r.header r.sheet.points r.sheet.quads r.sheet.labels
  unfolding is_short_job
  lent_of a = record {
    header = ltb-false _ _ (search (or_left, or_right));
    sheet = holds_of c _ _ _ a (search (or_left, or_right));
  }

  -- there is an element of work for each point
  pub work-of : c.points ≤ r.work
  unfolding is_short_job
  work-of = ltb-false _ _ (search (or_left, or_right))

-- a test that accepts is passed by the counts and by the slices
pub accepted-by : (c : Counts) (too_short : Bool) → before_verdict c too_short ≡ Accepted → (is_large c ≡ false) × (too_short ≡ false)
unfolding before_verdict
accepted-by c too_short = go (is_large c) too_short
  where
    go : (a b : Bool) → cond a (Err Large) (cond b (Err Short) Accepted) ≡ Accepted → (a ≡ false) × (b ≡ false)
    go true b e = absurd (let z : ◌≡◌ {A = ℕ} 0 1 = cc in omega arith)
    go false true e = absurd (let z : ◌≡◌ {A = ℕ} 0 1 = cc in omega arith)
    go false false e = (refl, refl)

-- the test of `save`
abbrev pub save_verdict : Job → ℕ → ℕ → Verdict
save_verdict x w n = before_verdict x.counts (is_short_job x.counts (room_in x w) || ltb n (size_of x.counts))

-- the slices of a lent job hold its counts
abbrev pub Holds : Job → Type 0
Holds x = LentJob x.counts (length x.header) (length x.points) (length x.quads) (length x.labels)

-- a lent job that is saved with w elements of work to a slice of n bytes
pub record Accepts (x : Job) (w n : ℕ) : Type 0 where
  pub few : is_large x.counts ≡ false
  pub lent : Holds x
  pub work : x.counts.points ≤ w
  pub room : size_of x.counts ≤ n

pub accepts : (x : Job) (w n : ℕ) → save_verdict x w n ≡ Accepted → Accepts x w n
accepts x w n e =
    let b = is_short_job x.counts (room_in x w) in
    let s = ltb n (size_of x.counts) in
    let a = accepted-by x.counts (b || s) e in
    let d = or_left b s a.1 in
    record {
      few = a.0;
      lent = lent_of x.counts (room_in x w) d a.0;
      work = work-of x.counts (room_in x w) d;
      room = ltb-false n (size_of x.counts) (or_right b s a.1);
    }

-- ---- how many bytes there are

-- the lists of a job are as long as its counts say
pub record Sized (j : Job) : Type 0 where
  pub header : length j.header ≡ 8
  pub points : length j.points ≡ 3 * j.counts.points
  pub quads : length j.quads ≡ 4 * j.counts.quads
  pub labels : length j.labels ≡ j.counts.labels

pub held-sized : (x : Job) → Holds x → Sized (held_job x)
held-sized x K = record {
  header = length-take-le 8 x.header K.header;
  points = length-take-le (3 * x.counts.points) x.points K.sheet.points;
  quads = length-take-le (4 * x.counts.quads) x.quads K.sheet.quads;
  labels = length-take-le x.counts.labels x.labels K.sheet.labels;
}

-- the starts of a trailer, and those with the sum
pub long-starts : (c : Counts) → length (littles 4 (starts_of c)) ≡ 16
long-starts c = length-littles 4 (starts_of c)

pub long-trailer : (c : Counts) (s : Option ℕ) → length (trailer_bytes c s) ≡ trailer_size s
unfolding trailer_bytes
long-trailer c s =
    length-append (littles 4 (starts_of c) ++ sum_bytes s) (little 4 (trailer_size s))
    ∙ omega (arith, length-append (littles 4 (starts_of c)) (sum_bytes s), long-starts c, long-sum s, length-little 4 (trailer_size s))
  where
    long-sum : (s : Option ℕ) → length (sum_bytes s) + 20 ≡ trailer_size s
    long-sum None = refl
    long-sum (Some n) = omega (arith, length-little 8 n)

-- the parts of a file before the points, the quads, the labels and the trailer
abbrev pub headed : Job → List ℕ
headed j = littles 8 j.header

abbrev pub pointed : Job → List ℕ
pointed j = headed j ++ littles 8 j.points

abbrev pub cornered : Job → List ℕ
cornered j = pointed j ++ littles 4 j.quads

abbrev pub labelled : Job → List ℕ
labelled j = cornered j ++ j.labels

module _ (j : Job) (S : Sized j) where
  pub long-header : length (headed j) ≡ 64
  long-header = length-littles 8 j.header ∙ rw S.header

  pub long-points : length (littles 8 j.points) ≡ 24 * j.counts.points
  long-points = length-littles 8 j.points ∙ omega (arith, S.points)

  pub long-quads : length (littles 4 j.quads) ≡ 16 * j.counts.quads
  long-quads = length-littles 4 j.quads ∙ omega (arith, S.quads)

  pub long-pointed : length (pointed j) ≡ quads_at j.counts
  long-pointed = length-append (headed j) (littles 8 j.points) ∙ omega (arith, long-header, long-points)

  pub long-cornered : length (cornered j) ≡ labels_at j.counts
  long-cornered = length-append (pointed j) (littles 4 j.quads) ∙ omega (arith, long-pointed, long-quads)

  pub long-labelled : length (labelled j) ≡ trailer_at j.counts
  long-labelled = length-append (cornered j) j.labels ∙ omega (arith, long-cornered, S.labels)

  pub long-file : (s : Option ℕ) → length (file_with s j) ≡ trailer_at j.counts + trailer_size s
  unfolding file_with
  long-file s = length-append (labelled j) (trailer_bytes j.counts s) ∙ omega (arith, long-labelled, long-trailer j.counts s)

-- ---- a file is put piece by piece, each behind the pieces before it

-- w is put at a place, over m bytes
abbrev Put : ℕ → ℕ → List ℕ → List ℕ → List ℕ → Type 0
Put a m w s y = y ≡ take a s ++ w ++ drop (a + m) s

-- the pieces of a trailer
pub put_three : (c : Counts) (n : ℕ) (d : List ℕ) {s₁ s₂ s₃ : List ℕ} → size_of c ≤ length d
    → Put (trailer_at c) 16 (littles 4 (starts_of c)) d s₁
    → Put (trailer_at c + 16) 8 (little 8 n) s₁ s₂
    → Put (trailer_at c + 24) 4 (little 4 28) s₂ s₃
    → s₃ ≡ take (trailer_at c) d ++ trailer_bytes c (Some n) ++ drop (size_of c) d
unfolding trailer_bytes
put_three c n d room e f g =
    let p = take (trailer_at c) d ++ [] in
    let a = littles 4 (starts_of c) in
    let l₀ : length p ≡ trailer_at c = length-append (take (trailer_at c) d) [] ∙ omega (arith, length-take-le (trailer_at c) d (omega arith)) in
    let l₁ : length (p ++ a) ≡ trailer_at c + 16 = length-append p a ∙ omega (arith, long-starts c) in
    let l₂ : length (p ++ a ++ little 8 n) ≡ trailer_at c + 24 = length-append (p ++ a) (little 8 n) ∙ omega (arith, length-little 8 n) in
    let l₃ : length (p ++ a ++ little 8 n ++ little 4 28) ≡ size_of c = length-append (p ++ a ++ little 8 n) (little 4 28) ∙ omega (arith, length-little 4 28) in
    let W₁ = written-more (trailer_at c) 16 a (written_none (trailer_at c) d (omega arith)) l₀ (long-starts c) (omega arith) e in
    let W₂ = written-more (trailer_at c + 16) 8 (little 8 n) W₁ l₁ (length-little 8 n) (omega arith) f in
    let W₃ = written-more (trailer_at c + 24) 4 (little 4 28) W₂ l₂ (length-little 4 28) (omega arith) g in
    written_is (size_of c) W₃ l₃ ∙ simp (append_assoc, append-nil)

module _ (j : Job) (S : Sized j) (d : List ℕ) (room : size_of j.counts ≤ length d) where
  put-points : {s y : List ℕ} → Put 0 64 (headed j) d s → Put 64 (8 * (3 * j.counts.points)) (littles 8 j.points) s y → Written (pointed j) d y
  put-points e f =
      let W = written-more 0 64 {p = []} {d = d} (headed j) (record { fits = zero-le; is = refl }) refl (long-header j S) (omega arith) e in
      written-more 64 (8 * (3 * j.counts.points)) (littles 8 j.points) W (long-header j S) (long-points j S ∙ omega arith) (omega arith) f

  put-quads : {s y : List ℕ} → Written (pointed j) d s → Put (quads_at j.counts) (4 * (4 * j.counts.quads)) (littles 4 j.quads) s y → Written (cornered j) d y
  put-quads W e = written-more (quads_at j.counts) (4 * (4 * j.counts.quads)) (littles 4 j.quads) W (long-pointed j S) (long-quads j S ∙ omega arith) (omega arith) e

  put-labels : {s y : List ℕ} → Written (cornered j) d s → Put (labels_at j.counts) j.counts.labels j.labels s y → Written (labelled j) d y
  put-labels W e = written-more (labels_at j.counts) j.counts.labels j.labels W (long-cornered j S) S.labels (omega arith) e

  put_last : (n : ℕ) {s y : List ℕ} → Written (labelled j) d s → Put (trailer_at j.counts) 28 (trailer_bytes j.counts (Some n)) s y
      → y ≡ file_with (Some n) j ++ drop (size_of j.counts) d
  unfolding file_with
  put_last n W e =
      let t = trailer_bytes j.counts (Some n) in
      let l = long-trailer j.counts (Some n) in
      let G = written-more (trailer_at j.counts) 28 t W (long-labelled j S) l room e in
      written_is (size_of j.counts) G (length-append (labelled j) t ∙ omega (arith, long-labelled j S))

-- the five pieces of a lent job
pub put_five : (x : Job) (n : ℕ) (d : List ℕ) {s₁ s₂ s₃ s₄ s₅ : List ℕ} → Holds x
    → size_of x.counts ≤ length d
    → Put 0 64 (littles 8 (take 8 x.header)) d s₁
    → Put 64 (8 * (3 * x.counts.points)) (littles 8 (take (3 * x.counts.points) x.points)) s₁ s₂
    → Put (quads_at x.counts) (4 * (4 * x.counts.quads)) (littles 4 (take (4 * x.counts.quads) x.quads)) s₂ s₃
    → Put (labels_at x.counts) x.counts.labels (part 0 x.counts.labels x.labels) s₃ s₄
    → Put (trailer_at x.counts) 28 (trailer_bytes x.counts (Some n)) s₄ s₅
    → s₅ ≡ file_with (Some n) (held_job x) ++ drop (size_of x.counts) d
put_five x n d K room e₁ e₂ e₃ e₄ e₅ =
    let j = held_job x in
    let S = held-sized x K in
    put_last j S d room n (put-labels j S d room (put-quads j S d room (put-points j S d room e₁ e₂) e₃) e₄) e₅

-- ---- the work

-- a slice that was cleared is as long as it was
pub still-zeros : {n : ℕ} {w : List ℕ} → w ≡ replicate n 0 → (length w ≡ n) × (w ≡ replicate (length w) 0)
still-zeros {n} {w} e = let l : length w ≡ n = ap length e ∙ length-replicate n 0 in (l, rw l e)

-- ---- the answer

pub saves-refused : (x : Job) (w n : ℕ) (k : Refusal) {F : List ℕ} → save_verdict x w n ≡ Err k
    → F ≡ replicate n 0 → Saves (save_rule x w n) n (Err k) F
unfolding save_rule
saves-refused x w n k e z = rw e (record { answer = refl; file = pad-none 0 n z })

pub saves-done : (x : Job) (w n r m : ℕ) {Z F : List ℕ} → Holds x
    → save_verdict x w n ≡ Accepted → m ≡ sum_of (held_job x)
    → Z ≡ replicate n 0 → F ≡ file_with (Some m) (held_job x) ++ drop (size_of x.counts) Z → r ≡ size_of x.counts
    → Saves (save_rule x w n) n (Ok (record { count = r; sheet = x.counts })) F
unfolding save_rule
saves-done x w n r m {Z} {F} K e i z f g =
    let l = long-file (held_job x) (held-sized x K) (Some (sum_of (held_job x))) in
    let h : F ≡ file_of (held_job x) ++ drop (size_of x.counts) Z = rw i at f in
    rw e (record { answer = rw (g, l); file = pad-over 0 (size_of x.counts) n (file_of (held_job x)) z l h })

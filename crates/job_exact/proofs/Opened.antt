-- What a file that opens is. Assumes nothing.
use Prim.Native.Nat.{ℕ, ◌+◌, ◌-◌, ◌*◌, ◌≤◌}
use mathlib.Core.Path.{◌≡◌, refl, sym, ap, ◌∙◌}
use mathlib.Core.Bool.{Bool, true, false, cond}
use mathlib.Core.List.{List, [], ◌∷◌, ◌++◌, append_assoc}
use native.Mathlib.Omega.{arith}
use lib.Dec.{eqb, ltb}
use lib.ListN.{length, take, drop, length-drop, take-append-drop}
use lib.Seq.{take_all, drop-drop, length-take-le}
use borrow.Author.Tests.{le-ltb, eqb-true, not-false}
use Rattle.lists.specs.Sort.{tabulate}
use Rattle.lists.specs.Regions.{part}
use Rattle.encoding.specs.Encoding.{little, number, littles, number_at, numbers, Bytes}
use Rattle.encoding.proofs.Laws.{little-bytes, littles-numbers, under_drop, under-part}
use Rattle.rule_sheet.specs.declared.Counts.{Counts}
use Rattle.rule_sheet.specs.Lent.{is_large, is_short, before_verdict}
use Rattle.rule_sheet.specs.Outcomes.{refuses, gives, after_test}
use Rattle.rule_job.specs.Files.{Job, sum_of, quads_at, labels_at, trailer_at, starts_of, sum_bytes, trailer_size, trailer_bytes, file_with, file_of, size_of, word_at, trailer_of, job_in}
use Rattle.rule_job.specs.Jobs.{JobRoom, is_short_job, room_in, held_job, save_rule, is_other, summed, open_with, open_rule}
use Rattle.job_save.proofs.Saving.{Sized, accepted-by}
use Rattle.job_open.proofs.Trailers.{EndsWith, found_in}
use Rattle.job_open.proofs.Opening.{in-sized}
use Rattle.std.specs.Prelude.{Ok, Err, Some, None, Option}
use Rattle.rule_sheet.specs.Verdicts.{Verdict}
use Rattle.rule_job.specs.declared.Trailer.{Trailer}
use Rattle.rule_sheet.specs.declared.Refusal.TheVariants as refusals

-- the trailer with which a job is opened
pub record Opened (F : List ℕ) (j : Job) : Type 0 where
  pub counts : Counts
  pub sum : Option ℕ
  pub found : trailer_of F ≡ Some (record { counts = counts; sum = sum })
  pub few : is_large counts ≡ false
  pub own : is_other sum (sum_of j) ≡ false
  pub is : job_in F counts ≡ j

pub open_gives : (F : List ℕ) (r : JobRoom) (j : Job) → open_rule F r ≡ gives j → Opened F j
unfolding open_with summed
open_gives F r j = go (trailer_of F) refl
  where
    own : (c : Counts) (s : Option ℕ) → trailer_of F ≡ Some (record { counts = c; sum = s }) → is_large c ≡ false → (b : Bool) → is_other s (sum_of (job_in F c)) ≡ b
        → cond b (refuses refusals.Sum) (gives (job_in F c)) ≡ gives j → Opened F j
    own c s d f true o e = absurd (let z : ◌≡◌ {A = ℕ} 0 1 = cc in omega arith)
    own c s d f false o e = let i : job_in F c ≡ j = cc in record { counts = c; sum = s; found = d; few = f; own = rw i at o; is = i }

    tested : (c : Counts) (s : Option ℕ) → trailer_of F ≡ Some (record { counts = c; sum = s }) → (v : Verdict) → before_verdict c (is_short_job c r) ≡ v → after_test v (summed s (job_in F c)) ≡ gives j → Opened F j
    tested c s d (Ok u) a e = own c s d (accepted-by c (is_short_job c r) a).0 (is_other s (sum_of (job_in F c))) refl e
    tested c s d (Err n) a e = absurd (let z : ◌≡◌ {A = ℕ} 0 1 = cc in omega arith)

    go : (t : Option Trailer) → trailer_of F ≡ t → open_with F r t ≡ gives j → Opened F j
    go (Some t) d e = tested t.counts t.sum d (before_verdict t.counts (is_short_job t.counts r)) refl e
    go None d e = absurd (let z : ◌≡◌ {A = ℕ} 0 1 = cc in omega arith)

-- a list from a on: its first m elements, and the list from b on
cut : (a m b : ℕ) (F : List ℕ) → b ≡ a + m → take m (drop a F) ++ drop b F ≡ drop a F
cut a m b F e = rw (e, ← drop-drop m a F) (take-append-drop m (drop a F))

-- the bytes of a number that was read
read_number : (k n a : ℕ) (F : List ℕ) → Bytes F → a + k ≤ length F → n ≡ number (part a k F) → little k n ≡ part a k F
read_number k n a F b h e =
    let l : length (part a k F) ≡ k = length-take-le k (drop a F) (rw (length-drop a F) (omega arith)) in
    rw e (little-bytes k (part a k F) (under-part 256 a k F (omega arith) b) l)

-- the last of them
read-last : (k n a : ℕ) (F : List ℕ) → Bytes F → a + k ≡ length F → n ≡ number (part a k F) → little k n ≡ drop a F
read-last k n a F b h e = read_number k n a F b (omega arith) e ∙ take_all k (drop a F) (rw (length-drop a F) (omega arith))

same-four : {a b c d a' b' c' d' : ℕ} → a ≡ a' → b ≡ b' → c ≡ c' → d ≡ d' → a ∷ b ∷ c ∷ d ∷ [] ≡ a' ∷ b' ∷ c' ∷ d' ∷ []
same-four p q r s = cc

-- the end of a file: the sum, if there is one, and the trailer's length
read-end : (F : List ℕ) (c : Counts) (s : Option ℕ) → Bytes F → EndsWith F c s → sum_bytes s ++ little 4 (trailer_size s) ≡ drop (trailer_at c + 16) F
read-end F c None by E =
    let z = E.starts.size in
    let a : length F - 4 ≡ trailer_at c + 16 = omega arith in
    read-last 4 20 (trailer_at c + 16) F by (omega arith) (sym (rw a at E.tail))
read-end F c (Some n) by E =
    let z = E.starts.size in
    let a : length F - 12 ≡ trailer_at c + 16 = omega arith in
    let b : length F - 4 ≡ trailer_at c + 24 = omega arith in
    let m = read_number 8 n (trailer_at c + 16) F by (omega arith) (rw a at E.said) in
    let l = read-last 4 28 (trailer_at c + 24) F by (omega arith) (sym (rw b at E.tail)) in
    rw (m, l) (cut (trailer_at c + 16) 8 (trailer_at c + 24) F (omega arith))

module _ (F : List ℕ) (c : Counts) (s : Option ℕ) (by : Bytes F) (E : EndsWith F c s) where
  fits : trailer_at c + 20 ≤ length F
  fits = at_least s E.starts.size
    where
      at_least : (s : Option ℕ) → trailer_at c + trailer_size s ≡ length F → trailer_at c + 20 ≤ length F
      at_least None e = omega arith
      at_least (Some n) e = omega arith

  -- a start
  at_start : (a i : ℕ) → a ≡ trailer_at c + 4 * i → word_at a F ≡ number_at 4 (drop (trailer_at c) F) i
  at_start a i e = rw (e, ← drop-drop (4 * i) (trailer_at c) F)

  four : numbers 4 4 (drop (trailer_at c) F) ≡ starts_of c
  unfolding numbers tabulate
  four =
      let T = E.starts in
      let z = T.size in
      let a : length F - trailer_size s ≡ trailer_at c = omega arith in
      same-four
      (sym (at_start (trailer_at c) 0 (omega arith)) ∙ rw a at T.points)
      (sym (at_start (trailer_at c + 4) 1 (omega arith)) ∙ rw a at T.quads)
      (sym (at_start (trailer_at c + 8) 2 (omega arith)) ∙ rw a at T.labels)
      (sym (at_start (trailer_at c + 12) 3 (omega arith)) ∙ rw a at T.trailer)

  read-trailer : trailer_bytes c s ≡ drop (trailer_at c) F
  unfolding trailer_bytes
  read-trailer =
      let T = drop (trailer_at c) F in
      let l : 16 ≤ length T = rw (length-drop (trailer_at c) F) (omega (arith, fits)) in
      let e : littles 4 (starts_of c) ≡ take 16 T = rw (← four) (littles-numbers 4 4 T (under_drop 256 (trailer_at c) F by) l) in
      append_assoc (littles 4 (starts_of c)) (sum_bytes s) (little 4 (trailer_size s))
      ∙ rw (e, read-end F c s by E) (cut (trailer_at c) 16 (trailer_at c + 16) F refl)

  read-points : littles 8 (numbers 8 (3 * c.points) (drop 64 F)) ≡ take (24 * c.points) (drop 64 F)
  read-points =
      let m : 8 * (3 * c.points) ≡ 24 * c.points = omega arith in
      rw m at (littles-numbers 8 (3 * c.points) (drop 64 F) (under_drop 256 64 F by) (omega (arith, length-drop 64 F, fits)))

  read-quads : littles 4 (numbers 4 (4 * c.quads) (drop (quads_at c) F)) ≡ take (16 * c.quads) (drop (quads_at c) F)
  read-quads =
      let m : 4 * (4 * c.quads) ≡ 16 * c.quads = omega arith in
      rw m at (littles-numbers 4 (4 * c.quads) (drop (quads_at c) F) (under_drop 256 (quads_at c) F by) (omega (arith, length-drop (quads_at c) F, fits)))

  pub read-job : file_with s (job_in F c) ≡ F
  unfolding file_with job_in
  read-job =
      let h : littles 8 (numbers 8 8 F) ≡ take 64 F = littles-numbers 8 8 F by (omega (arith, fits)) in
      let d = cut (labels_at c) c.labels (trailer_at c) F refl in
      let e = cut (quads_at c) (16 * c.quads) (labels_at c) F refl in
      let f = cut 64 (24 * c.points) (quads_at c) F refl in
      rw (h, read-points, read-quads, read-trailer) (simp append_assoc (rw (d, e, f) (take-append-drop 64 F)))

-- ---- what opens is saved again

held_all : (j : Job) → Sized j → held_job j ≡ j
held_all j S =
    let a = take_all 8 j.header (omega (arith, S.header)) in
    let b = take_all (3 * j.counts.points) j.points (omega (arith, S.points)) in
    let d = take_all (4 * j.counts.quads) j.quads (omega (arith, S.quads)) in
    let e = take_all j.counts.labels j.labels (omega (arith, S.labels)) in
    rw (a, b, d, e)

sized-long : (j : Job) → Sized j → is_short_job j.counts (room_in j j.counts.points) ≡ false
unfolding is_short_job is_short
sized-long j S =
    rw (
      le-ltb (length j.header) 8 (omega (arith, S.header)),
      le-ltb (length j.points) (3 * j.counts.points) (omega (arith, S.points)),
      le-ltb (length j.quads) (4 * j.counts.quads) (omega (arith, S.quads)),
      le-ltb (length j.labels) j.counts.labels (omega (arith, S.labels)),
      le-ltb j.counts.points j.counts.points (omega arith),
    )

save-sized : (j : Job) → is_large j.counts ≡ false → Sized j → save_rule j j.counts.points (size_of j.counts) ≡ gives j
unfolding save_rule before_verdict
save-sized j few S =
    let l : ltb (size_of j.counts) (size_of j.counts) ≡ false = le-ltb (size_of j.counts) (size_of j.counts) (omega arith) in
    rw (few, sized-long j S, l) (ap gives (held_all j S))

save-in : (F : List ℕ) (c : Counts) (j : Job) → is_large c ≡ false → trailer_at c ≤ length F → job_in F c ≡ j → save_rule j j.counts.points (size_of j.counts) ≡ gives j
unfolding job_in
save-in F c j f h e = rw (← e) (save-sized (job_in F c) f (in-sized F c h))

-- a written sum that is not another is the same
pub own-sum : (n m : ℕ) → is_other (Some n) m ≡ false → n ≡ m
own-sum n m o = eqb-true n m (not-false (eqb n m) o)

-- the file by its trailer's length
file-by : (F : List ℕ) (j : Job) (c : Counts) (s : Option ℕ) → EndsWith F c s → is_other s (sum_of j) ≡ false → file_with s j ≡ F
    → cond (eqb (word_at (length F - 4) F) 20) (file_with None j) (file_of j) ≡ F
file-by F j c None E o e = rw E.tail e
file-by F j c (Some n) E o e = rw (E.tail, ← own-sum n (sum_of j) o) e

pub opened-again : (F : List ℕ) (j : Job) → Bytes F → Opened F j
    → (cond (eqb (word_at (length F - 4) F) 20) (file_with None j) (file_of j) ≡ F) × (save_rule j j.counts.points (size_of j.counts) ≡ gives j)
opened-again F j b O =
    let E = found_in F O.counts O.sum O.found in
    let r = read-job F O.counts O.sum b E in
    (file-by F j O.counts O.sum E O.own (rw O.is at r), save-in F O.counts j O.few (omega (arith, fits F O.counts O.sum b E)) O.is)

-- What a saved file opens to. Assumes nothing.
use Prim.Native.Nat.{ℕ, zero, suc, ◌+◌, ◌-◌, ◌*◌, ◌/◌, ◌%◌, ◌^◌, ◌≤◌, ◌<◌}
use mathlib.Core.Path.{◌≡◌, refl, sym, ap, ◌∙◌}
use mathlib.Core.Bool.{true, false}
use mathlib.Core.List.{List, [], ◌++◌, append_assoc, append-nil}
use native.Mathlib.Omega.{arith}
use lib.Dec.{ltb, leb, eqb}
use lib.ListN.{length, get_or, drop, length-append}
use lib.Seq.{take_at, drop_at, drop-append-add}
use borrow.Author.Tests.{le-ltb, le-leb, eq-eqb}
use Rattle.lists.specs.Regions.{part}
use Rattle.lists.proofs.Laws.{get_or-tab}
use Rattle.encoding.specs.Encoding.{little, number, littles, number_at, numbers, Under}
use Rattle.encoding.proofs.Laws.{number-little, length-little, numbers-littles}
use Rattle.rule_sheet.specs.declared.Counts.{Counts}
use Rattle.rule_sheet.specs.Lent.{is_large, before_verdict}
use Rattle.rule_sheet.specs.Outcomes.{gives}
use Rattle.sheet.specs.Sheet.{Few}
use Rattle.sheet.proofs.Tests.{few-of}
use Rattle.rule_job.specs.Files.{Job, sum_of, quads_at, labels_at, trailer_at, starts_of, sum_bytes, trailer_size, trailer_bytes, file_with, word_at, good_starts, counts_by, starts_at, trailer_by, trailer_of, job_in}
use Rattle.rule_job.specs.Jobs.{JobRoom, is_short_job, is_other, summed, open_with, open_rule}
use Rattle.job_save.proofs.Saving.{Sized, headed, pointed, cornered, labelled, long-header, long-pointed, long-cornered, long-labelled, long-starts, long-file}
use Rattle.job_exact.specs.Exact.{InMemory}
use Rattle.std.specs.Prelude.{Some, None, Option}

-- ---- the trailer

starts-under : (c : Counts) → Few c → Under (256 ^ 4) (starts_of c)
starts-under c f zero = omega arith
starts-under c f (suc zero) = omega (arith, f.points≤)
starts-under c f (suc (suc zero)) = omega (arith, f.points≤, f.quads≤)
starts-under c f (suc (suc (suc zero))) = omega (arith, f.points≤, f.quads≤, f.labels≤)
starts-under c f (suc (suc (suc (suc i)))) = omega arith

-- start i, whatever stands behind the starts
start_word : (c : Counts) (R : List ℕ) → Few c → (i : ℕ) → i < 4 → number_at 4 (littles 4 (starts_of c) ++ R) i ≡ get_or (starts_of c) i 0
unfolding numbers
start_word c R f i h =
    let s = littles 4 (starts_of c) ++ R in
    sym (get_or-tab (number_at 4 s) 4 i 0 h) ∙ ap (λ (l : List ℕ). get_or l i 0) (numbers-littles 4 (starts_of c) R (starts-under c f))

-- the number in bytes that stand between others
number-part : (k n a : ℕ) (F B R : List ℕ) → F ≡ B ++ (little k n ++ R) → length B ≡ a → n < 256 ^ k → number (part a k F) ≡ n
number-part k n a F B R e l h = rw (e, drop_at B (little k n ++ R) a l, take_at (little k n) R k (length-little k n)) (number-little k n h)

drop_past : (B R : List ℕ) (t a k : ℕ) → length B ≡ t → a ≡ t + k → drop a (B ++ R) ≡ drop k R
drop_past B R t a k l e = rw (e, ← l) (drop-append-add B R k)

-- what is said of a sum fits
abbrev pub Fits : Option ℕ → Type 0
Fits None = Unit {0}
Fits (Some n) = n < 256 ^ 8

module _ (j : Job) (few : is_large j.counts ≡ false) (S : Sized j) (s : Option ℕ) where
  abbrev c : Counts
  c = j.counts

  abbrev F : List ℕ
  F = file_with s j

  abbrev starts : List ℕ
  starts = littles 4 (starts_of c)

  start-at : (a i : ℕ) → a ≡ trailer_at c + 4 * i → i < 4 → word_at a F ≡ get_or (starts_of c) i 0
  unfolding file_with trailer_bytes
  start-at a i e h =
      let R = sum_bytes s ++ little 4 (trailer_size s) in
      let f : F ≡ labelled j ++ (starts ++ R) = ap (λ (l : List ℕ). labelled j ++ l) (append_assoc starts (sum_bytes s) (little 4 (trailer_size s))) in
      let d : drop a F ≡ drop (4 * i) (starts ++ R) = ap (drop a) f ∙ drop_past (labelled j) (starts ++ R) (trailer_at c) a (4 * i) (long-labelled j S) e in
      rw d (start_word c R (few-of c few) i h)

  -- what the starts tell
  saved-starts : (r : Option ℕ) → starts_at (trailer_at c) (trailer_size s) r F ≡ Some (record { counts = c; sum = r })
  unfolding starts_at counts_by good_starts
  saved-starts r =
      let n = long-file j S s in
      let a : (quads_at c - 64) % 24 ≡ 0 = omega arith in
      let b : (labels_at c - quads_at c) % 16 ≡ 0 = omega arith in
      let p : leb 64 (quads_at c) ≡ true = le-leb 64 (quads_at c) (omega arith) in
      let q : leb (quads_at c) (labels_at c) ≡ true = le-leb (quads_at c) (labels_at c) (omega arith) in
      let t : leb (labels_at c) (trailer_at c) ≡ true = le-leb (labels_at c) (trailer_at c) (omega arith) in
      let z : eqb (trailer_at c + trailer_size s) (trailer_at c + trailer_size s) ≡ true = eq-eqb (trailer_at c + trailer_size s) (trailer_at c + trailer_size s) refl in
      let np : (quads_at c - 64) / 24 ≡ c.points = omega arith in
      let nq : (labels_at c - quads_at c) / 16 ≡ c.quads = omega arith in
      let nl : trailer_at c - labels_at c ≡ c.labels = omega arith in
      let w₀ = start-at (trailer_at c) 0 (omega arith) (omega arith) in
      let w₁ = start-at (trailer_at c + 4) 1 (omega arith) (omega arith) in
      let w₂ = start-at (trailer_at c + 8) 2 (omega arith) (omega arith) in
      let w₃ = start-at (trailer_at c + 12) 3 (omega arith) (omega arith) in
      rw (w₀, w₁, w₂, w₃, n, p, a, q, b, t, z, np, nq, nl)

  -- the trailer's length
  saved-tail : trailer_size s < 256 ^ 4 → word_at (length F - 4) F ≡ trailer_size s
  unfolding file_with trailer_bytes
  saved-tail h =
      let M = starts ++ sum_bytes s in
      let Z = little 4 (trailer_size s) in
      let l : length (labelled j ++ M) ≡ length F - 4 = omega (arith, length-append (labelled j) (M ++ Z), length-append M Z, length-append (labelled j) M, length-little 4 (trailer_size s)) in
      number-part 4 (trailer_size s) (length F - 4) F (labelled j ++ M) [] (simp (append_assoc, append-nil)) l h

  -- what stands behind the quads, the points and the header
  abbrev behind_quads : List ℕ
  behind_quads = j.labels ++ trailer_bytes c s

  abbrev behind_points : List ℕ
  behind_points = littles 4 j.quads ++ behind_quads

  abbrev behind_header : List ℕ
  behind_header = littles 8 j.points ++ behind_points

  from-labels : F ≡ cornered j ++ behind_quads
  unfolding file_with
  from-labels = append_assoc (cornered j) j.labels (trailer_bytes c s)

  from-quads : F ≡ pointed j ++ behind_points
  from-quads = from-labels ∙ append_assoc (pointed j) (littles 4 j.quads) behind_quads

  from-points : F ≡ headed j ++ behind_header
  from-points = from-quads ∙ append_assoc (headed j) (littles 8 j.points) behind_points

  saved-header : Under (2 ^ 64) j.header → numbers 8 8 F ≡ j.header
  saved-header u = rw from-points (rw S.header at (numbers-littles 8 j.header behind_header u))

  saved-points : Under (2 ^ 64) j.points → numbers 8 (3 * c.points) (drop 64 F) ≡ j.points
  saved-points u =
      let e : drop 64 F ≡ behind_header = ap (drop 64) from-points ∙ drop_at (headed j) behind_header 64 (long-header j S) in
      rw e (rw S.points at (numbers-littles 8 j.points behind_points u))

  saved-quads : Under (2 ^ 32) j.quads → numbers 4 (4 * c.quads) (drop (quads_at c) F) ≡ j.quads
  saved-quads u =
      let e : drop (quads_at c) F ≡ behind_points = ap (drop (quads_at c)) from-quads ∙ drop_at (pointed j) behind_points (quads_at c) (long-pointed j S) in
      rw e (rw S.quads at (numbers-littles 4 j.quads behind_quads u))

  saved-labels : part (labels_at c) c.labels F ≡ j.labels
  saved-labels =
      let e : drop (labels_at c) F ≡ behind_quads = ap (drop (labels_at c)) from-labels ∙ drop_at (cornered j) behind_quads (labels_at c) (long-cornered j S) in
      rw e (take_at j.labels (trailer_bytes c s) c.labels S.labels)

  saved-job : InMemory j → job_in F c ≡ j
  unfolding job_in
  saved-job M = rw (saved-header M.header, saved-points M.points, saved-quads M.quads, saved-labels)

-- ---- by what is said of the sum

module _ (j : Job) (few : is_large j.counts ≡ false) (S : Sized j) where
  -- the sum stands before the trailer's length
  saved-sum : (n : ℕ) → n < 256 ^ 8 → number (part (length (file_with (Some n) j) - 12) 8 (file_with (Some n) j)) ≡ n
  unfolding file_with trailer_bytes
  saved-sum n h =
      let A = littles 4 (starts_of j.counts) in
      let l : length (labelled j ++ A) ≡ length (file_with (Some n) j) - 12 = omega (arith, length-append (labelled j) A, long-labelled j S, long-starts j.counts, long-file j S (Some n)) in
      number-part 8 n (length (file_with (Some n) j) - 12) (file_with (Some n) j) (labelled j ++ A) (little 4 28) (simp append_assoc) l h

  pub saved-trailer : (s : Option ℕ) → Fits s → trailer_of (file_with s j) ≡ Some (record { counts = j.counts; sum = s })
  unfolding trailer_of trailer_by
  saved-trailer None h =
      let n = long-file j S None in
      let l : ltb (length (file_with None j)) 84 ≡ false = le-ltb (length (file_with None j)) 84 (omega arith) in
      let a : length (file_with None j) - 20 ≡ trailer_at j.counts = omega arith in
      rw (l, saved-tail j few S None (omega arith), a) (saved-starts j few S None None)
  saved-trailer (Some m) h =
      let n = long-file j S (Some m) in
      let l : ltb (length (file_with (Some m) j)) 84 ≡ false = le-ltb (length (file_with (Some m) j)) 84 (omega arith) in
      let a : length (file_with (Some m) j) - 28 ≡ trailer_at j.counts = omega arith in
      rw (l, saved-tail j few S (Some m) (omega arith), saved-sum m h, a) (saved-starts j few S (Some m) (Some m))

  -- a file of a job opens to it, if the sum is its own
  pub open-bytes : (s : Option ℕ) → Fits s → is_other s (sum_of j) ≡ false → InMemory j → (r : JobRoom) → is_short_job j.counts r ≡ false
      → open_rule (file_with s j) r ≡ gives j
  unfolding open_with before_verdict summed
  open-bytes s f o M r h = rw (saved-trailer s f, few, h, saved-job j few S s M, o) refl

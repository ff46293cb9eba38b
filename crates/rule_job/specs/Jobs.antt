-- What `save` and `open` answer and leave in their slices, and what is told of the sum alone: document 02, Points 1
-- and 9.
use Rattle.std.specs.Prelude.{ℕ, ◌*◌, ◌≡◌, Bool, false, not, cond, ◌||◌, List, [], eqb, ltb, length, take, Ok, Err}
use Rattle.std.specs.Prelude.{Some, None, Option}
use Rattle.rule_sheet.specs.declared.Counts.{Counts}
use Rattle.rule_sheet.specs.Lent.{Room, room_with, is_short, before_verdict}
use Rattle.rule_sheet.specs.Outcomes.{Outcome, refuses, gives, after_test}
use Rattle.rule_sheet.specs.Results.{padded}
use Rattle.rule_job.specs.Files.{Job, job_of, sum_of, size_of, file_of, trailer_of, job_in}
use Rattle.rule_sheet.specs.Verdicts.{Answer}
use Rattle.rule_job.specs.declared.Trailer.{Trailer}
use Rattle.rule_sheet.specs.declared.Refusal.TheVariants as refusals
use Rattle.rule_sheet.specs.declared.Refusal.TheVariants.{Short}

-- how many elements the slices of a job have: that of its header, those of its sheet, and that of the work
pub record JobRoom : Type 0 where
  pub header : ℕ
  pub sheet : Room
  pub work : ℕ

abbrev pub job_room_with : ℕ → ℕ → ℕ → ℕ → ℕ → JobRoom
job_room_with h p q l w = record { header = h; sheet = room_with p q l; work = w }

abbrev pub job_room_of : List ℕ → List ℕ → List ℕ → List ℕ → List ℕ → JobRoom
job_room_of H P Q L W = job_room_with (length H) (length P) (length Q) (length L) (length W)

-- 13, short: "too small a lent slice", and "one u32 of work for each point, else 13"
unfoldable pub is_short_job : Counts → JobRoom → Bool
is_short_job c r = ltb r.header 8 || is_short c r.sheet || ltb r.work c.points

-- ---- saving

-- the slices of a lent job, with w elements of work
abbrev pub room_in : Job → ℕ → JobRoom
room_in x w = job_room_with (length x.header) (length x.points) (length x.quads) (length x.labels) w

-- the job that they hold
abbrev pub held_job : Job → Job
held_job x =
    job_of x.counts (take 8 x.header) (take (3 * x.counts.points) x.points)
    (take (4 * x.counts.quads) x.quads) (take x.counts.labels x.labels)

-- saving the job x with w elements of work to a slice of n bytes: "More points, quads or labels than document 01 allows
-- is 12, and too small a lent slice is 13"
unfoldable pub save_rule : Job → ℕ → ℕ → Outcome Job
save_rule x w n =
    after_test (before_verdict x.counts (is_short_job x.counts (room_in x w) || ltb n (size_of x.counts)))
    (gives (held_job x))

-- its answer counts the bytes of the file
abbrev pub saved_answer : Outcome Job → Answer
saved_answer (refuses n) = Err n
saved_answer (gives j) = Ok (record { count = length (file_of j); sheet = j.counts })

-- the file that an outcome shows: none where it is a refusal
abbrev pub file_shown : Outcome Job → List ℕ
file_shown (refuses n) = []
file_shown (gives j) = file_of j

-- the answer r, and the file's slice of n bytes at the end: zeros behind the file, and all zeros on a refusal
pub record Saves (o : Outcome Job) (n : ℕ) (r : Answer) (F : List ℕ) : Type 0 where
  pub answer : r ≡ saved_answer o
  pub file : F ≡ padded 0 n (file_shown o)

-- ---- opening

-- a sum is written that is not this one
abbrev pub is_other : Option ℕ → ℕ → Bool
is_other None n = false
is_other (Some m) n = not (eqb m n)

-- a job whose trailer says this of the sum: "17 sum, .. after 12 and 13"
unfoldable pub summed : Option ℕ → Job → Outcome Job
summed s j = cond (is_other s (sum_of j)) (refuses refusals.Sum) (gives j)

-- what is opened by what a trailer tells: "14 .. before 12 and 13"
unfoldable pub open_with : List ℕ → JobRoom → Option Trailer → Outcome Job
open_with F r (Some t) =
    after_test (before_verdict t.counts (is_short_job t.counts r)) (summed t.sum (job_in F t.counts))
open_with F r None = refuses refusals.Trailer

-- opening the file F into slices of these lengths
abbrev pub open_rule : List ℕ → JobRoom → Outcome Job
open_rule F r = open_with F r (trailer_of F)

-- its answer counts nothing
abbrev pub opened_answer : Outcome Job → Answer
opened_answer (refuses n) = Err n
opened_answer (gives j) = Ok (record { count = 0; sheet = j.counts })

-- the job that an outcome shows: none where it is a refusal
abbrev pub job_shown : Outcome Job → Job
job_shown (refuses n) = job_of (record { points = 0; quads = 0; labels = 0 }) [] [] [] []
job_shown (gives j) = j

-- the answer r, and the four slices at the end: zeros behind the job, and all zeros on a refusal
pub record Opens (o : Outcome Job) (room : JobRoom) (r : Answer) (H P Q L : List ℕ) : Type 0 where
  pub answer : r ≡ opened_answer o
  pub header : H ≡ padded 0 room.header (job_shown o).header
  pub points : P ≡ padded 0 room.sheet.points (job_shown o).points
  pub quads : Q ≡ padded 0 room.sheet.quads (job_shown o).quads
  pub labelled : L ≡ padded 0 room.sheet.labels (job_shown o).labels

-- ---- reading the sum alone: "Planners want to read it without opening the sheet."

-- what a trailer says of the sum: 14; then 13, where what it is told in is too short
unfoldable pub sum_by : Option Trailer → Bool → Outcome (Option ℕ)
sum_by (Some t) too_short = cond too_short (refuses Short) (gives t.sum)
sum_by None too_short = refuses refusals.Trailer

-- what the file F says of it
abbrev pub sum_rule : List ℕ → Bool → Outcome (Option ℕ)
sum_rule F too_short = sum_by (trailer_of F) too_short

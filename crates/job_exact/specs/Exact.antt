-- What document 02, Points 1 and 9 say of job files as a whole: of their starts and sums, of saving and opening.
use Rattle.std.specs.Prelude.{ℕ, ◌-◌, ◌^◌, ◌≤◌, ◌<◌, ◌≡◌, false, cond, List, eqb, length, take, Ok, Some, None}
use Rattle.encoding.specs.Encoding.{Under, Bytes}
use Rattle.rule_sheet.specs.declared.Tally.{Tally}
use Rattle.rule_sheet.specs.Quads.{Quad}
use Rattle.rule_sheet.specs.Lent.{Lent, held, limit}
use Rattle.rule_sheet.specs.Outcomes.{gives}
use Rattle.rule_sheet.specs.Sound.{squared_of}
use Rattle.rule_sheet.specs.Squared.{squared}
use Rattle.rule_job.specs.Files.{Job, job_of, sum_of, quads_at, labels_at, trailer_at, file_with, file_of, size_of}
use Rattle.rule_job.specs.Files.{word_at}
use Rattle.rule_job.specs.Jobs.{JobRoom, is_short_job, held_job, save_rule, Saves, open_rule, sum_rule}

-- what the types of lent slices say: "eight f64", coordinates of 64 bits, corners of 32, labels of 8
pub record InMemory (x : Job) : Type 0 where
  pub header : Under (2 ^ 64) x.header
  pub points : Under (2 ^ 64) x.points
  pub quads : Under (2 ^ 32) x.quads
  pub labels : Bytes x.labels

-- ---- starts and sums fit

-- the starts of a saved file: "each a u32"
pub record StartsFit (j : Job) : Type 0 where
  pub quads : quads_at j.counts < 2 ^ 32
  pub labels : labels_at j.counts < 2 ^ 32
  pub trailer : trailer_at j.counts < 2 ^ 32
  pub size : length (file_of j) ≤ 42991708

-- so are they in every file that is saved
unfoldable pub EveryStart : Type 0
EveryStart = (x : Job) (w n : ℕ) (j : Job) → save_rule x w n ≡ gives j → StartsFit j

-- the squared sum of any quads within the limits is at most 2^44 − 2^24: "as a u64"
unfoldable pub EverySum : Type 0
EverySum = (n : ℕ) (S : List Quad) → n ≤ limit → length S ≤ limit → squared n S ≤ 17592169267200

-- ---- saving and opening

-- "Saving and opening gives the same bits". Saving the job x of lent slices answers t and leaves F; as many bytes of F
-- as t counts, opened into slices that hold its counts, are the job that was saved.
unfoldable pub SavedOpens : Type 0
SavedOpens = (x : Job) (w n : ℕ) (t : Tally) (F : List ℕ) (room : JobRoom)
    → InMemory x → Saves (save_rule x w n) n (Ok t) F → is_short_job x.counts room ≡ false
    → open_rule (take t.count F) room ≡ gives (held_job x)

-- "Files with 20 still open": the file without a sum of a job that can be saved opens to it
unfoldable pub OlderOpens : Type 0
OlderOpens = (x : Job) (w n : ℕ) (j : Job) (room : JobRoom)
    → InMemory x → save_rule x w n ≡ gives j → is_short_job j.counts room ≡ false
    → open_rule (file_with None j) room ≡ gives j

-- every file that opens is one of these two. Bytes that open to j are its file, with 20 at the end the one without a
-- sum; and saving j to a slice that just holds its file gives it.
unfoldable pub OpenedSaves : Type 0
OpenedSaves = (F : List ℕ) (room : JobRoom) (j : Job)
    → Bytes F → open_rule F room ≡ gives j
    → (cond (eqb (word_at (length F - 4) F) 20) (file_with None j) (file_of j) ≡ F)
    × (save_rule j j.counts.points (size_of j.counts) ≡ gives j)

-- ---- the sum that is told without opening

-- what is saved tells its sum
unfoldable pub SavedTells : Type 0
SavedTells = (x : Job) (w n : ℕ) (t : Tally) (F : List ℕ)
    → Saves (save_rule x w n) n (Ok t) F → sum_rule (take t.count F) false ≡ gives (Some (sum_of (held_job x)))

-- of a file that opens, the sum that is told is the sheet's
unfoldable pub ToldIsTrue : Type 0
ToldIsTrue = (F : List ℕ) (room : JobRoom) (j : Job) (n : ℕ)
    → open_rule F room ≡ gives j → sum_rule F false ≡ gives (Some n) → n ≡ sum_of j

-- and that is demand 3's sum of the sheet that other operations are lent in the same quads
unfoldable pub IsDemand3 : Type 0
IsDemand3 = (x : Lent) (H P L : List ℕ) → sum_of (job_of x.counts H P x.quads L) ≡ squared_of (held x)

-- What `quads_save_job` and `quads_open_job` show: a number, 0 if accepted, and four numbers in the answer slice; and
-- what `quads_job_sum` shows: a number and two.
use Rattle.std.specs.Prelude.{ℕ, ◌≡◌, Bool, cond, List, [], ◌∷◌, ltb, length, Some, None, Option}
use Rattle.rule_sheet.specs.Numbers.{refusal_number}
use Rattle.rule_sheet.specs.Outcomes.{Outcome, refuses, gives}
use Rattle.rule_job.specs.Files.{Job}
use Rattle.rule_job.specs.Jobs.{JobRoom, job_room_with, saved_answer, Saves, open_rule, opened_answer, Opens}
use Rattle.rule_exports.specs.Exports.{is_short_answer, Shows}
use Rattle.rule_exports.specs.Measured.{fronted}

-- saving to a slice of m bytes: the number n, the file's slice F at the end, and the answer slice, l at the start and
-- l' at the end
pub record ExportSaves (o : Outcome Job) (m : ℕ) (l : List ℕ) (n : ℕ) (F l' : List ℕ) : Type 0 where
  pub shows : Shows (saved_answer o) l n l'
  pub saves : Saves o m (saved_answer o) F

-- opening with the answer slice l: "14 .. before 12 and 13", so a short answer slice counts as no slices
abbrev pub open_by : List ℕ → JobRoom → List ℕ → Outcome Job
open_by F room l = open_rule F (cond (is_short_answer l) (job_room_with 0 0 0 0 0) room)

-- the number n and the slices at the end, l and l' as above
pub record ExportOpens (o : Outcome Job) (room : JobRoom) (l : List ℕ) (n : ℕ) (H P Q L l' : List ℕ) : Type 0 where
  pub shows : Shows (opened_answer o) l n l'
  pub opens : Opens o room (opened_answer o) H P Q L

-- ---- the sum alone

-- an answer slice is too short for it: it has fewer than 2 elements
abbrev pub is_short_sum : List ℕ → Bool
is_short_sum l = ltb (length l) 2

-- the two numbers: 1 and the sum where one is written, else zeros
unfoldable pub sum_shown : Outcome (Option ℕ) → List ℕ
sum_shown (gives (Some n)) = 1 ∷ n ∷ []
sum_shown (gives None) = 0 ∷ 0 ∷ []
sum_shown (refuses n) = 0 ∷ 0 ∷ []

-- the number: 0 if accepted
unfoldable pub sum_answered : Outcome (Option ℕ) → ℕ
sum_answered (gives s) = 0
sum_answered (refuses n) = refusal_number n

-- the number n and the answer slice, l at the start and l' at the end: untouched if it is too short
pub record ShowsSum (o : Outcome (Option ℕ)) (l : List ℕ) (n : ℕ) (l' : List ℕ) : Type 0 where
  pub number : n ≡ sum_answered o
  pub answer : l' ≡ cond (is_short_sum l) l (fronted (sum_shown o) l)

-- What the exports on sheets show: a number, 0 if accepted, and four numbers in the answer slice.
use Rattle.std.specs.Prelude.{ℕ, ◌≡◌, Bool, cond, List, ltb, Float, length, set, Result, Ok, Err}
use Rattle.rule_sheet.specs.declared.Counts.{Counts}
use Rattle.rule_sheet.specs.Sheet.{Sheet}
use Rattle.rule_sheet.specs.Lent.{Lent, Room, before_verdict}
use Rattle.rule_sheet.specs.Outcomes.{Outcome, RunEnd, after_test}
use Rattle.rule_sheet.specs.Results.{answer_of, made, shown_counts, Makes, Alters, AltersQuads}
use Rattle.rule_sheet.specs.declared.Refusal.{Refusal}
use Rattle.rule_sheet.specs.Numbers.{refusal_number}
use Rattle.rule_sheet.specs.Verdicts.{Verdict, Answer}

-- an answer slice is too short: it has fewer than 4 elements
abbrev pub is_short_answer : List ℕ → Bool
is_short_answer l = ltb (length l) 4

-- an operation on a lent sheet of these counts that is told no band: 12, then every 13
abbrev pub with_answer : {A : Type 0} → Counts → List ℕ → Outcome A → Outcome A
with_answer c l o = after_test (before_verdict c (is_short_answer l)) o

-- the number that an export returns: 0 if accepted
unfoldable pub answer_number : {A : Type 0} → Result A Refusal → ℕ
answer_number (Ok t) = 0
answer_number (Err n) = refusal_number n

-- the count that an answer shows: 0 if refused
unfoldable pub answer_count : Answer → ℕ
answer_count (Ok t) = t.count
answer_count (Err n) = 0

-- the answer slice l at its end: the count and the counts of the sheet in its front; untouched if it is too short
unfoldable pub answer_left : Answer → List ℕ → List ℕ
answer_left r l =
    let c = shown_counts r in
    cond (is_short_answer l) l (set (set (set (set l 0 (answer_count r)) 1 c.points) 2 c.quads) 3 c.labels)

-- the number n of an export with the answer r, and its answer slice l' at its end, l at its start
pub record Shows (r : Answer) (l : List ℕ) (n : ℕ) (l' : List ℕ) : Type 0 where
  pub number : n ≡ answer_number r
  pub answer : l' ≡ answer_left r l

-- an export that makes a sheet; l, P, Q, L and l' as above
pub record ExportMakes (o : Outcome Sheet) (room : Room) (l : List ℕ) (n : ℕ) (P : List Float) (Q L l' : List ℕ)
    : Type 0 where
  pub shows : Shows (answer_of (made o)) l n l'
  pub makes : Makes o room (answer_of (made o)) P Q L

-- one that alters the sheet x
pub record ExportAlters (o : Outcome (RunEnd Sheet)) (x : Lent) (l : List ℕ) (n : ℕ) (P : List Float) (Q L l' : List ℕ)
    : Type 0 where
  pub shows : Shows (answer_of o) l n l'
  pub alters : Alters o x (answer_of o) P Q L

-- one that alters its quads alone
pub record ExportAltersQuads (o : Outcome (RunEnd Sheet)) (x : Lent) (l : List ℕ) (n : ℕ) (Q l' : List ℕ) : Type 0 where
  pub shows : Shows (answer_of o) l n l'
  pub alters : AltersQuads o x (answer_of o) Q

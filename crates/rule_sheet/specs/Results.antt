-- What an operation answers, and what it leaves in its slices.
use Rattle.std.specs.Prelude.{ℕ, ◌-◌, ◌≡◌, List, [], ◌++◌, length, replicate, Float, Ok, Err}
use Rattle.numeric.specs.Num.{zero_f}
use Rattle.rule_sheet.specs.declared.Counts.{Counts}
use Rattle.rule_sheet.specs.Flat.{flat_quads}
use Rattle.rule_sheet.specs.Sheet.{Sheet, flat_points, counts_of}
use Rattle.rule_sheet.specs.Lent.{Lent, Room}
use Rattle.rule_sheet.specs.Outcomes.{Outcome, refuses, gives, RunEnd}
use Rattle.rule_sheet.specs.Verdicts.{Answer}

-- the answer of an outcome: its refusal, or what it counted and the counts of the sheet that it leaves
abbrev pub answer_of : Outcome (RunEnd Sheet) → Answer
answer_of (refuses n) = Err n
answer_of (gives e) = Ok (record { count = e.count; sheet = counts_of e.left })

-- n elements that begin with those of l, and are zeros behind them
unfoldable pub padded : {A : Type 0} → A → ℕ → List A → List A
padded zero n l = l ++ replicate (n - length l) zero

-- "Work slices are zero after every call": W and F at its start, W' and F' at its end
pub record Cleared (W : List ℕ) (F : List Float) (W' : List ℕ) (F' : List Float) : Type 0 where
  pub work : W' ≡ replicate (length W) 0
  pub floats : F' ≡ replicate (length F) zero_f

-- ---- an operation that makes a sheet counts nothing

abbrev pub made : Outcome Sheet → Outcome (RunEnd Sheet)
made (refuses n) = refuses n
made (gives s) = gives (record { left = s; count = 0 })

-- the sheet that an outcome shows: none where it is a refusal
abbrev pub shown : Outcome Sheet → Sheet
shown (refuses n) = record { points = []; quads = []; labels = [] }
shown (gives s) = s

-- the counts that an answer shows: none where it is a refusal
unfoldable pub shown_counts : Answer → Counts
shown_counts (Ok t) = t.sheet
shown_counts (Err n) = record { points = 0; quads = 0; labels = 0 }

-- the answer r of an operation that makes a sheet, and its result slices at its end: "result slices become zero" on a
-- refusal, "so are unused tails after success"
pub record Makes (o : Outcome Sheet) (room : Room) (r : Answer) (P : List Float) (Q L : List ℕ) : Type 0 where
  pub answer : r ≡ answer_of (made o)
  pub points : P ≡ padded zero_f room.points (flat_points (shown o).points)
  pub quads : Q ≡ padded 0 room.quads (flat_quads (shown o).quads)
  pub labelled : L ≡ padded 0 room.labels (shown o).labels

-- ---- an operation that alters the sheet in lent slices

-- what an outcome leaves in a slice: "A sheet altered in its own slices stays unchanged" on a refusal; "so are unused
-- tails after success"
abbrev pub points_left : Outcome (RunEnd Sheet) → List Float → List Float
points_left (refuses n) P = P
points_left (gives e) P = padded zero_f (length P) (flat_points e.left.points)

abbrev pub quads_left : Outcome (RunEnd Sheet) → List ℕ → List ℕ
quads_left (refuses n) Q = Q
quads_left (gives e) Q = padded 0 (length Q) (flat_quads e.left.quads)

abbrev pub labels_left : Outcome (RunEnd Sheet) → List ℕ → List ℕ
labels_left (refuses n) L = L
labels_left (gives e) L = padded 0 (length L) e.left.labels

-- the answer r of an operation that alters the sheet x, and the slices P, Q and L at its end
pub record Alters (o : Outcome (RunEnd Sheet)) (x : Lent) (r : Answer) (P : List Float) (Q L : List ℕ) : Type 0 where
  pub answer : r ≡ answer_of o
  pub points : P ≡ points_left o x.points
  pub quads : Q ≡ quads_left o x.quads
  pub labelled : L ≡ labels_left o x.labels

-- the same for an operation that may write the quads alone
pub record AltersQuads (o : Outcome (RunEnd Sheet)) (x : Lent) (r : Answer) (Q : List ℕ) : Type 0 where
  pub answer : r ≡ answer_of o
  pub quads : Q ≡ quads_left o x.quads

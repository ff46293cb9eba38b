-- What an operation is lent: the slices of a sheet with its counts, work slices, result slices; and their tests by
-- length, 12 and 13.
use Rattle.std.specs.Prelude.{ℕ, ◌+◌, ◌*◌, Bool, cond, ◌||◌, List, length, ltb, Float, Err}
use Rattle.rule_sheet.specs.declared.Counts.{Counts}
use Rattle.rule_sheet.specs.Sheet.{Sheet, sheet_of}
use Rattle.rule_sheet.specs.Verdicts.{Verdict, Accepted}
use Rattle.rule_sheet.specs.declared.Refusal.TheVariants.{Large, Short}

-- a sheet in lent slices: its counts, coordinates, corners and labels
pub record Lent : Type 0 where
  pub counts : Counts
  pub points : List Float
  pub quads : List ℕ
  pub labels : List ℕ

abbrev pub lent_of : Counts → List Float → List ℕ → List ℕ → Lent
lent_of c P Q L = record { counts = c; points = P; quads = Q; labels = L }

-- the sheet that they hold
abbrev pub held : Lent → Sheet
held x = sheet_of x.counts x.points x.quads x.labels

-- how many elements the three slices of a sheet have
pub record Room : Type 0 where
  pub points : ℕ
  pub quads : ℕ
  pub labels : ℕ

abbrev pub room_with : ℕ → ℕ → ℕ → Room
room_with p q l = record { points = p; quads = q; labels = l }

abbrev pub room_of : List Float → List ℕ → List ℕ → Room
room_of P Q L = room_with (length P) (length Q) (length L)

abbrev pub room_in : Lent → Room
room_in x = room_of x.points x.quads x.labels

-- how many elements the two work slices have
pub record Work : Type 0 where
  pub numbers : ℕ
  pub floats : ℕ

abbrev pub work_with : ℕ → ℕ → Work
work_with w f = record { numbers = w; floats = f }

abbrev pub work_of : List ℕ → List Float → Work
work_of W F = work_with (length W) (length F)

-- "A sheet has at most 1,048,576 points, as many quads and as many labels."
abbrev pub limit : ℕ
limit = 1048576

-- 12, large: "lent sheet above the limit"
unfoldable pub is_large : Counts → Bool
is_large c = ltb limit c.points || ltb limit c.quads || ltb limit c.labels

-- 13, short: the slices hold less than the counts say
unfoldable pub is_short : Counts → Room → Bool
is_short c r = ltb r.points (3 * c.points) || ltb r.quads (4 * c.quads) || ltb r.labels c.labels

-- 13, short: "Work is 64 u32 and 16 f64 for each point and quad"
unfoldable pub is_short_work : Counts → Work → Bool
is_short_work c w = ltb w.numbers (64 * (c.points + c.quads)) || ltb w.floats (16 * (c.points + c.quads))

-- the tests of lent slices by their lengths: 12, 13
unfoldable pub lent_verdict : Counts → Room → Work → Verdict
lent_verdict c r w =
    cond (is_large c) (Err Large) (cond (is_short c r) (Err Short)
    (cond (is_short_work c w) (Err Short) Accepted))

-- 12, then 13 where something else that a call is lent is too short
unfoldable pub before_verdict : Counts → Bool → Verdict
before_verdict c too_short = cond (is_large c) (Err Large) (cond too_short (Err Short) Accepted)

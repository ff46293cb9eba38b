-- Demand 3 as one claim about a list of calls of `regularize`, `improve_layout`, `coarsen` and `subdivide`: a call
-- is what it was lent, what it answered and what it left, by its contract.
-- Document 01, "The finer sheet and the rows".
use Rattle.std.specs.Prelude.{ℕ, ◌+◌, ◌*◌, ◌/◌, ◌%◌, ◌^◌, ◌≤◌, ◌<◌, Bool, true, false, cond, ◌≡◌, List, [], ◌∷◌, ◌++◌}
use Rattle.std.specs.Prelude.{Ok, Err}
use Rattle.std.specs.Prelude.{length, Float}
use Rattle.setting.specs.Settings.{Setting}
use Rattle.rule_sheet.specs.declared.Counts.{Counts}
use Rattle.rule_sheet.specs.declared.Tally.{Tally}
use Rattle.rule_sheet.specs.Quads.{mask_of}
use Rattle.rule_sheet.specs.Sheet.{Sheet}
use Rattle.rule_sheet.specs.Lent.{Lent, Work, Room, lent_of, held}
use Rattle.rule_sheet.specs.Sound.{Sound, SameEuler, squared_of}
use Rattle.rule_sheet.specs.Results.{Makes, Alters, AltersQuads}
use Rattle.rule_finer.specs.Subdivide.{subdivide_rule}
use Rattle.rule_regularize.specs.Swaps.{regularize_gain, NoSwap}
use Rattle.rule_regularize.specs.SwapFits.{swap_fits}
use Rattle.rule_regularize.specs.Rule.{regularize_rule, improve_rule}
use Rattle.rule_coarsen.specs.Rule.{coarsen_rule}
use Rattle.rule_sheet.specs.Verdicts.{Answer}

-- ---- one call

-- A call that was made: what it brought ("each call may bring its own field and band") and its passes, the sheet x that
-- it was lent, its work slices w, its answer r, and at its end the slices that it may write; those of `subdivide` are
-- result slices.
pub data Call : Type 0 where
  regularize_call : (s : Setting) (passes : ℕ) (x : Lent) (w : Work) (r : Answer) (quads : List ℕ) → Call
  improve_call : (s : Setting) (passes : ℕ) (x : Lent) (w : Work) (r : Answer) (quads : List ℕ) → Call
  coarsen_call : (s : Setting) (passes : ℕ) (x : Lent) (w : Work) (r : Answer) (points : List Float)
      (quads labels : List ℕ) → Call
  subdivide_call : (s : Setting) (x : Lent) (w : Work) (room : Room) (r : Answer) (points : List Float)
      (quads labels : List ℕ) → Call

-- all that is known of a call: the contract of its operation, as the function states it
abbrev pub Contract : Call → Type 0
Contract (regularize_call s k x w r Q) = AltersQuads (regularize_rule s k x w) x r Q
Contract (improve_call s k x w r Q) = AltersQuads (improve_rule s k x w) x r Q
Contract (coarsen_call s k x w r P Q L) = Alters (coarsen_rule s k x w) x r P Q L
Contract (subdivide_call s x w room r P Q L) = Makes (subdivide_rule s x w room) room r P Q L

-- the sheet that a call was lent
abbrev pub lent : Call → Lent
lent (regularize_call s k x w r Q) = x
lent (improve_call s k x w r Q) = x
lent (coarsen_call s k x w r P Q L) = x
lent (subdivide_call s x w room r P Q L) = x

-- `regularize` and `improve_layout` leave other quads in the slice
abbrev pub lent_quads : Lent → List ℕ → Lent
lent_quads x Q = lent_of x.counts x.points Q x.labels

-- `coarsen` answers the counts of the sheet that it leaves
abbrev pub counts_or : Answer → Counts → Counts
counts_or (Ok t) c = t.sheet
counts_or (Err n) c = c

-- "the result of an accepted `subdivide` is the sheet of the next call, after a refusal the sheet before it"
abbrev pub result_or : Answer → Lent → List Float → List ℕ → List ℕ → Lent
result_or (Ok t) x P Q L = lent_of t.sheet P Q L
result_or (Err n) x P Q L = x

-- the sheet that a call left
abbrev pub left : Call → Lent
left (regularize_call s k x w r Q) = lent_quads x Q
left (improve_call s k x w r Q) = lent_quads x Q
left (coarsen_call s k x w r P Q L) = lent_of (counts_or r x.counts) P Q L
left (subdivide_call s x w room r P Q L) = result_or r x P Q L

-- "Regularize's count is the swaps made in all its passes; a refused call adds 0."
abbrev pub count_in : Answer → ℕ
count_in (Ok t) = t.count
count_in (Err n) = 0

abbrev pub swaps_in : Call → ℕ
swaps_in (regularize_call s k x w r Q) = count_in r
swaps_in (improve_call s k x w r Q) = 0
swaps_in (coarsen_call s k x w r P Q L) = 0
swaps_in (subdivide_call s x w room r P Q L) = 0

-- ---- a list of calls

-- what a call answered
abbrev pub answer_in : Call → Answer
answer_in (regularize_call s k x w r Q) = r
answer_in (improve_call s k x w r Q) = r
answer_in (coarsen_call s k x w r P Q L) = r
answer_in (subdivide_call s x w room r P Q L) = r

-- it is a refusal
abbrev pub is_refused : Answer → Bool
is_refused (Ok t) = false
is_refused (Err n) = true

-- "hand each call the sheet that the last one left": an accepted call was lent the sheet s, in slices of any length
-- that hold it, with anything behind it; of what a refused one was lent nothing is asked
abbrev pub Lends : Sheet → Call → Type 0
Lends s c = is_refused (answer_in c) ≡ false → held (lent c) ≡ s

-- the sheet after a call: the one that it left, "after a refusal the sheet before it"
abbrev pub next : Sheet → Call → Sheet
next s c = cond (is_refused (answer_in c)) s (held (left c))

-- calls one after the other from the sheet s on, each lent the sheet after the one before: "nobody else writes the
-- sheet between calls"
abbrev pub Run : Sheet → List Call → Type 0
Run s [] = Unit {0}
Run s (c ∷ cs) = Lends s c × Contract c × Run (next s c) cs

-- the sheet after them
abbrev pub after : Sheet → List Call → Sheet
after s [] = s
after s (c ∷ cs) = after (next s c) cs

-- the total of regularize's counts
abbrev pub swaps_of : List Call → ℕ
swaps_of [] = 0
swaps_of (c ∷ cs) = swaps_in c + swaps_of cs

-- ---- the claim

-- "a point touches what its mask names": bit l of the mask of point v is set
abbrev pub Touches : Sheet → ℕ → ℕ → Type 0
Touches s v l = mask_of s.quads s.labels v / 2 ^ l % 2 ≡ 1

-- no point touches both levels, labels 0 and 1, or two opposite faces, 2 and 3, 4 and 5, or 6 and 7
unfoldable pub SkinsApart : Sheet → Type 0
SkinsApart s = (v j : ℕ) → j < 4 → Touches s v (2 * j) → Touches s v (2 * j + 1) → ⊥

-- each refused call, whatever its number, left what it was lent as it came, and made no swap: "A sheet altered in its
-- own slices stays unchanged", "a refused call adds 0"
abbrev pub Unchanged : List Call → Type 0
Unchanged [] = Unit {0}
Unchanged (c ∷ cs) = (is_refused (answer_in c) ≡ true → (left c ≡ lent c) × (swaps_in c ≡ 0)) × Unchanged cs

-- "No swap is left if, on the sheet left with nothing barred, no edge meets regularize's rule with what that call
-- brought: the same call once more counts 0 and changes nothing."
-- x is what the call left.
pub record NoneLeft (s : Setting) (k : ℕ) (x : Lent) (w : Work) : Type 0 where
  pub no_swap : NoSwap (length (held x).points) (held x).labels regularize_gain
      (swap_fits s (held x).points (held x).labels) (held x).quads
  pub again : (r : Answer) (Q : List ℕ) → Contract (regularize_call s k x w r Q)
      → (r ≡ Ok (record { count = 0; sheet = x.counts })) × (Q ≡ x.quads)

-- demand 3 of a list of calls from the sheet s on
pub record Demand3 (s : Sheet) (cs : List Call) : Type 0 where
  -- "After the list all of that still holds": accepted, "each edge with two quads running opposite ways, each point
  -- with one ring of quads"
  pub sound : Sound (after s cs)
  -- "no point touches both levels or two opposite box faces"
  pub apart : SkinsApart (after s cs)
  -- "points minus edges plus quads equals its value at the start"
  pub euler : SameEuler s (after s cs)
  -- "The sum over points of (quads there minus 4) squared never rises": from any place of the list to any later one
  pub never_rises : (ds es fs : List Call) → cs ≡ ds ++ (es ++ fs)
      → squared_of (after s (ds ++ es)) ≤ squared_of (after s ds)
  -- "its value after the list plus twice the total of regularize's counts is at most its value at the start"
  pub falls : squared_of (after s cs) + 2 * swaps_of cs ≤ squared_of s
  -- "Given more passes than half the sum it finds, an accepted regularize leaves no swap that its rule takes": anywhere
  -- in the list
  pub none_left : (ds es : List Call) (v : Setting) (k : ℕ) (x : Lent) (w : Work) (t : Tally) (Q : List ℕ)
      → cs ≡ ds ++ (regularize_call v k x w (Ok t) Q ∷ es) → squared_of (held x) < 2 * k
      → NoneLeft v k (lent_quads x Q) w
  -- "refused ones included": what a refused call leaves
  pub refused : Unchanged cs

-- the theorem: "Take every list of regularize, improve_layout, coarsen and subdivide calls, each answering by its rule
-- in document 01, refused ones included, whatever passes, field and band each brings. Start from any accepted sheet,
-- each edge with two quads running opposite ways, each point with one ring of quads, and hand each call the sheet that
-- the last one left."
unfoldable pub EveryList : Type 0
EveryList = (s : Sheet) (cs : List Call) → Sound s → Run s cs → Demand3 s cs

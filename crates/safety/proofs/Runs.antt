-- Lists of calls are there to speak of: whatever each call brings, slices too short included, its rule has an answer that meets the contract. Assumes nothing.
use Prim.Native.Nat.{ℕ, ◌*◌, ◌<◌}
use mathlib.Core.Bool.{Bool, true, false, cond, true≢false}
use mathlib.Core.Path.{◌≡◌, refl, sym, ap, subst, ◌∙◌}
use mathlib.Core.List.{List, [], ◌∷◌}
use native.Mathlib.Omega.{arith}
use borrow.Author.Tests.{lt-ltb}
use Rattle.numeric.specs.Num.{zero_f}
use Rattle.setting.specs.Settings.{Setting}
use Rattle.rule_sheet.specs.declared.Counts.{Counts}
use Rattle.rule_sheet.specs.Flat.{flat_quads}
use Rattle.rule_sheet.specs.Sheet.{Sheet, flat_points, counts_of}
use Rattle.rule_sheet.specs.Lent.{Lent, Work, Room, lent_of, held}
use Rattle.rule_sheet.specs.Sound.{Sound}
use Rattle.rule_sheet.specs.Results.{answer_of, made, shown, padded, points_left, quads_left, labels_left}
use Rattle.rule_finer.specs.Subdivide.{subdivide_rule}
use Rattle.rule_regularize.specs.Rule.{regularize_rule, improve_rule}
use Rattle.rule_coarsen.specs.Rule.{coarsen_rule}
use Rattle.cases.specs.Cases.{cube}
use Rattle.safety.specs.Calls.{Call, regularize_call, improve_call, coarsen_call, subdivide_call, Contract, lent, left, answer_in, is_refused, next, Run, Demand3, EveryList}
use Rattle.safety.proofs.Slices.{held-padded}
use Rattle.safety.proofs.Cube.{cube-sound}
use Rattle.safety.proofs.Calls.{demand3}

-- what a caller brings to a call beside the sheet
pub data Ask : Type 0 where
  regularize_ask : (s : Setting) (passes : ℕ) (w : Work) → Ask
  improve_ask : (s : Setting) (passes : ℕ) (w : Work) → Ask
  coarsen_ask : (s : Setting) (passes : ℕ) (w : Work) → Ask
  subdivide_ask : (s : Setting) (w : Work) (room : Room) → Ask

-- the call with its answer
abbrev pub answered : Lent → Ask → Call
answered x (regularize_ask s k w) = let o = regularize_rule s k x w in regularize_call s k x w (answer_of o) (quads_left o x.quads)
answered x (improve_ask s k w) = let o = improve_rule s k x w in improve_call s k x w (answer_of o) (quads_left o x.quads)
answered x (coarsen_ask s k w) = let o = coarsen_rule s k x w in coarsen_call s k x w (answer_of o) (points_left o x.points) (quads_left o x.quads) (labels_left o x.labels)
answered x (subdivide_ask s w room) =
    let o = subdivide_rule s x w room in
    subdivide_call s x w room (answer_of (made o)) (padded zero_f room.points (flat_points (shown o).points)) (padded 0 room.quads (flat_quads (shown o).quads)) (padded 0 room.labels (shown o).labels)

answered-lent : (x : Lent) (a : Ask) → lent (answered x a) ≡ x
answered-lent x (regularize_ask s k w) = refl
answered-lent x (improve_ask s k w) = refl
answered-lent x (coarsen_ask s k w) = refl
answered-lent x (subdivide_ask s w room) = refl

answered-meets : (x : Lent) (a : Ask) → Contract (answered x a)
answered-meets x (regularize_ask s k w) = record { answer = refl; quads = refl }
answered-meets x (improve_ask s k w) = record { answer = refl; quads = refl }
answered-meets x (coarsen_ask s k w) = record { answer = refl; points = refl; quads = refl; labelled = refl }
answered-meets x (subdivide_ask s w room) = record { answer = refl; points = refl; quads = refl; labelled = refl }

-- a turn of the caller: a call on the slices where the sheet stands, or one on any other slices that is refused
pub data Turn : Type 0 where
  in_full : (a : Ask) → Turn
  elsewhere : (y : Lent) (a : Ask) → is_refused (answer_in (answered y a)) ≡ true → Turn

-- where the sheet stands after a call on the slices x: where it was, if the call is refused
abbrev standing : Lent → Call → Lent
standing x c = cond (is_refused (answer_in c)) x (left c)

-- one after the other
abbrev pub calls_from : Lent → List Turn → List Call
calls_from x [] = []
calls_from x (in_full a ∷ l) = answered x a ∷ calls_from (standing x (answered x a)) l
calls_from x (elsewhere y a h ∷ l) = answered y a ∷ calls_from x l

-- a call leads from the sheet that its slices hold to the one that stands there after it
next-standing : (x : Lent) (c : Call) → next (held x) c ≡ held (standing x c)
next-standing x c = go (is_refused (answer_in c))
  where
    go : (h : Bool) → cond h (held x) (held (left c)) ≡ held (cond h x (left c))
    go true = refl
    go false = refl

pub runs : (x : Lent) (l : List Turn) → Run (held x) (calls_from x l)
runs x [] = tt
runs x (in_full a ∷ l) = (λ h. ap held (answered-lent x a), answered-meets x a, rw (next-standing x (answered x a)) (runs (standing x (answered x a)) l))
runs x (elsewhere y a h ∷ l) = (λ k. absurd (true≢false (sym h ∙ k)), answered-meets y a, rw h (runs x l))

-- demand 3 of all of them
pub demand3-from : (x : Lent) (l : List Turn) → Sound (held x) → Demand3 (held x) (calls_from x l)
unfolding EveryList
demand3-from x l a = demand3 (held x) (calls_from x l) a (runs x l)

-- a sheet in slices of p, q and l elements, and the unit cube in them as a start
abbrev pub in_slices : Sheet → ℕ → ℕ → ℕ → Lent
in_slices s p q l = lent_of (counts_of s) (padded zero_f p (flat_points s.points)) (padded 0 q (flat_quads s.quads)) (padded 0 l s.labels)

pub cube-demand3 : (p q l : ℕ) (turns : List Turn) → Demand3 cube (calls_from (in_slices cube p q l) turns)
unfolding EveryList
cube-demand3 p q l turns =
    let x = in_slices cube p q l in
    demand3 cube (calls_from x turns) cube-sound (subst (λ (s : Sheet). Run s (calls_from x turns)) (held-padded cube p q l) (runs x turns))

-- What lists of calls keep, by the rules alone: a call brings its passes and, in place of its field and band, the
-- tests that its rule makes on points and the points that it gives.
use Rattle.std.specs.Prelude.{ℕ, ◌+◌, ◌*◌, ◌≤◌, ◌<◌, ◌≡◌, Bool, true, false, cond, ◌&&◌, List, [], ◌∷◌, leb, length}
use Rattle.points.specs.declared.Point.{Point}
use Rattle.points.specs.Points.{finite_p}
use Rattle.rule_sheet.specs.Quads.{Quad, all}
use Rattle.lists.specs.Sort.{tabulate}
use Rattle.rule_sheet.specs.Sheet.{Sheet, with_quads}
use Rattle.rule_sheet.specs.Lent.{limit}
use Rattle.rule_finer.specs.Finer.{four_labels, finer}
use Rattle.refine.specs.Finer.{finer_count}
use Rattle.rule_sheet.specs.Outcomes.{RunEnd}
use Rattle.rule_regularize.specs.Swaps.{Fits, regularize_gain, improve_gain, swap_run, NoSwap}
use Rattle.rule_coarsen.specs.Merges.{Slot}
use Rattle.rule_coarsen.specs.Coarse.{MergeFits, Position, coarse_run}
use Rattle.rule_sheet.specs.Sound.{Sound, SameEuler, squared_of}

-- the finer sheet with its points where `placed` puts them
abbrev pub refined : Sheet → (ℕ → Point) → Sheet
refined s placed = record {
  points = tabulate placed (finer_count (length s.points) s.quads);
  quads = finer (length s.points) s.quads;
  labels = four_labels s.labels;
}

-- among finite points a position that the rule takes is finite: "If projecting the halfway point is refused, that
-- diagonal is passed over"
abbrev pub FinitePosition : (Sheet → MergeFits) → (Sheet → Position) → Type 0
FinitePosition fits position =
    (s : Sheet) (ps : List Point) (S : List Slot) (f a c : ℕ) → all finite_p ps ≡ true → fits s ps S f a c ≡ true
    → finite_p (position s ps a c) ≡ true

-- a call; `accepted` is false where it is refused
pub data Command : Type 0 where
  regularize_call : (accepted : Bool) (passes : ℕ) (fits : List Point → Fits) → Command
  improve_call : (accepted : Bool) (passes : ℕ) (fits : List Point → Fits) → Command
  coarsen_call : (accepted : Bool) (passes : ℕ) (fits : Sheet → MergeFits) (position : Sheet → Position)
      → FinitePosition fits position → Command
  subdivide_call : (accepted : Bool) (placed : Sheet → ℕ → Point) → Command

-- the quads that passes of swaps leave, and their count; each swap gains at least least_gain
abbrev pub swaps_of : ℕ → ℕ → (List Point → Fits) → Sheet → RunEnd (List Quad)
swaps_of least_gain k fits s = swap_run (length s.points) s.labels least_gain (fits s.points) k s.quads

-- the finer sheet, unless it is too large (13) or a point of it is not finite (5): "after a refusal the sheet
-- before it"
abbrev pub subdivided : (Sheet → ℕ → Point) → Sheet → Sheet
subdivided placed s =
    cond (leb (finer_count (length s.points) s.quads) limit && leb (4 * length s.quads) limit
    && all finite_p (refined s (placed s)).points) (refined s (placed s)) s

-- the sheet that a call leaves
abbrev pub leaves : Command → Sheet → Sheet
leaves (regularize_call true k fits) s = with_quads s (swaps_of regularize_gain k fits s).left
leaves (regularize_call false k fits) s = s
leaves (improve_call true k fits) s = with_quads s (swaps_of improve_gain k fits s).left
leaves (improve_call false k fits) s = s
leaves (coarsen_call true k fits position finite) s = (coarse_run fits position k s).left
leaves (coarsen_call false k fits position finite) s = s
leaves (subdivide_call true placed) s = subdivided placed s
leaves (subdivide_call false placed) s = s

-- regularize's count: "a refused call adds 0"
abbrev pub counts : Command → Sheet → ℕ
counts (regularize_call true k fits) s = (swaps_of regularize_gain k fits s).count
counts (regularize_call false k fits) s = 0
counts (improve_call x k fits) s = 0
counts (coarsen_call x k fits position finite) s = 0
counts (subdivide_call x placed) s = 0

-- the sheet after a list of calls
abbrev pub leaves_all : List Command → Sheet → Sheet
leaves_all [] s = s
leaves_all (c ∷ cs) s = leaves_all cs (leaves c s)

-- the total of regularize's counts
abbrev pub counts_all : List Command → Sheet → ℕ
counts_all [] s = 0
counts_all (c ∷ cs) s = counts c s + counts_all cs (leaves c s)

-- what calls that lead from s to t keep, c being the total of regularize's counts
pub record Preserved (s t : Sheet) (c : ℕ) : Type 0 where
  pub sound : Sound t
  pub euler : SameEuler s t
  pub falls : squared_of t + 2 * c ≤ squared_of s

-- an accepted call of `regularize` with k passes on the sheet t leaves no swap, and "the same call once more counts
-- 0 and changes nothing"
pub record RuleLeavesNone (t : Sheet) (k : ℕ) (fits : List Point → Fits) : Type 0 where
  pub none_left : NoSwap (length t.points) t.labels regularize_gain (fits t.points)
      (swaps_of regularize_gain k fits t).left
  pub again : swaps_of regularize_gain k fits (leaves (regularize_call true k fits) t)
      ≡ record { left = (swaps_of regularize_gain k fits t).left; count = 0 }

-- what every list keeps, and what `regularize` leaves after it, given more passes than half the sum that
-- it finds
pub record RulesKeep (cs : List Command) (s : Sheet) : Type 0 where
  pub kept : Preserved s (leaves_all cs s) (counts_all cs s)
  pub last : (k : ℕ) (fits : List Point → Fits) → squared_of (leaves_all cs s) < 2 * k
      → RuleLeavesNone (leaves_all cs s) k fits

-- What the trial of an edge asks and leaves, and a pass of swaps.
use Rattle.std.specs.Prelude.{ℕ, ◌+◌, ◌*◌, ◌≤◌, ◌≡◌, List, length, Float}
use Rattle.lists.specs.Regions.{Out, Kept}
use Rattle.rule_sheet.specs.Flat.{quads_of}
use Rattle.rule_sheet.specs.Claims.{All, Differ}
use Rattle.incidence.specs.Corners.{Cornered}
use Rattle.rule_regularize.specs.Swaps.{State}
use Rattle.pass_map.specs.Regions.{valences_at}
use Rattle.pass_map.specs.Conditions.{WorkFits}
use Rattle.regularize_swap.specs.Regions.{state_of}
use Rattle.regularize_swap.specs.Conditions.{SwapPassHolds}
use Rattle.regularize_pass.specs.declared.Trial.{Trial}
use Rattle.regularize_pass.specs.Steps.{pass_in}

-- what a trial asks of the slices
pub record TryAsks (np nq : ℕ) (t : Trial) (P : List Float) (Q labels w : List ℕ) : Type 0 where
  pub holds : SwapPassHolds np nq Q w
  pub points : 3 * np ≤ length P
  pub labels≤ : nq ≤ length labels
  pub least≤ : t.least ≤ 1

-- what a step leaves: the state that the slices hold goes from Q and v, after `count` swaps, to R and w, after r
pub record StepLeaves (np nq : ℕ) (f : State → State) (count r : ℕ) (Q v R w : List ℕ) : Type 0 where
  pub holds : SwapPassHolds np nq R w
  pub is : state_of np nq R w r ≡ f (state_of np nq Q v count)
  pub kept : Kept (Out (valences_at np nq) (2 * (np + nq))) v w
  pub most : r ≤ count + 1

-- what a pass asks of the slices
pub record SwapPassAsks (np nq : ℕ) (t : Trial) (P : List Float) (Q labels w : List ℕ) : Type 0 where
  pub sheet : Cornered np nq Q
  pub differ : All Differ (quads_of nq Q)
  pub room : WorkFits np nq w
  pub points : 3 * np ≤ length P
  pub labels≤ : nq ≤ length labels
  pub least≤ : t.least ≤ 1

-- what a pass over the quads of Q leaves: the quads of R, and r swaps counted
pub record SwapPassLeaves (np nq : ℕ) (t : Trial) (P : List Float) (labels Q R : List ℕ) (r : ℕ) : Type 0 where
  pub sheet : Cornered np nq R
  pub differ : All Differ (quads_of nq R)
  pub quads : quads_of nq R ≡ (pass_in np nq t P labels (quads_of nq Q)).quads
  pub count : r ≡ (pass_in np nq t P labels (quads_of nq Q)).count

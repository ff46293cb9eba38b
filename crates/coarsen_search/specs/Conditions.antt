-- What the search in a quad asks, what holds during a pass of merges, and what the visits of the quads leave.
use Rattle.std.specs.Prelude.{ℕ, ◌+◌, ◌*◌, ◌≤◌, ◌<◌, ◌≡◌, ◌⊎◌, List, Float, length, get_or, take}
use Rattle.lists.specs.Regions.{Kept}
use Rattle.points.specs.Steps.{with_point}
use Rattle.band.specs.declared.Band.{Band}
use Rattle.rule_sheet.specs.Claims.{Low, Below, Differ}
use Rattle.incidence.specs.Corners.{Cornered}
use Rattle.rule_passes.specs.Choices.{none_quad}
use Rattle.rule_coarsen.specs.Invariants.{MInv, Used, slots_of}
use Rattle.pass_map.specs.Regions.{points_at, start_in}
use Rattle.coarsen_merge.specs.Regions.{used_in, removed_in, Steady}
use Rattle.coarsen_merge.specs.Steps.{used_of}
use Rattle.coarsen_merge.specs.Conditions.{StartHolds, TouchedHolds, Masked, FaceAsks}
use Rattle.coarsen_bars.specs.Conditions.{MergeAsks, MergeLeaves}
use Rattle.coarsen_search.specs.declared.Candidate.{Candidate}
use Rattle.coarsen_search.specs.declared.Diagonal.{Diagonal}
use Rattle.coarsen_search.specs.declared.Ended.{Ended}
use Rattle.coarsen_search.specs.declared.Ends.{Ends}
use Rattle.std.specs.Prelude.{None, Some}
use Rattle.coarsen_search.specs.Steps.{Choice, diagonal_of, visited, state_in, visits_from}

-- what the merge of a diagonal asks
pub record DiagonalAsks (np nq : ℕ) (g : Diagonal) (w : List ℕ) : Type 0 where
  pub face : FaceAsks np nq g.a g.b g.c g.d w
  pub mask_a : get_or w g.a 0 < 256
  pub mask_c : get_or w g.c 0 < 256

-- what its landing asks: two points with masks
pub record LandingAsks (np : ℕ) (g : Diagonal) (w : List ℕ) : Type 0 where
  pub a< : g.a < np
  pub c< : g.c < np
  pub masks : np ≤ length w
  pub mask_a : get_or w g.a 0 < 256
  pub mask_c : get_or w g.c 0 < 256

-- what the search in quad f asks: both diagonals can be tried
pub record SearchAsks (np nq f : ℕ) (Q w : List ℕ) : Type 0 where
  pub f< : f < nq
  pub first : DiagonalAsks np nq (diagonal_of Q f 0) w
  pub second : DiagonalAsks np nq (diagonal_of Q f 1) w

-- slices of p coordinates, q corners and l labels hold the sheet
pub record Holding (np nq p q l : ℕ) : Type 0 where
  pub points : 3 * np ≤ p
  pub quads : 4 * nq ≤ q
  pub labels : nq ≤ l

-- the two ends of a diagonal, in either order
abbrev pub InOrder : Diagonal → Ends → Type 0
InOrder g e = ((e.first ≡ g.a) × (e.second ≡ g.c)) ⊎ ((e.first ≡ g.c) × (e.second ≡ g.a))

-- where a walk ended can be kept: its point is one, and its place lies among the corners by point or behind them
pub record Noted (np nq : ℕ) (e : Ended) : Type 0 where
  pub point< : e.point < np
  pub place≤ : e.place ≤ points_at np nq + 4 * nq

-- ---- a visit

-- what holds during a pass: slices of p coordinates, the quads Q now, and the work slice
pub record MergePassHolds (np nq : ℕ) (labels : List ℕ) (p : ℕ) (Q w : List ℕ) : Type 0 where
  pub start : StartHolds np nq w
  pub touched : TouchedHolds np nq w
  pub masked : Masked np nq (take nq labels) w
  pub labelled : nq ≤ length labels
  pub points : 3 * np ≤ p
  pub sheet : Cornered np nq Q
  pub low : Low (take nq labels)
  pub below : Below np (start_in np nq w)
  pub differ : (j : ℕ) → j < length (start_in np nq w) → Differ (get_or (start_in np nq w) j none_quad)
  pub inv : MInv (start_in np nq w) (slots_of nq Q (removed_in np nq w)) (Used (used_of np (used_in np nq w)))

-- what the visit of quad f, with r merges, leaves: the rule's state
pub record VisitLeaves (b : Band) (np nq : ℕ) (labels : List ℕ) (f r : ℕ) (P : List Float) (Q w : List ℕ)
    (P' : List Float) (Q' w' : List ℕ) : Type 0 where
  pub state : (k : ℕ) → state_in np nq P' Q' w' (k + r) ≡ visited b np nq labels w f (state_in np nq P Q w k)
  pub holds : MergePassHolds np nq labels (length P') Q' w'
  pub kept : Kept (Steady np nq) w w'
  pub most : r ≤ 1
  pub len_points : length P' ≡ length P
  pub len_quads : length Q' ≡ length Q

-- what a choice asks before it is taken
abbrev pub TakeAsks : ℕ → ℕ → ℕ → Choice → ℕ → ℕ → Type 0
TakeAsks np nq f None p q = Unit {0}
TakeAsks np nq f (Some m) p q = MergeAsks np nq f m.a m.c p q

-- where none is taken all stays as it is
pub record NoneTaken (r : ℕ) (P : List Float) (Q w : List ℕ) (P' : List Float) (Q' w' : List ℕ) : Type 0 where
  pub none : r ≡ 0
  pub points : P' ≡ P
  pub quads : Q' ≡ Q
  pub work : w' ≡ w

-- where one is taken its merge is made
pub record OneTaken (np nq f : ℕ) (m : Candidate) (r : ℕ) (P : List Float) (Q w : List ℕ)
    (P' : List Float) (Q' w' : List ℕ) : Type 0 where
  pub one : r ≡ 1
  pub points : P' ≡ with_point P m.a m.to
  pub joined : MergeLeaves np nq f m.a m.c Q w Q' w'

-- what a choice leaves
abbrev pub TakeLeaves : ℕ → ℕ → ℕ → Choice → ℕ → List Float → List ℕ → List ℕ → List Float → List ℕ → List ℕ → Type 0
TakeLeaves np nq f None r P Q w P' Q' w' = NoneTaken r P Q w P' Q' w'
TakeLeaves np nq f (Some m) r P Q w P' Q' w' = OneTaken np nq f m r P Q w P' Q' w'

-- ---- the quads in order

-- what the visits of all quads, with r merges, leave: the rule's state
pub record VisitAllLeaves (b : Band) (np nq : ℕ) (labels : List ℕ) (r : ℕ) (P : List Float) (Q w : List ℕ)
    (P' : List Float) (Q' w' : List ℕ) : Type 0 where
  pub state : (k : ℕ) → state_in np nq P' Q' w' (k + r) ≡ visits_from b np nq labels w nq 0 (state_in np nq P Q w k)
  pub holds : MergePassHolds np nq labels (length P') Q' w'
  pub kept : Kept (Steady np nq) w w'
  pub most : r ≤ nq

-- What a pass of merges asks of the slices, what its start asks and leaves, and what the pass leaves.
use Rattle.std.specs.Prelude.{ℕ, ◌+◌, ◌*◌, ◌≤◌, ◌<◌, ◌≡◌, true, List, Float, length, take, replicate}
use Rattle.lists.specs.Every.{every}
use Rattle.lists.specs.Regions.{Part, Kept}
use Rattle.band.specs.declared.Band.{Band}
use Rattle.rule_sheet.specs.Sheet.{Sheet, points_of}
use Rattle.rule_sheet.specs.Lent.{limit}
use Rattle.sheet.specs.Flat.{Holds}
use Rattle.sheet.specs.Tests.{good_quad_at}
use Rattle.incidence.specs.Corners.{Cornered}
use Rattle.rule_coarsen.specs.Invariants.{slots_of}
use Rattle.pass_map.specs.Regions.{was_at}
use Rattle.pass_map.specs.Conditions.{MapAsks}
use Rattle.coarsen_merge.specs.Regions.{used_at, removed_at, touched_at, used_in, removed_in, Steady}
use Rattle.coarsen_merge.specs.Conditions.{StartHolds, TouchedHolds, Masked}
use Rattle.coarsen_pass.specs.Steps.{band_pass}

-- ---- the start

-- the marks are clear in w', and what stands in front of them is that of w
pub record ClearMarksLeaves (np nq : ℕ) (w w' : List ℕ) : Type 0 where
  pub used : Part (used_at np nq) np (replicate np 0) w'
  pub removed : Part (removed_at np nq) nq (replicate nq 0) w'
  pub touched : Part (touched_at np nq) np (replicate np 0) w'
  pub kept : Kept (Steady np nq) w w'

-- what the start of a pass over the quads Q with their labels asks of the work slice w
pub record PrepareAsks (np nq : ℕ) (Q labels w : List ℕ) : Type 0 where
  pub map : MapAsks np nq Q w
  pub holds : Holds nq Q labels
  pub good : every (good_quad_at np Q labels) nq ≡ true

-- what the pass starts with
pub record PrepareLeaves (np nq : ℕ) (Q labels w : List ℕ) : Type 0 where
  pub start : StartHolds np nq w
  pub quads : Part (was_at np nq) (4 * nq) (take (4 * nq) Q) w
  pub masked : Masked np nq (take nq labels) w
  pub used : used_in np nq w ≡ replicate np 0
  pub removed : removed_in np nq w ≡ replicate nq 0
  pub touched : TouchedHolds np nq w

-- ---- the pass

-- what a pass asks of the slices: they hold the sheet, its quads are good, and the work slice is long enough
pub record MergePassAsks (np nq : ℕ) (P : List Float) (Q labels w : List ℕ) : Type 0 where
  pub few : np ≤ limit
  pub few_quads : nq ≤ limit
  pub some : 0 < nq
  pub points : 3 * np ≤ length P
  pub quads : 4 * nq ≤ length Q
  pub labelled : nq ≤ length labels
  pub good : every (good_quad_at np Q labels) nq ≡ true
  pub work : 64 * (np + nq) ≤ length w

-- what a pass with r merges over the sheet s leaves: the rule's state, that is the points P, the quads Q, and in w the
-- marks of those that are out
pub record MergePassLeaves (b : Band) (np nq : ℕ) (s : Sheet) (r : ℕ) (P : List Float) (Q w : List ℕ) : Type 0 where
  pub count : r ≡ (band_pass b s).count
  pub slots : slots_of nq Q (removed_in np nq w) ≡ (band_pass b s).slots
  pub points : points_of np P ≡ (band_pass b s).points
  pub sheet : Cornered np nq Q
  pub most : r ≤ nq

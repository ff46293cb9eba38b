-- What a merge asks, and what it leaves.
use Rattle.std.specs.Prelude.{ℕ, ◌+◌, ◌*◌, ◌≤◌, ◌<◌, ◌≡◌, List, length, get_or, set}
use Rattle.lists.specs.Regions.{Part, Out2, Apart, Kept}
use Rattle.pass_map.specs.Regions.{was_in}
use Rattle.coarsen_merge.specs.Regions.{used_at, touched_at, used_in, removed_in, Steady}
use Rattle.coarsen_bars.specs.Steps.{renamed_quads, marked_both}
use Rattle.coarsen_merge.specs.Conditions.{TouchedHolds}

-- m points at `from`, and np marks at `to`
pub record MarkPointsAsks (from m to np : ℕ) (xs w : List ℕ) : Type 0 where
  pub at : Part from m xs w
  pub known : (i : ℕ) → i < m → get_or xs i 0 < np
  pub in_to : to + np ≤ length w
  pub apart : Apart from m to np

-- the corners of a list are places of a slice of n elements
pub record RenameAsks (cs : List ℕ) (n : ℕ) : Type 0 where
  pub known : (i : ℕ) → i < length cs → get_or cs i 0 < n

-- what a merge of the points a and c of quad f asks of slices of p coordinates and q corners
pub record MergeAsks (np nq f a c p q : ℕ) : Type 0 where
  pub f< : f < nq
  pub a< : a < np
  pub c< : c < np
  pub points : 3 * np ≤ p
  pub quads : 4 * nq ≤ q

-- the marks of the barred points became U, the touched points follow, and all else stays
pub record BarLeaves (np nq : ℕ) (U w w' : List ℕ) : Type 0 where
  pub used : Part (used_at np nq) np U w'
  pub touched : TouchedHolds np nq w'
  pub kept : Kept (Out2 (used_at np nq) np (touched_at np nq) np) w w'

-- what the merge leaves of the quads Q and the work slice w
pub record MergeLeaves (np nq f a c : ℕ) (Q w Q' w' : List ℕ) : Type 0 where
  pub quads : Q' ≡ renamed_quads (was_in np nq w) nq c a Q
  pub used : used_in np nq w' ≡ marked_both (was_in np nq w) (used_in np nq w) np nq a c
  pub removed : removed_in np nq w' ≡ set (removed_in np nq w) f 1
  pub touched : TouchedHolds np nq w'
  pub kept : Kept (Steady np nq) w w'

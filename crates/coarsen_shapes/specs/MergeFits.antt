-- The shapes round a merge, one point at a time.
use Rattle.std.specs.Prelude.{ℕ, ◌*◌, ◌/◌, ◌≤◌, ◌<◌, Bool, true, false, not, ◌||◌, ◌≡◌, List, length, get_or, eqb}
use Rattle.std.specs.Prelude.{Float}
use Rattle.points.specs.declared.Point.{Point}
use Rattle.field.specs.declared.Field.{Field}
use Rattle.rule_sheet.specs.Flat.{quad_at}
use Rattle.rule_coarsen.specs.Coarse.{has_corner}
use Rattle.rule_coarsen.specs.declared.Merge.{Merge}
use Rattle.rule_coarsen.specs.MergeFits.{quad_stays}

-- ---- the same, one point at a time

-- quad j of a flat list is the merge's own, or stays
abbrev pub face_stays : Field → Float → (ℕ → Point) → List ℕ → List ℕ → Merge → ℕ → Bool
face_stays f len at labels Q m j = eqb j m.face || quad_stays f len at (get_or labels j 0) (quad_at Q j) m

-- the same of the quad of corner i of a list of corners
abbrev pub corner_stays : Field → Float → (ℕ → Point) → List ℕ → List ℕ → Merge → List ℕ → ℕ → Bool
corner_stays f len at labels Q m cs i = face_stays f len at labels Q m (get_or cs i 0 / 4)

-- the elements from one place to another are corners of nq quads
pub record CornersIn (nq from to : ℕ) (w : List ℕ) : Type 0 where
  pub low : from ≤ to
  pub high : to ≤ length w
  pub each : (i : ℕ) → from ≤ i → i < to → get_or w i 0 < 4 * nq

-- every place from one to another passes the test p
pub record AllPass (p : ℕ → Bool) (from to : ℕ) : Type 0 where
  pub each : (i : ℕ) → from ≤ i → i < to → p i ≡ true

-- r is the first place, from one to another, that does not pass the test p
pub record FirstFallen (p : ℕ → Bool) (from to r : ℕ) : Type 0 where
  pub low : from ≤ r
  pub high : r < to
  pub before : (i : ℕ) → from ≤ i → i < r → p i ≡ true
  pub falls : p r ≡ false

-- quad j is not at v, or is the merge's own, or stays
abbrev pub stays_at : Field → Float → (ℕ → Point) → List ℕ → List ℕ → Merge → ℕ → ℕ → Bool
stays_at f len at labels Q m v j = not (has_corner (quad_at Q j) v) || face_stays f len at labels Q m j

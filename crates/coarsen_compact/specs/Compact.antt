-- What a pass of merges leaves of a sheet in slices: some quads are out, and "Points are renumbered by first use
-- after a pass that merged."
use Rattle.std.specs.Prelude.{ℕ, zero, suc, ◌+◌, ◌*◌, ◌/◌, ◌≤◌, ◌<◌, ◌≡◌, Bool, cond, List, [], ◌∷◌, ◌++◌, map, eqb}
use Rattle.std.specs.Prelude.{length, get_or, take, replicate, Float}
use Rattle.lists.specs.Sort.{tabulate}
use Rattle.lists.specs.Regions.{Part}
use Rattle.lists.specs.Steps.{nth}
use Rattle.points.specs.declared.Point.{Point}
use Rattle.points.specs.Points.{point_at}
use Rattle.rule_sheet.specs.declared.Counts.{Counts}
use Rattle.rule_sheet.specs.Flat.{flat_quads}
use Rattle.rule_sheet.specs.FirstUse.{firsts, place}
use Rattle.rule_sheet.specs.Sheet.{Sheet, points_of, flat_points}
use Rattle.rule_sheet.specs.Lent.{limit}
use Rattle.rule_sheet.specs.Sheet.{counts_of}
use Rattle.sheet.specs.Results.{Front}
use Rattle.incidence.specs.Corners.{Cornered}
use Rattle.rule_coarsen.specs.Coarse.{compact}
use Rattle.rule_coarsen.specs.Invariants.{slots_of}

-- the sheet that is left of np points and nq quads with labels, by the marks R of the quads that are out
abbrev pub compacted : ℕ → ℕ → List Float → List ℕ → List ℕ → List ℕ → Sheet
compacted np nq P Q labels R = compact (slots_of nq Q R) (take nq labels) (points_of np P)

-- slices begin with the sheet s, and r has its counts
pub record Begins (s : Sheet) (r : Counts) (P : List Float) (Q labels : List ℕ) : Type 0 where
  pub counts : r ≡ counts_of s
  pub points : Front (flat_points s.points) P
  pub quads : Front (flat_quads s.quads) Q
  pub labelled : Front s.labels labels

-- what `compact` asks: corners among the points, slices of p coordinates, l labels and f floats that hold enough,
-- and two regions of w
pub record Compacting (np nq p : ℕ) (Q : List ℕ) (l removed numbers : ℕ) (w : List ℕ) (f : ℕ) : Type 0 where
  pub sheet : Cornered np nq Q
  pub points : np ≤ limit
  pub held : 3 * np ≤ p
  pub labels : nq ≤ l
  pub floats : 3 * np ≤ f
  pub in_removed : removed + nq ≤ length w
  pub in_numbers : numbers + np ≤ length w

-- ---- the elements that stay

-- quad q stays
abbrev pub quad_stays : List ℕ → ℕ → Bool
quad_stays R q = eqb (get_or R q 0) 0

-- the quad of element i stays, in a list with `size` elements a quad
abbrev pub element_stays : ℕ → List ℕ → ℕ → Bool
element_stays size R i = quad_stays R (i / size)

-- the first n elements of a list without those that fail a test of their places; d stands behind the list's end
unfoldable pub packed : {A : Type 0} → (ℕ → Bool) → A → List A → ℕ → List A
packed p d l zero = []
packed p d l (suc n) = packed p d l n ++ cond (p n) (get_or l n d ∷ []) []

-- ---- the numbers

-- the points of the first n corners, in the order of their first use
unfoldable pub used_in : List ℕ → ℕ → List ℕ
used_in Q n = firsts [] (tabulate (nth Q) n)

-- the new number of the point at corner i, where n corners are in use
abbrev pub number_in : List ℕ → ℕ → ℕ → ℕ
number_in Q n i = place (get_or Q i 0) (used_in Q n)

-- the points of some numbers
abbrev pub points_in : List Float → List ℕ → List Point
points_in P l = map (point_at P) l

-- what the point v asks, of np points with p coordinates, when `used` of them have a number in the region at
-- `numbers` and a place in f floats: a number is free where it has none
pub record Meeting (np p v used numbers : ℕ) (w : List ℕ) (f : ℕ) : Type 0 where
  pub few : np ≤ limit
  pub known : v < np
  pub held : 3 * np ≤ p
  pub floats : 3 * np ≤ f
  pub in_numbers : numbers + np ≤ length w
  pub new : get_or w (numbers + v) 0 ≡ 0 → used < np

-- what the numbering of m corners asks: points as corners, room for np points in p coordinates and f floats, and no
-- number given
pub record Numbering (np m p : ℕ) (Q : List ℕ) (numbers : ℕ) (w : List ℕ) (f : ℕ) : Type 0 where
  pub few : np ≤ limit
  pub fits : m ≤ length Q
  pub points : (i : ℕ) → i < m → get_or Q i 0 < np
  pub held : 3 * np ≤ p
  pub floats : 3 * np ≤ f
  pub none : Part numbers np (replicate np 0) w

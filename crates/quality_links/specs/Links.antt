-- The link of a point by the corners at it: what is kept for each neighbour, and the tests of a link.
use Rattle.std.specs.Prelude.{ℕ, zero, suc, ◌+◌, ◌≤◌, ◌<◌, ◌*◌, ◌≡◌, Bool, true, cond, ◌&&◌, List, eqb, length, get_or}
use Rattle.std.specs.Prelude.{set}
use Rattle.rule_sheet.specs.Lent.{limit}
use Rattle.lists.specs.Every.{every}
use Rattle.lists.specs.Sort.{tabulate}
use Rattle.lists.specs.Regions.{Part, Apart}
use Rattle.rule_sheet.specs.Quads.{Quad, is, all, valence}
use Rattle.sheet.specs.Flat.{before, to}
use Rattle.rule_sheet.specs.Flat.{quads_of}
use Rattle.rule_sheet.specs.Closed.{ind, at_point}
use Rattle.sheet.specs.Edges.{point_corners}
use Rattle.rule_sheet.specs.Tests.{proper}
use Rattle.incidence.specs.Corners.{Known, Cornered, corners_at, first_at}
use Rattle.rule_quality.specs.Census.{degree, connected, none_or_two}

-- ---- joins

-- the other end of the join of p and m where x is an end of it, else 0
abbrev pub other_end : ℕ → ℕ → ℕ → ℕ
other_end x p m = cond (eqb x p) m 0 + cond (eqb x m) p 0

-- the sum of a weight of (point before, point after) over the first i corners of a list
unfoldable pub joins_to : List ℕ → List ℕ → (ℕ → ℕ → ℕ) → ℕ → ℕ
joins_to Q cs g zero = 0
joins_to Q cs g (suc i) = joins_to Q cs g i + g (before Q (get_or cs i 0)) (to Q (get_or cs i 0))

-- how often the first i corners join x to a point
abbrev pub degree_to : List ℕ → List ℕ → ℕ → ℕ → ℕ
degree_to Q cs i x = joins_to Q cs (λ p m. is x p + is x m) i

-- the sum of the points to which the first i corners join x
abbrev pub others_to : List ℕ → List ℕ → ℕ → ℕ → ℕ
others_to Q cs i x = joins_to Q cs (other_end x) i

-- ---- the slice

-- the sum of the points of the first two joins of a point that has d joins, with y for one more
abbrev pub other_sum : ℕ → ℕ → ℕ → ℕ
other_sum d s y = cond (eqb d 0) y (cond (eqb d 1) (s + y) s)

-- the slice with one more join of x, to y
abbrev pub registered : ℕ → ℕ → ℕ → ℕ → List ℕ → List ℕ
registered deg acc x y w =
    set (set w (acc + x) (other_sum (get_or w (deg + x) 0) (get_or w (acc + x) 0) y)) (deg + x)
    (get_or w (deg + x) 0 + 1)

-- what one more join of x to y asks
pub record Registering (deg acc x y : ℕ) (w : List ℕ) : Type 0 where
  pub in_deg : deg + x < length w
  pub in_acc : acc + x < length w
  pub small : y < limit
  pub few : get_or w (deg + x) 0 < 16777216
  pub sum< : get_or w (deg + x) 0 ≡ 1 → get_or w (acc + x) 0 < limit

-- m corners cs at `from`, and for each of np points a count at `deg` and a sum at `acc`
pub record Joining (np : ℕ) (Q cs : List ℕ) (from m deg acc : ℕ) (w : List ℕ) : Type 0 where
  pub few : m ≤ 4194304
  pub points : np ≤ limit
  pub at : Part from m cs w
  pub known : (i : ℕ) → i < m → Known Q (get_or cs i 0)
  pub before< : (i : ℕ) → i < m → before Q (get_or cs i 0) < np
  pub after< : (i : ℕ) → i < m → to Q (get_or cs i 0) < np
  pub in_deg : deg + np ≤ length w
  pub in_acc : acc + np ≤ length w
  pub from_deg : Apart from m deg np
  pub from_acc : Apart from m acc np
  pub deg_acc : Apart deg np acc np

-- the count of each point is D, and the sum of each point with one or two joins is W, which is 0 without a join
pub record Joins (np : ℕ) (D W : ℕ → ℕ) (deg acc : ℕ) (w : List ℕ) : Type 0 where
  pub none : (x : ℕ) → D x ≡ 0 → W x ≡ 0
  pub degrees : (x : ℕ) → x < np → get_or w (deg + x) 0 ≡ D x
  pub sums : (x : ℕ) → x < np → 0 < D x → D x ≤ 2 → get_or w (acc + x) 0 ≡ W x
  pub small : (x : ℕ) → x < np → 0 < D x → D x ≤ 2 → get_or w (acc + x) 0 < D x * limit

-- no point has a join
abbrev pub Unjoined : ℕ → ℕ → List ℕ → Type 0
Unjoined np deg w = (x : ℕ) → x < np → get_or w (deg + x) 0 ≡ 0

-- both ends of corner c have two joins
abbrev pub both_two : List ℕ → ℕ → List ℕ → ℕ → Bool
both_two Q deg w c = eqb (get_or w (deg + before Q c) 0) 2 && eqb (get_or w (deg + to Q c) 0) 2

-- both ends of corner i of cs have two joins
abbrev pub two_at : List ℕ → ℕ → List ℕ → List ℕ → ℕ → Bool
two_at Q deg w cs i = both_two Q deg w (get_or cs i 0)

-- ---- the walk

-- a point with a join has two
abbrev pub Twos : List Quad → ℕ → Type 0
Twos S v = (x : ℕ) → 0 < degree S v x → degree S v x ≡ 2

-- each point of the link of v has two joins and their sum at `acc`, and a corner joins u to `first`
pub record Walkable (np nq : ℕ) (Q : List ℕ) (v acc u first : ℕ) (w : List ℕ) : Type 0 where
  pub good : all (proper np) (quads_of nq Q) ≡ true
  pub few : valence (quads_of nq Q) v ≤ 4194304
  pub fits : acc + np ≤ length w
  pub twos : Twos (quads_of nq Q) v
  pub starts : 0 < at_point (quads_of nq Q) v (ind u first)
  pub sums : (x : ℕ) → 0 < degree (quads_of nq Q) v x → get_or w (acc + x) 0 ≡ at_point (quads_of nq Q) v (other_end x)

-- the m corners of v stand at `from`, and their joins are registered at `deg` and `acc`
pub record OneLink (np nq : ℕ) (Q : List ℕ) (v from m deg acc : ℕ) (w : List ℕ) : Type 0 where
  pub good : all (proper np) (quads_of nq Q) ≡ true
  pub used : 0 < m
  pub count : m ≡ length (point_corners Q nq v)
  pub joining : Joining np Q (point_corners Q nq v) from m deg acc w
  pub joins : Joins np (degree_to Q (point_corners Q nq v) m) (others_to Q (point_corners Q nq v) m) deg acc w

-- the link of v is connected, and each node is joined twice
abbrev pub one_round : ℕ → List Quad → ℕ → Bool
one_round n S v = connected n S v && every (none_or_two S v) n

-- w has the corners of good quads by point at `order`, where they begin at `starts`, and room for np counts at `deg`
-- and np sums at `acc`
pub record LinkRoom (np nq : ℕ) (Q : List ℕ) (starts order deg acc : ℕ) (w : List ℕ) : Type 0 where
  pub sheet : Cornered np nq Q
  pub good : all (proper np) (quads_of nq Q) ≡ true
  pub points : np ≤ limit
  pub begin : Part starts (np + 1) (tabulate (first_at nq Q) (np + 1)) w
  pub at : Part order (4 * nq) (corners_at np nq Q) w
  pub in_deg : deg + np ≤ length w
  pub in_acc : acc + np ≤ length w
  pub starts_deg : Apart starts (np + 1) deg np
  pub starts_acc : Apart starts (np + 1) acc np
  pub order_deg : Apart order (4 * nq) deg np
  pub order_acc : Apart order (4 * nq) acc np
  pub deg_acc : Apart deg np acc np

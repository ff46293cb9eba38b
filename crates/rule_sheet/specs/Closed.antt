-- Closed sheets and rings: the words of demand 3, as document 01 defines them under "The finer sheet and the rows".
use Rattle.std.specs.Prelude.{ℕ, ◌+◌, ◌≤◌, ◌<◌, ◌≡◌, ◌&&◌, List, [], ◌∷◌, eqb, length}
use Rattle.rule_sheet.specs.Quads.{Quad, num, is, sum, total, at, valence, side}

-- Every edge has exactly two quads that run opposite ways: "an edge is a pair of points next to each other in a
-- quad, and two quads run opposite ways there if each goes along it from a different end".
unfoldable pub Closed : List Quad → Type 0
Closed S = (u v : ℕ) → 0 < side S u v + side S v u → (side S u v ≡ 1) × (side S v u ≡ 1)

-- 1 where (p, n) is the pair (x, y), else 0
abbrev pub ind : ℕ → ℕ → ℕ → ℕ → ℕ
ind x y p n = num (eqb p x && eqb n y)

-- the sum of a weight of pairs over the steps from u through a list to z
abbrev pub arc : (ℕ → ℕ → ℕ) → ℕ → List ℕ → ℕ → ℕ
arc g u [] z = g u z
arc g u (y ∷ ys) z = g u y + arc g y ys z

-- the same over the steps once round a list
abbrev pub cyc : (ℕ → ℕ → ℕ) → List ℕ → ℕ
cyc g [] = 0
cyc g (u ∷ us) = arc g u us u

-- Pairs (before, after), given by the sums R of all weights over them, are one ring: "its quads are one ring if
-- stepping from quad to quad over the edges at it comes round once through them all, and two quads that share both
-- their edges there are a ring". The edges at the point lead to its neighbours: `round` names them in the order in
-- which they are met, each once, and each quad is one step from a neighbour to the next.
pub record Ring (R : (ℕ → ℕ → ℕ) → ℕ) : Type 0 where
  pub round : List ℕ
  pub two : 2 ≤ length round
  pub apart : (x : ℕ) → sum (is x) round ≤ 1
  pub same : (g : ℕ → ℕ → ℕ) → R g ≡ cyc g round

-- the sum of a weight of (point before, point after) over the corners at v
abbrev pub at_point : List Quad → ℕ → (ℕ → ℕ → ℕ) → ℕ
at_point S v g = total (at v g) S

-- the quads at each point in use are one ring
unfoldable pub Rings : List Quad → Type 0
Rings S = (v : ℕ) → 0 < valence S v → Ring (at_point S v)

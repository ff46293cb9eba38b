-- Corners in range, different corners, no clash, as types. Not a rule: the laws of the rules need them.
use Rattle.std.specs.Prelude.{ℕ, ◌+◌, ◌*◌, ◌≤◌, ◌<◌, ◌≡◌, ◌≢◌, List, [], ◌∷◌}
use Rattle.rule_sheet.specs.Quads.{Quad, quad, uses, valence, touches}

-- every corner is a number of the n points
unfoldable pub Below : ℕ → List Quad → Type 0
Below n S = (v : ℕ) → 0 < valence S v → v < n

-- no corner twice
abbrev pub Differ : Quad → Type 0
Differ (quad a b c d) = (a ≢ b) × (a ≢ c) × (a ≢ d) × (b ≢ c) × (b ≢ d) × (c ≢ d)

-- every quad has the property P
unfoldable pub All : (Quad → Type 0) → List Quad → Type 0
All P [] = Unit {0}
All P (q ∷ S) = P q × All P S

-- no point touches both labels of an opposite pair, 2 j and 2 j + 1
unfoldable pub NoClash : List Quad → List ℕ → Type 0
NoClash S labels = (v j : ℕ) → 0 < touches S labels v (2 * j) → touches S labels v (2 * j + 1) ≡ 0

-- every label is at most 7
unfoldable pub Low : List ℕ → Type 0
Low [] = Unit {0}
Low (l ∷ labels) = (l ≤ 7) × Low labels

-- a quad has v for a corner
abbrev pub Has : Quad → ℕ → Type 0
Has q v = 0 < uses v q

-- What a cell of the grid draws, by the signs at its corners. Document 01, "The drawn sheet", and
-- `extract_candidate` of 000.
-- A corner is x + 2y + 4z; a sign is true inside the band. The face 2 × axis + side is square to its axis. The
-- centre of a face has a sign too.
use Rattle.std.specs.Prelude.{ℕ, zero, suc, ◌+◌, ◌*◌, ◌/◌, ◌%◌, ◌^◌, Bool, cond, not, ◌&&◌, ◌||◌, eqb, ltb, length}
use Rattle.std.specs.Prelude.{get_or}
use Rattle.std.specs.Bool.{beq}
use mathlib.Core.List.{List, [], ◌∷◌, ◌++◌, map, foldl}
use Rattle.lists.specs.Sort.{tabulate, itself, keep}

-- bit i of a number
unfoldable pub bit_of : ℕ → ℕ → Bool
bit_of n i = eqb (n / 2 ^ i % 2) 1

-- ---- edges

-- "The twelve edges of a cell are numbered axis × 4 + b × 2 + d": b and d are the places of the edge along the next
-- two axes
unfoldable pub low_end : ℕ → ℕ
low_end e = e / 2 % 2 * 2 ^ ((e / 4 + 1) % 3) + e % 2 * 2 ^ ((e / 4 + 2) % 3)

unfoldable pub high_end : ℕ → ℕ
high_end e = low_end e + 2 ^ (e / 4)

-- the signs at the two ends of an edge differ
unfoldable pub crosses : (ℕ → Bool) → ℕ → Bool
crosses sign e = not (beq (sign (low_end e)) (sign (high_end e)))

-- ---- faces

-- a corner is on a face
abbrev pub corner_on : ℕ → ℕ → Bool
corner_on f v = eqb (v / 2 ^ (f / 2) % 2) (f % 2)

-- the four edges of a face, ascending
unfoldable pub edges_on : ℕ → List ℕ
edges_on f = keep (λ e. corner_on f (low_end e) && corner_on f (high_end e)) (tabulate itself 12)

-- the crossings of a face
unfoldable pub crossings_on : (ℕ → Bool) → ℕ → List ℕ
crossings_on sign f = keep (crosses sign) (edges_on f)

-- a face with four crossings
unfoldable pub four_on : (ℕ → Bool) → ℕ → Bool
four_on sign f = eqb (length (crossings_on sign f)) 4

-- ---- pairs of crossings

pub record Pair : Type 0 where
  pub first : ℕ
  pub second : ℕ

abbrev pub pair : ℕ → ℕ → Pair
pair a b = record { first = a; second = b }

-- the pairs of a list, in order
unfoldable pub pairs_in : List ℕ → List Pair
pairs_in [] = []
pairs_in (x ∷ xs) = map (pair x) xs ++ pairs_in xs

-- v is an end of the edge e
unfoldable pub is_end : ℕ → ℕ → Bool
is_end v e = eqb v (low_end e) || eqb v (high_end e)

-- the corner that two edges have in common, or 8
unfoldable pub shared_by : ℕ → ℕ → ℕ
shared_by a b = cond (is_end (low_end a) b) (low_end a) (cond (is_end (high_end a) b) (high_end a) 8)

-- two edges have a corner in common whose sign is not that of the centre
unfoldable pub parted : (ℕ → Bool) → Bool → Pair → Bool
parted sign centre p =
    ltb (shared_by p.first p.second) 8 && not (beq (sign (shared_by p.first p.second)) centre)

-- "a face with two crossings joins them, one with four joins by the sign at its centre": there all its edges cross
unfoldable pub pairs_of : (ℕ → Bool) → Bool → ℕ → List Pair
pairs_of sign centre f =
    cond (eqb (length (crossings_on sign f)) 2) (pairs_in (crossings_on sign f))
    (cond (four_on sign f) (keep (parted sign centre) (pairs_in (edges_on f))) [])

-- ---- groups

-- the groups of the twelve edges, the group of the second edge of a pair renamed to that of the first
abbrev pub renamed_of : ℕ → ℕ → ℕ → ℕ
renamed_of old new g = cond (eqb g old) new g

abbrev pub merged_at : List ℕ → Pair → ℕ → ℕ
merged_at G p e = renamed_of (get_or G p.second 0) (get_or G p.first 0) (get_or G e 0)

unfoldable pub merged : List ℕ → Pair → List ℕ
merged G p = tabulate (merged_at G p) 12

-- the groups once the first f faces are seen
unfoldable pub groups_to : (ℕ → Bool) → (ℕ → Bool) → ℕ → List ℕ
groups_to sign centre zero = tabulate itself 12
groups_to sign centre (suc f) = foldl merged (groups_to sign centre f) (pairs_of sign (centre f) f)

-- the group of each edge of a cell; crossings of one group make one point
unfoldable pub groups_of : (ℕ → Bool) → (ℕ → Bool) → List ℕ
groups_of sign centre = groups_to sign centre 6

-- The edges of quads in ascending order, and how many there are of each kind.
use Rattle.std.specs.Prelude.{ℕ, zero, suc, ◌+◌, min, max, Bool, not, ◌&&◌, List, [], ◌∷◌, ◌++◌, eqb, leb, ltb}
use Rattle.lists.specs.Sort.{cons_if}
use Rattle.rule_sheet.specs.Quads.{Quad, num, sum, side, is_edge}

-- two points, the smaller and the larger
pub record Pair : Type 0 where
  pub low : ℕ
  pub high : ℕ

-- "an edge is a pair of points next to each other in a quad"
abbrev pub pair : ℕ → ℕ → Pair
pair u v = record { low = min u v; high = max u v }

-- the lists f 0, f 1, .., f (n - 1), one after the other
unfoldable pub join_to : {A : Type 0} → (ℕ → List A) → ℕ → List A
join_to f zero = []
join_to f (suc n) = join_to f n ++ f n

-- the lists f x of the elements x of a list, one after the other
unfoldable pub join_of : {A B : Type 0} → (A → List B) → List A → List B
join_of f [] = []
join_of f (x ∷ xs) = f x ++ join_of f xs

-- the pair (a, b) alone where it is an edge and a is the smaller, else nothing
abbrev pub edge_if : List Quad → ℕ → ℕ → List Pair
edge_if S a b = cons_if (leb a b && is_edge S a b) (pair a b) []

-- the edges with the smaller point a and the larger below n
abbrev pub edges_from : ℕ → List Quad → ℕ → List Pair
edges_from n S a = join_to (edge_if S a) n

-- "Edges go in ascending order of (smaller, larger) point number."
unfoldable pub edges_of : ℕ → List Quad → List Pair
edges_of n S = join_to (edges_from n S) n

-- ---- the edges by the quads on them

-- how many elements of a list pass a test
abbrev pub count : {A : Type 0} → (A → Bool) → List A → ℕ
count p l = sum (λ x. num (p x)) l

-- the quads that go along an edge from its smaller point, and those that go along it from its larger one
abbrev pub up : List Quad → Pair → ℕ
up S e = side S e.low e.high

abbrev pub down : List Quad → Pair → ℕ
down S e = side S e.high e.low

-- the edge has one quad
abbrev pub is_boundary : List Quad → Pair → Bool
is_boundary S e = eqb (up S e + down S e) 1

-- the edge has more than two quads
abbrev pub is_nonmanifold : List Quad → Pair → Bool
is_nonmanifold S e = ltb 2 (up S e + down S e)

-- the edge has exactly two quads, and they run the same way
abbrev pub is_turned : List Quad → Pair → Bool
is_turned S e = eqb (up S e + down S e) 2 && not (eqb (up S e) 1)

-- boundary_edges: the edges with one quad
unfoldable pub boundary_edges : ℕ → List Quad → ℕ
boundary_edges n S = count (is_boundary S) (edges_of n S)

-- nonmanifold_edges: the edges with more than two quads
unfoldable pub nonmanifold_edges : ℕ → List Quad → ℕ
nonmanifold_edges n S = count (is_nonmanifold S) (edges_of n S)

-- orientation_errors: the edges with exactly two quads that run the same way
unfoldable pub orientation_errors : ℕ → List Quad → ℕ
orientation_errors n S = count (is_turned S) (edges_of n S)

-- The counts of `quality` that need no coordinates, as 000 takes them, over the quads S of a sheet with n points;
-- and tight.
use Rattle.std.specs.Prelude.{ℕ, zero, suc, ◌+◌, Bool, cond, not, ◌&&◌, ◌||◌, List, eqb, ltb, length, get_or}
use Rattle.lists.specs.Every.{every, some, count_to}
use Rattle.rule_sheet.specs.Quads.{Quad, quad, num, is, all, valence}
use Rattle.rule_sheet.specs.Closed.{ind, at_point}
use Rattle.rule_sheet.specs.Edges.{Pair, edges_of, up, down}

-- ---- points

-- the point has another number of quads than 4
abbrev pub is_irregular : List Quad → ℕ → Bool
is_irregular S v = not (eqb (valence S v) 4)

-- irregular_vertices: the points whose number of quads is not 4
unfoldable pub irregular : ℕ → List Quad → ℕ
irregular n S = count_to (is_irregular S) n

-- ---- edges

-- the edge has "exactly two quads that run opposite ways"
abbrev pub runs_both_ways : List Quad → Pair → Bool
runs_both_ways S e = eqb (up S e) 1 && eqb (down S e) 1

-- the sheet is closed: "every edge has exactly two quads that run opposite ways"
unfoldable pub is_closed : ℕ → List Quad → Bool
is_closed n S = all (runs_both_ways S) (edges_of n S)

-- ---- the link of a point: the graph whose nodes are the neighbours of v; each corner at v joins the point before
-- it to the point after it

-- how often a corner at v joins x to a point; a neighbour is a point with one join or more
abbrev pub degree : List Quad → ℕ → ℕ → ℕ
degree S v x = at_point S v (λ p m. is x p + is x m)

-- a corner at v joins x and y
abbrev pub joined : List Quad → ℕ → ℕ → ℕ → Bool
joined S v x y = ltb 0 (at_point S v (λ p m. ind x y p m + ind y x p m))

-- y is reached from x over at most k joins, by way of points below n
unfoldable pub reached : List Quad → ℕ → ℕ → ℕ → ℕ → ℕ → Bool
reached S v n x zero y = eqb x y
reached S v n x (suc k) y = reached S v n x k y || some (λ z. reached S v n x k z && joined S v z y) n

-- x or y is no neighbour, or y is reached from x; there are as many joins as quads at v, so that no way needs more
abbrev pub reaches : ℕ → List Quad → ℕ → ℕ → ℕ → Bool
reaches n S v x y = eqb (degree S v x) 0 || (eqb (degree S v y) 0 || reached S v n x (valence S v) y)

-- each neighbour is reached from each
unfoldable pub connected : ℕ → List Quad → ℕ → Bool
connected n S v = every (λ x. every (reaches n S v x) n) n

-- a point that no corner at v joins to another, or two do
abbrev pub none_or_two : List Quad → ℕ → ℕ → Bool
none_or_two S v x = eqb (degree S v x) 0 || eqb (degree S v x) 2

-- the link of v has a node, is connected, and each node is joined twice
unfoldable pub good_link : ℕ → List Quad → ℕ → Bool
good_link n S v = not (eqb (valence S v) 0) && connected n S v && every (none_or_two S v) n

-- bad_vertex_links: the points whose link is empty, not connected, or has a node of another degree than 2
unfoldable pub bad_links : ℕ → List Quad → ℕ
bad_links n S = count_to (λ v. not (good_link n S v)) n

-- ---- tight

-- "tight is a yes if every edge has exactly two quads that run opposite ways", and by document 02, Point 3, "only if
-- the quads around every point form one ring as well. That is the quality record's count of bad links being zero"
unfoldable pub tight : ℕ → List Quad → Bool
tight n S = is_closed n S && eqb (bad_links n S) 0

-- ---- quads

-- how many corners of a quad are smaller than x
abbrev pub smaller_than : ℕ → Quad → ℕ
smaller_than x (quad a b c d) = num (ltb a x) + num (ltb b x) + num (ltb c x) + num (ltb d x)

-- w, x, y or z, for the first, second, third or last corner of a quad, whichever has r smaller corners
unfoldable pub by_rank : {A : Type 0} → ℕ → Quad → A → A → A → A → A
by_rank r (quad a b c d) w x y z =
    cond (eqb (smaller_than a (quad a b c d)) r) w (cond (eqb (smaller_than b (quad a b c d)) r) x
    (cond (eqb (smaller_than c (quad a b c d)) r) y z))

-- the corner with r smaller corners
abbrev pub ranked : ℕ → Quad → ℕ
ranked r (quad a b c d) = by_rank r (quad a b c d) a b c d

-- two quads of four different corners have the same corners: in ascending order, they agree at each place
abbrev pub same_corners : Quad → Quad → Bool
same_corners p q =
    eqb (ranked 0 p) (ranked 0 q) && eqb (ranked 1 p) (ranked 1 q) && eqb (ranked 2 p) (ranked 2 q)
    && eqb (ranked 3 p) (ranked 3 q)

-- the quads i and j of a list have the same corners
abbrev pub alike : List Quad → ℕ → ℕ → Bool
alike S i j = same_corners (get_or S i (quad 0 0 0 0)) (get_or S j (quad 0 0 0 0))

-- duplicate_faces: the quads whose corners an earlier quad has
unfoldable pub duplicate_faces : List Quad → ℕ
duplicate_faces S = count_to (λ i. some (alike S i) i) (length S)

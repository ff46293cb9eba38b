-- The requests for new points by their places: request 5 q + j is for the edge of corner j of quad q, or for the
-- centre where j is 4.
use Rattle.std.specs.Prelude.{ℕ, ◌+◌, ◌*◌, ◌/◌, ◌%◌, Bool, cond, List, eqb, get_or}
use Rattle.points.specs.declared.Point.{Point}
use Rattle.points.specs.Points.{halfway_p, centre_p}
use Rattle.lists.specs.Sort.{tabulate}
use Rattle.lists.specs.Every.{count_to, some}
use Rattle.rule_sheet.specs.Quads.{Quad, quad}
use Rattle.rule_sheet.specs.Flat.{corner}
use Rattle.rule_sheet.specs.FirstUse.{place}
use Rattle.incidence.specs.Corners.{edge_order}
use Rattle.rule_finer.specs.Finer.{edge_key, centre_key, Request, request}

-- the corner after corner j of a quad
abbrev pub after : ℕ → ℕ
after j = (j + 1) % 4

-- the corner before corner j of a quad
abbrev pub behind : ℕ → ℕ
behind j = (j + 3) % 4

-- the place of the request for the edge of corner c
abbrev pub request_of : ℕ → ℕ
request_of c = c / 4 * 5 + c % 4

-- the key of the request j of quad q
abbrev pub key_in : ℕ → List ℕ → ℕ → ℕ → ℕ
key_in n Q q j = cond (eqb j 4) (centre_key n q) (edge_key n (corner Q q j) (corner Q q (after j)))

-- the position of the request j of quad q
unfoldable pub position_in : (ℕ → Point) → List ℕ → ℕ → ℕ → Point
position_in at Q q j =
    cond (eqb j 4) (centre_p (at (corner Q q 0)) (at (corner Q q 1)) (at (corner Q q 2)) (at (corner Q q 3)))
    (halfway_p (at (corner Q q j)) (at (corner Q q (after j))))

-- the position of request t
abbrev pub position_at : (ℕ → Point) → List ℕ → ℕ → Point
position_at at Q t = position_in at Q (t / 5) (t % 5)

-- the key of request t
unfoldable pub key_at : ℕ → List ℕ → ℕ → ℕ
key_at n Q t = key_in n Q (t / 5) (t % 5)

-- request t
abbrev pub request_at : (ℕ → Point) → ℕ → List ℕ → ℕ → Request
request_at at n Q t = request (key_at n Q t) (position_at at Q t)

-- the keys of all requests of nq quads
abbrev pub keys_of : ℕ → ℕ → List ℕ → List ℕ
keys_of n nq Q = tabulate (key_at n Q) (5 * nq)

-- the first request with the key of request t
unfoldable pub first_of : ℕ → ℕ → List ℕ → ℕ → ℕ
first_of n nq Q t = place (key_at n Q t) (keys_of n nq Q)

-- the first requests of all requests
abbrev pub firsts_of : ℕ → ℕ → List ℕ → List ℕ
firsts_of n nq Q = tabulate (first_of n nq Q) (5 * nq)

-- request t is the first of its key
abbrev pub own : List ℕ → ℕ → Bool
own F t = eqb (get_or F t 0) t

-- the number of the point of request t, behind n points, F having the first request of each key
unfoldable pub number_of : ℕ → List ℕ → ℕ → ℕ
number_of n F t = n + count_to (own F) (get_or F t 0)

-- request t is that of corner i of the corners E
abbrev pub is_linked : List ℕ → ℕ → ℕ → Bool
is_linked E t i = eqb (request_of (get_or E i 0)) t

-- what is known of request t once the first i corners in the order of their edges are seen: its first request, or
-- itself where its corner is not seen
unfoldable pub linked_to : ℕ → ℕ → List ℕ → ℕ → ℕ → ℕ
linked_to n nq Q i t = cond (some (is_linked (edge_order n nq Q) t) i) (first_of n nq Q t) t

-- the number N t being that of request t, the child quad at corner j of quad q
abbrev pub child_of : (ℕ → ℕ) → List ℕ → ℕ → ℕ → Quad
child_of N Q q j = quad (corner Q q j) (N (5 * q + j)) (N (5 * q + 4)) (N (5 * q + behind j))

-- child quad c
abbrev pub child_at : (ℕ → ℕ) → List ℕ → ℕ → Quad
child_at N Q c = child_of N Q (c / 4) (c % 4)

-- the label of child quad i
abbrev pub label_at : List ℕ → ℕ → ℕ
label_at labels i = get_or labels (i / 4) 0

-- The finer sheet of `refine`: each quad becomes four round its centre. Document 01, "The finer sheet and the
-- rows", and `refine` of 000.
use Rattle.std.specs.Prelude.{ℕ, suc, ◌+◌, ◌*◌, min, max, cond, List, [], ◌∷◌, ◌++◌, map, eqb, length}
use Rattle.points.specs.declared.Point.{Point}
use Rattle.points.specs.Points.{halfway_p, centre_p, point_in}
use Rattle.rule_sheet.specs.Quads.{Quad, quad, is, sum, all}
use Rattle.rule_sheet.specs.FirstUse.{firsts, place}
use Rattle.rule_sheet.specs.Tests.{in_range}
use Rattle.rule_sheet.specs.Sheet.{Sheet, counts_of}
use Rattle.rule_sheet.specs.Lent.{Lent, Work, Room, held, room_in, lent_verdict}
use Rattle.rule_sheet.specs.Outcomes.{Outcome, refuses, gives, after_test, with_room}
use Rattle.rule_sheet.specs.declared.Refusal.TheVariants.{Bare, Corner}

-- ---- the quads and labels

-- each quad becomes four round its centre; mid numbers the edges' points, cen the quads' centres
abbrev pub split : (ℕ → ℕ → ℕ) → (ℕ → ℕ) → ℕ → List Quad → List Quad
split mid cen i [] = []
split mid cen i (quad a b c d ∷ S) =
    quad a (mid a b) (cen i) (mid d a) ∷ quad b (mid b c) (cen i) (mid a b) ∷ quad c (mid c d) (cen i) (mid b c)
    ∷ quad d (mid d a) (cen i) (mid c d) ∷ split mid cen (suc i) S

-- the four inherit the label
abbrev pub four_labels : List ℕ → List ℕ
four_labels [] = []
four_labels (l ∷ labels) = l ∷ l ∷ l ∷ l ∷ four_labels labels

-- the key of an edge of n points, the same from either end
abbrev pub edge_key : ℕ → ℕ → ℕ → ℕ
edge_key n u v = min u v * n + max u v

-- the key of the centre of quad i
abbrev pub centre_key : ℕ → ℕ → ℕ
centre_key n i = n * n + i

-- what asks for a new point, in order: the four edges of a quad, then its centre
abbrev pub keys : ℕ → ℕ → List Quad → List ℕ
keys n i [] = []
keys n i (quad a b c d ∷ S) =
    edge_key n a b ∷ edge_key n b c ∷ edge_key n c d ∷ edge_key n d a ∷ centre_key n i ∷ keys n (suc i) S

-- the keys of the new points, which stand behind the n old ones in the order in which they are first asked for
unfoldable pub asked : ℕ → List Quad → List ℕ
asked n S = firsts [] (keys n 0 S)

-- the number of the point of an edge
unfoldable pub mid_of : ℕ → List Quad → ℕ → ℕ → ℕ
mid_of n S u v = n + place (edge_key n u v) (asked n S)

-- the number of the centre of quad i
unfoldable pub cen_of : ℕ → List Quad → ℕ → ℕ
cen_of n S i = n + place (centre_key n i) (asked n S)

-- the quads of the finer sheet
unfoldable pub finer : ℕ → List Quad → List Quad
finer n S = split (mid_of n S) (cen_of n S) 0 S

-- ---- the new points

-- a new point that is asked for: its key and where it would lie
pub record Request : Type 0 where
  pub key : ℕ
  pub position : Point

-- the request of a key at a position
abbrev pub request : ℕ → Point → Request
request k p = record { key = k; position = p }

-- the position of a request
abbrev pub position_of : Request → Point
position_of r = r.position

-- the requests of the quads from quad i on, `at` placing the points: an edge's halfway point from the corner that
-- asks, and the centre
abbrev pub requests : (ℕ → Point) → ℕ → ℕ → List Quad → List Request
requests at n i [] = []
requests at n i (quad a b c d ∷ S) =
    request (edge_key n a b) (halfway_p (at a) (at b)) ∷ request (edge_key n b c) (halfway_p (at b) (at c))
    ∷ request (edge_key n c d) (halfway_p (at c) (at d)) ∷ request (edge_key n d a) (halfway_p (at d) (at a))
    ∷ request (centre_key n i) (centre_p (at a) (at b) (at c) (at d)) ∷ requests at n (suc i) S

-- the first request of each key, behind the keys seen
abbrev pub made : List ℕ → List Request → List Request
made seen [] = []
made seen (r ∷ l) = cond (eqb (sum (is r.key) seen) 0) (r ∷ made (seen ++ (r.key ∷ [])) l) (made seen l)

-- the new points: the first request of each key makes the point
unfoldable pub new_points : List Point → List Quad → List Point
new_points ps S = map position_of (made [] (requests (point_in ps) (length ps) 0 S))

-- ---- the finer sheet and the rule

-- the finer sheet: the old points and the new ones, four quads for each, and their labels
unfoldable pub finer_sheet : Sheet → Sheet
finer_sheet s = record {
  points = s.points ++ new_points s.points s.quads;
  quads = finer (length s.points) s.quads;
  labels = four_labels s.labels;
}

-- the sheet that is made, or 13
abbrev pub made_or_short : Sheet → Room → Outcome Sheet
made_or_short t room = with_room (counts_of t) room (gives t)

-- "refine: label count only" is 5, "refine: range only" is 6
unfoldable pub refined : Sheet → Room → Outcome Sheet
refined s room =
    cond (eqb (length s.labels) (length s.quads))
    (cond (all (in_range (length s.points)) s.quads) (made_or_short (finer_sheet s) room) (refuses Corner))
    (refuses Bare)

-- `refine` of the sheet in lent slices, into result slices: 12, 13, 5, 6, 13
unfoldable pub refine_rule : Lent → Work → Room → Outcome Sheet
refine_rule x w room = after_test (lent_verdict x.counts (room_in x) w) (refined (held x) room)

-- What the loops over the points and edges of a sheet read and leave, over flat lists: coordinates P, corners Q,
-- and the ends H of the edges, two to an edge.
use Rattle.std.specs.Prelude.{ℕ, ◌+◌, ◌*◌, ◌/◌, ◌%◌, ◌≤◌, ◌<◌, ◌≡◌, Bool, true, cond, not, List, [], ◌∷◌, map, eqb}
use Rattle.std.specs.Prelude.{length}
use Rattle.std.specs.Prelude.{get_or, take, Float}
use Rattle.rule_sheet.specs.Lent.{limit}
use Rattle.lists.specs.Regions.{part, Part, Apart}
use Rattle.points.specs.declared.Point.{Point}
use Rattle.points.specs.Points.{point_at}
use Rattle.rule_sheet.specs.Quads.{all}
use Rattle.rule_sheet.specs.Flat.{quad_at, quads_of}
use Rattle.rule_sheet.specs.Sheet.{Sheet, points_of}
use Rattle.sheet.specs.Sheet.{masks_of}
use Rattle.rule_sheet.specs.Tests.{proper}
use Rattle.incidence.specs.Corners.{Cornered, edge_order}
use Rattle.incidence.specs.Marks.{Incident}
use Rattle.refine.specs.Requests.{own}
use Rattle.refine.specs.Loops.{Writing, order_at, Finished}
use Rattle.sheet.specs.Edges.{smaller, larger, point_corners}
use Rattle.smoothing.specs.Smooth.{halfway, edge_point, crease_point, interior, smooth}
use Rattle.smoothing.specs.Rounded.{pointwise}
use Rattle.subdivide_points.specs.declared.Creases.{Creases}
use Rattle.subdivide_points.specs.declared.Creases.TheVariants.{Zero, One, Two, More}
use Rattle.rule_finer.specs.Smoothed.{paired}
use Rattle.lists.specs.Sort.{keep}
use Rattle.rule_sheet.specs.Places.{centre_of}

-- the bits of a mask below 256
unfoldable pub ones_of : ℕ → ℕ
ones_of m = m % 2 + m / 2 % 2 + m / 4 % 2 + m / 8 % 2 + m / 16 % 2 + m / 32 % 2 + m / 64 % 2 + m / 128 % 2

-- ---- the lists that the loops over a part of the work slice read

-- w has n numbers from `from` on, each below a bound
pub record Below (bound from n : ℕ) (w : List ℕ) : Type 0 where
  pub fits : from + n ≤ length w
  pub below : (j : ℕ) → j < n → get_or w (from + j) 0 < bound

-- each number of l is below a bound
abbrev pub Low : ℕ → List ℕ → Type 0
Low bound l = (j : ℕ) → j < length l → get_or l j 0 < bound

-- the end of an edge at place i: the corners E in the order of their edges, two to an edge, give its smaller and
-- its larger point
unfoldable pub end_at : List ℕ → List ℕ → ℕ → ℕ
end_at Q E i = cond (eqb (i % 2) 0) (smaller Q (get_or E i 0)) (larger Q (get_or E i 0))

-- H begins with the ends of the edges, in their order
abbrev pub Ends : ℕ → List ℕ → List ℕ → List ℕ → Type 0
Ends nq Q E H = (i : ℕ) → i < 4 * nq → get_or H i 0 ≡ end_at Q E i

-- E has the corners of nq quads, each once
pub record Corners (nq : ℕ) (E : List ℕ) : Type 0 where
  pub few : nq ≤ limit
  pub low : (i : ℕ) → i < 4 * nq → get_or E i 0 < 4 * nq
  pub once : (i j : ℕ) → i < j → j < 4 * nq → get_or E i 0 ≡ get_or E j 0 → ⊥

-- what the note of each edge's second corner asks: the corners E at `order`, and room at `second`
pub record Pairing (nq order second : ℕ) (E w : List ℕ) : Type 0 where
  pub corners : Corners nq E
  pub at : Part order (4 * nq) E w
  pub in_second : second + 4 * nq ≤ length w
  pub apart : Apart order (4 * nq) second (4 * nq)

-- the region at `second` of w has, for the first corner of each of the first k edges, the second one
abbrev pub Seconds : ℕ → List ℕ → ℕ → List ℕ → Type 0
Seconds second E k w = (i : ℕ) → i < k → get_or w (second + get_or E (2 * i) 0) 0 ≡ get_or E (2 * i + 1) 0

-- the centre of the quad of corner c
unfoldable pub corner_centre : List Float → List ℕ → ℕ → Point
corner_centre P Q c = centre_of (point_at P) (quad_at Q (c / 4))

-- the other end of the edge whose end stands at place i
unfoldable pub other_end : List ℕ → ℕ → ℕ
other_end H i = get_or H (i / 2 * 2 + (i + 1) % 2) 0

-- the halfway point from p to that end
unfoldable pub halfway_to : Point → List Float → List ℕ → ℕ → Point
halfway_to p P H i = halfway pointwise p (point_at P (other_end H i))

-- the edge whose end stands at place i is a crease: its two corners, in the order E of the corners, are of quads
-- with different labels
unfoldable pub crease_at : List ℕ → List ℕ → ℕ → Bool
crease_at labels E i =
    not (eqb (get_or labels (get_or E (i / 2 * 2) 0 / 4) 0) (get_or labels (get_or E (i / 2 * 2 + 1) 0 / 4) 0))

-- ---- creases

-- how many there are, and where one or two lead
unfoldable pub creases_of : List ℕ → Creases
creases_of [] = Zero
creases_of (a ∷ []) = One a
creases_of (a ∷ b ∷ []) = Two a b
creases_of (a ∷ b ∷ c ∷ l) = More

-- one more
unfoldable pub with_crease : Creases → ℕ → Creases
with_crease Zero u = One u
with_crease (One a) u = Two a u
with_crease (Two a b) u = More
with_crease More u = More

-- two creases lead to points
abbrev pub Lead : ℕ → Creases → Type 0
Lead n (Two a b) = (a < n) × (b < n)
Lead n Zero = Unit {0}
Lead n (One a) = Unit {0}
Lead n More = Unit {0}

-- where the creases among the edges at the places lead, in their order
abbrev pub crease_ends : List ℕ → List ℕ → List ℕ → List ℕ → List ℕ
crease_ends labels E H l = map (other_end H) (keep (crease_at labels E) l)

-- ---- the smoothed points

-- where p comes to by its creases, q being the interior rule's answer
unfoldable pub moved_by : List Float → Creases → Point → Point → Point
moved_by P Zero p q = q
moved_by P (One a) p q = p
moved_by P (Two a b) p q = crease_point pointwise p (point_at P a) (point_at P b)
moved_by P More p q = p

-- the interior rule's answer for point v, by the ends H of the edges
unfoldable pub interior_at : ℕ → List Float → List ℕ → List ℕ → ℕ → Point
interior_at nq P Q H v =
    interior pointwise (point_at P v) (map (corner_centre P Q) (point_corners Q nq v))
    (map (point_at P) (map (other_end H) (point_corners H nq v)))

-- where point v comes to, by its mask m, the corners E in the order of their edges, and the ends H of the edges
unfoldable pub moved_point : ℕ → List Float → List ℕ → List ℕ → List ℕ → List ℕ → ℕ → ℕ → Point
moved_point nq P Q labels E H m v =
    smooth pointwise (ones_of m) (map (point_at P) (crease_ends labels E H (point_corners H nq v))) (point_at P v)
    (map (corner_centre P Q) (point_corners Q nq v)) (map (point_at P) (map (other_end H) (point_corners H nq v)))

-- the new point of the edge whose corners are c and d
unfoldable pub edge_at : List Float → List ℕ → List ℕ → ℕ → ℕ → Point
edge_at P Q labels c d =
    cond (not (eqb (get_or labels (c / 4) 0) (get_or labels (d / 4) 0)))
    (halfway pointwise (point_at P (smaller Q c)) (point_at P (larger Q c)))
    (edge_point pointwise (point_at P (smaller Q c)) (point_at P (larger Q c)) (corner_centre P Q c)
    (corner_centre P Q d))

-- the corner of request t
abbrev pub corner_of : ℕ → ℕ
corner_of t = t / 5 * 4 + t % 5

-- where the new point of request t comes to, D having the second corner of each edge by its first one
unfoldable pub place_at : List Float → List ℕ → List ℕ → List ℕ → ℕ → Point
place_at P Q labels D t =
    cond (eqb (t % 5) 4) (centre_of (point_at P) (quad_at Q (t / 5)))
    (edge_at P Q labels (corner_of t) (get_or D (corner_of t) 0))

-- ---- the work slice: behind the regions of the finer sheet stand the masks, a region that sorts use, the corners
-- of each point behind where they begin,

-- the same for the ends of edges, and the second corners
abbrev pub masks_at : ℕ → ℕ → ℕ
masks_at np nq = 19 * (np + nq)

abbrev pub scratch_at : ℕ → ℕ → ℕ
scratch_at np nq = 20 * (np + nq)

abbrev pub starts_at : ℕ → ℕ → ℕ
starts_at np nq = 24 * (np + nq)

abbrev pub list_at : ℕ → ℕ → ℕ
list_at np nq = 25 * (np + nq)

abbrev pub end_starts_at : ℕ → ℕ → ℕ
end_starts_at np nq = 29 * (np + nq)

abbrev pub end_list_at : ℕ → ℕ → ℕ
end_list_at np nq = 30 * (np + nq)

abbrev pub seconds_at : ℕ → ℕ → ℕ
seconds_at np nq = 34 * (np + nq)

-- an index of the work slice before the sorts' region
abbrev pub BeforeScratch : ℕ → ℕ → ℕ → Type 0
BeforeScratch np nq i = i < scratch_at np nq

-- l has the corners of point v
pub record Spans (nq : ℕ) (Q : List ℕ) (v : ℕ) (l : List ℕ) : Type 0 where
  pub is : l ≡ point_corners Q nq v
  pub low : Low (4 * nq) l
  pub few : length l ≤ 4 * nq

-- the corners of the quads Q and the ends H of the edges by their points; no marks are kept, and the region of
-- marks is at 0
pub record Listed (np nq : ℕ) (Q H w : List ℕ) : Type 0 where
  pub corners : Incident np nq Q (starts_at np nq) (list_at np nq) 0 w
  pub ends : Incident np nq H (end_starts_at np nq) (end_list_at np nq) 0 w

-- what the smoothing of the old points reads
pub record Gathered (np nq : ℕ) (P : List Float) (Q labels H w : List ℕ) : Type 0 where
  pub points : 3 * np ≤ length P
  pub labelled : nq ≤ length labels
  pub order : Below (4 * nq) (order_at np nq) (4 * nq) w
  pub listed : Listed np nq Q H w

-- where point v comes to, by the work slice
abbrev pub moved_in : ℕ → ℕ → List Float → List ℕ → List ℕ → List ℕ → List ℕ → ℕ → Point
moved_in np nq P Q labels H w v =
    moved_point nq P Q labels (part (order_at np nq) (4 * nq) w) H (get_or w (masks_at np nq + v) 0) v

-- what the writing of the new points reads: for the first request of an edge, a second corner
pub record Placing (np nq : ℕ) (P : List Float) (Q labels : List ℕ) (first num second : ℕ) (F N w : List ℕ) (room : ℕ) :
    Type 0 where
  pub writing : Writing np nq P Q first num F N w room
  pub labelled : nq ≤ length labels
  pub in_second : second + 4 * nq ≤ length w
  pub known : (t : ℕ) → t < 5 * nq → own F t ≡ true → (t % 5 ≡ 4 → ⊥) → get_or w (second + corner_of t) 0 < 4 * nq

-- what the writing of the smoothed sheet asks: the finer sheet is numbered and has room, the edges have two quads
-- each, and the masks are known
pub record Smoothable (np nq : ℕ) (P : List Float) (Q labels w : List ℕ) (p q l : ℕ) : Type 0 where
  pub finished : Finished np nq P Q labels w p q l
  pub few : np ≤ limit
  pub some : 0 < nq
  pub work : 64 * (np + nq) ≤ length w
  pub good : all (proper np) (quads_of nq Q) ≡ true
  pub pairs : paired np (quads_of nq Q) ≡ true
  pub masks : Part (masks_at np nq) np (masks_of np (quads_of nq Q) (take nq labels)) w

-- what the gathering asks: the corners in the order of their edges, and room
pub record Gathering (np nq : ℕ) (Q : List ℕ) (room : ℕ) (w : List ℕ) : Type 0 where
  pub cornered : Cornered np nq Q
  pub few : np ≤ limit
  pub some : 0 < nq
  pub in_ends : 4 * nq ≤ room
  pub work : 64 * (np + nq) ≤ length w
  pub order : Part (order_at np nq) (4 * nq) (edge_order np nq Q) w

-- the sheet of np points and nq quads in slices
abbrev pub flat_sheet : ℕ → ℕ → List Float → List ℕ → List ℕ → Sheet
flat_sheet np nq P Q labels = record { points = points_of np P; quads = quads_of nq Q; labels = take nq labels }

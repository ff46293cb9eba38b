-- The smoothed sheet of `subdivide`: the quads and labels of the finer sheet, its points smoothed. Document 01,
-- "The finer sheet and the rows", and `subdivide` of 000.
use Rattle.std.specs.Prelude.{ℕ, suc, ◌+◌, ◌-◌, ◌*◌, ◌/◌, ◌%◌, Bool, cond, not, ◌&&◌, List, [], ◌∷◌, ◌++◌, map, eqb}
use Rattle.std.specs.Prelude.{ltb, length, get_or, replicate}
use Rattle.lists.specs.Sort.{tabulate, cons_if}
use Rattle.lists.specs.Every.{count_to}
use Rattle.points.specs.declared.Point.{Point}
use Rattle.points.specs.Points.{point_in}
use Rattle.rule_sheet.specs.Quads.{Quad, quad, is, all, corners, at, uses, is_edge, has_label}
use Rattle.rule_sheet.specs.Edges.{Pair, join_to, edges_of}
use Rattle.rule_sheet.specs.Sheet.{Sheet}
use Rattle.smoothing.specs.Arithmetic.{Arithmetic}
use Rattle.smoothing.specs.Smooth.{quad_centre, halfway, edge_point, smooth}
use Rattle.smoothing.specs.Rounded.{pointwise}
use Rattle.rule_finer.specs.Finer.{asked, finer_sheet}

-- the numbers below n that pass a test, ascending
unfoldable pub those : (ℕ → Bool) → ℕ → List ℕ
those p n = join_to (λ i. cons_if (p i) i []) n

-- ---- the quads of an edge and of a point

-- the numbers of the quads from quad i on, each as often as a weight of it says
abbrev pub timed : (Quad → ℕ) → ℕ → List Quad → List ℕ
timed f i [] = []
timed f i (q ∷ S) = replicate (f q) i ++ timed f (suc i) S

-- how often a quad has the edge of u and v
abbrev pub sides : ℕ → ℕ → Quad → ℕ
sides u v q = corners (at u (λ p n. is v n)) q + corners (at v (λ p n. is u n)) q

-- the quads of the edge of u and v, "in quad order"
unfoldable pub edge_quads : List Quad → ℕ → ℕ → List ℕ
edge_quads S u v = timed (sides u v) 0 S

-- the quads at v, "in quad order"
unfoldable pub point_quads : List Quad → ℕ → List ℕ
point_quads S v = timed (uses v) 0 S

-- the edge has exactly two quads
abbrev pub is_paired : List Quad → Pair → Bool
is_paired S e = eqb (length (edge_quads S e.low e.high)) 2

-- every edge of a sheet of n points has exactly two quads
unfoldable pub paired : ℕ → List Quad → Bool
paired n S = all (is_paired S) (edges_of n S)

-- ---- creases and neighbours

-- "a crease edge, between two labels": u and v are an edge whose two quads have different labels
unfoldable pub is_crease : Sheet → ℕ → ℕ → Bool
is_crease s u v =
    let l = edge_quads s.quads u v in
    is_edge s.quads u v && not (eqb (get_or s.labels (get_or l 0 0) 0) (get_or s.labels (get_or l 1 0) 0))

-- "Neighbours are summed in ascending number": the points that v has an edge with
unfoldable pub neighbours : Sheet → ℕ → List ℕ
neighbours s v = those (is_edge s.quads v) (length s.points)

-- the points that v has a crease edge with, ascending
unfoldable pub creases : Sheet → ℕ → List ℕ
creases s v = those (is_crease s v) (length s.points)

-- the labels that touch v: the bits of its mask
unfoldable pub label_count : Sheet → ℕ → ℕ
label_count s v = count_to (has_label s.quads s.labels v) 8

-- ---- the smoothed points, over any arithmetic: `at` has the number at each point

-- point v
abbrev pub point_of : Sheet → ℕ → Point
point_of s v = point_in s.points v

-- the centre of a quad
abbrev pub centre_with : (A : Arithmetic) → (ℕ → A.Number) → Quad → A.Number
centre_with A at (quad a b c d) = quad_centre A (at a) (at b) (at c) (at d)

module _ (A : Arithmetic) (s : Sheet) (at : ℕ → A.Number) where
  -- the centre of quad i
  unfoldable pub centre_at : ℕ → A.Number
  centre_at i = centre_with A at (get_or s.quads i (quad 0 0 0 0))

  -- where the old point v comes to. "Interior points follow Catmull and Clark"; "A point of more than two labels or
  -- crease edges, or of one crease edge, stays; one with two takes 6:1:1 over 8. Neighbours are summed in ascending
  -- number, quad centres in quad order."
  unfoldable pub old_point : ℕ → A.Number
  old_point v =
      smooth A (label_count s v) (map at (creases s v)) (at v) (map centre_at (point_quads s.quads v))
      (map at (neighbours s v))

  -- where the new point of the edge of u and v comes to. "An edge inside one label gets the mean of its two ends and
  -- two quad centres; a crease edge, between two labels, keeps its halfway point."
  unfoldable pub edge_place : ℕ → ℕ → A.Number
  edge_place u v =
      let l = edge_quads s.quads u v in
      cond (is_crease s u v) (halfway A (at u) (at v))
      (edge_point A (at u) (at v) (centre_at (get_or l 0 0)) (centre_at (get_or l 1 0)))

  -- where the new point of a key comes to: below n * n it is that of an edge, smaller * n + larger, and from there on
  -- that of a quad's centre
  unfoldable pub new_place : ℕ → A.Number
  new_place k =
      let n = length s.points in
      cond (ltb k (n * n)) (edge_place (k / n) (k % n)) (centre_at (k - n * n))

  -- all points of the finer sheet: the old ones, and behind them the new ones in the order in which they are first
  -- asked for
  unfoldable pub smooth_places : List A.Number
  smooth_places = let n = length s.points in tabulate old_point n ++ map new_place (asked n s.quads)

-- the finer sheet with its points smoothed, in the arithmetic of IEEE 754
unfoldable pub smooth_sheet : Sheet → Sheet
smooth_sheet s = record {
  points = smooth_places pointwise s (point_of s);
  quads = (finer_sheet s).quads;
  labels = (finer_sheet s).labels;
}

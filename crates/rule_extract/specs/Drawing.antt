-- The sheet that extraction draws. Document 01, "The drawn sheet", and `extract_candidate` of 000. The grid has n
-- cells a side, n being two more than the cells asked for, and n + 1 places.
use Rattle.std.specs.Prelude.{ℕ, ◌+◌, ◌-◌, ◌*◌, ◌/◌, ◌%◌, Bool, cond, not, ◌&&◌, ◌||◌, eqb, leb, ltb, length, get_or}
use mathlib.Core.List.{List, [], ◌∷◌, map, foldl}
use Rattle.std.specs.Float.{binary64}
use Rattle.std.specs.Float.Ieee.{div}
use Rattle.numeric.specs.Num.{finite_of, float}
use Rattle.points.specs.declared.Point.{Point}
use Rattle.points.specs.Points.{one, add_p, mul_p, origin}
use Rattle.setting.specs.Settings.{Domain, band_in}
use Rattle.band.specs.Bands.{valid_of}
use Rattle.lists.specs.Sort.{tabulate, itself, cons_if, keep}
use Rattle.lists.specs.Every.{every}
use Rattle.rule_sheet.specs.Quads.{Quad, quad}
use Rattle.rule_sheet.specs.Edges.{join_to}
use Rattle.rule_sheet.specs.Tests.{good_masks}
use Rattle.rule_sheet.specs.Sheet.{Sheet, counts_of, is_bare}
use Rattle.rule_sheet.specs.Lent.{Work, Room}
use Rattle.rule_sheet.specs.Outcomes.{Outcome, refuses, gives, with_room}
use Rattle.rule_extract.specs.declared.Grid.{Grid}
use Rattle.rule_extract.specs.declared.Site.{Site}
use Rattle.rule_extract.specs.Grids.{grid_of}
use Rattle.rule_extract.specs.Crossings.{crossing_of, crossed_label}
use Rattle.rule_extract.specs.Lattice.{site_at, index_of, sample_at, inside_at, cell_groups, edge_site}
use Rattle.rule_extract.specs.Paths.{crossed_at, edge_crosses}
use Rattle.rule_sheet.specs.declared.Refusal.TheVariants.{Box, Cells, Samples, Bare, Clash, Short}

-- ---- points

-- the edge e of the cell at c has a crossing of the group k
unfoldable pub is_member : Grid → Site → ℕ → ℕ → Bool
is_member g c k e = edge_crosses g c e && eqb (get_or (cell_groups g c) e 0) k

-- the edges with a crossing of the group k, ascending
unfoldable pub members_of : Grid → Site → ℕ → List ℕ
members_of g c k = keep (is_member g c k) (tabulate itself 12)

-- the crossing on an edge of a cell
unfoldable pub crossing_at : Grid → Site → ℕ → Point
crossing_at g c e = crossing_of g (edge_site c e) (e / 4)

-- a mean: the sum from +0.0 on, times the reciprocal of the count
unfoldable pub mean_of : List Point → Point
mean_of l = mul_p (foldl add_p origin l) (div binary64 one (float (length l)))

-- "One point per group is the mean of its crossings."
unfoldable pub group_point : List Point → List Point
group_point [] = []
group_point (p ∷ l) = mean_of (p ∷ l) ∷ []

-- the point of the group k of a cell, if it has one
unfoldable pub group_points : Grid → Site → ℕ → List Point
group_points g c k = group_point (map (crossing_at g c) (members_of g c k))

-- the points of a cell, by ascending groups
unfoldable pub cell_points : Grid → Site → List Point
cell_points g c = join_to (group_points g c) 12

-- the points of the cell with a number
abbrev pub points_in : Grid → ℕ → ℕ → List Point
points_in g n e = cell_points g (site_at n e)

-- the points of the first cells
unfoldable pub points_to : Grid → ℕ → ℕ → List Point
points_to g n e = join_to (points_in g n) e

-- the number of the point to which the crossing on the edge e of the cell at c belongs
unfoldable pub number_of : Grid → ℕ → Site → ℕ → ℕ
number_of g n c e =
    length (points_to g n (index_of n c)) + length (join_to (group_points g c) (get_or (cell_groups g c) e 0))

-- ---- quads

-- the place a along an axis, b along the next one and d along the one after
unfoldable pub place_on : ℕ → ℕ → ℕ → ℕ → Site
place_on axis a b d =
    cond (eqb axis 0) (record { x = a; y = b; z = d }) (cond (eqb axis 1) (record { x = d; y = a; z = b })
    (record { x = b; y = d; z = a }))

-- an edge of the grid with four cells round it: its axis, the place along it, and the places along the next two
-- axes, which are not 0
pub record Inner : Type 0 where
  pub axis : ℕ
  pub a : ℕ
  pub b : ℕ
  pub d : ℕ

-- how many such edges there are
abbrev pub inner_count : ℕ → ℕ
inner_count n = 3 * (n * ((n - 1) * (n - 1)))

-- the edge with the number t: by axis, then along it, then along the next two
unfoldable pub inner_at : ℕ → ℕ → Inner
inner_at n t = record {
  axis = t / (n * ((n - 1) * (n - 1)));
  a = t / ((n - 1) * (n - 1)) % n;
  b = t / (n - 1) % (n - 1) + 1;
  d = t % (n - 1) + 1;
}

-- where it begins
unfoldable pub inner_site : Inner → Site
inner_site i = place_on i.axis i.a i.b i.d

-- the number of the point in the cell u and w before it, along the next two axes
unfoldable pub corner_of : Grid → ℕ → Inner → ℕ → ℕ → ℕ
corner_of g n i u w = number_of g n (place_on i.axis i.a (i.b - u) (i.d - w)) (i.axis * 4 + u * 2 + w)

-- "from its four cells, offsets (1,1), (0,1), (0,0), (1,0), reversed if the edge begins outside"
unfoldable pub inner_quad : Grid → ℕ → Inner → Quad
inner_quad g n i =
    cond (inside_at g (inner_site i)) (quad (corner_of g n i 1 1) (corner_of g n i 0 1) (corner_of g n i 0 0)
    (corner_of g n i 1 0))
    (quad (corner_of g n i 1 0) (corner_of g n i 0 0) (corner_of g n i 0 1) (corner_of g n i 1 1))

-- an inner edge crosses
abbrev pub inner_crosses : Grid → ℕ → ℕ → Bool
inner_crosses g n t = crossed_at g (inner_site (inner_at n t)) (inner_at n t).axis

-- "Each inner crossing edge gives one quad"
abbrev pub quad_if : Grid → ℕ → ℕ → List Quad
quad_if g n t = cons_if (inner_crosses g n t) (inner_quad g n (inner_at n t)) []

-- its label is that of the level or face that is crossed
abbrev pub label_if : Grid → ℕ → ℕ → List ℕ
label_if g n t = cons_if (inner_crosses g n t) (crossed_label g (inner_site (inner_at n t)) (inner_at n t).axis) []

-- ---- the sheet and the rule

unfoldable pub drawn_sheet : Grid → ℕ → Sheet
drawn_sheet g n = record {
  points = points_to g n (n * n * n);
  quads = join_to (quad_if g n) (inner_count n);
  labels = join_to (label_if g n) (inner_count n);
}

-- "not 4 to 128"
abbrev pub good_cells : ℕ → Bool
good_cells cells = leb 4 cells && leb cells 128

-- "for extraction (cells + 3)³ f64 and 12 × (cells + 2)³ u32"
abbrev pub short_work : ℕ → Work → Bool
short_work cells w =
    ltb w.floats ((cells + 3) * (cells + 3) * (cells + 3))
    || ltb w.numbers (12 * ((cells + 2) * (cells + 2) * (cells + 2)))

-- "a grid sample not finite"
abbrev pub finite_sample : Grid → ℕ → ℕ → Bool
finite_sample g m t = finite_of (sample_at g m t)

abbrev pub finite_samples : Grid → ℕ → Bool
finite_samples g m = every (finite_sample g m) (m * m * m)

-- 13 (result), 5, 7
abbrev pub drawn_or : Sheet → Room → Outcome Sheet
drawn_or s room =
    with_room (counts_of s) room (cond (is_bare s) (refuses Bare)
    (cond (good_masks (length s.points) s.quads s.labels) (gives s) (refuses Clash)))

-- `extract_candidate` into result slices: "1, 2, 3, 13 (work), 4, 13 (result), 5, 7", and since document 02, Point 12
-- "number 2 never occurs"
unfoldable pub extract_rule : Domain → ℕ → Work → Room → Outcome Sheet
extract_rule d cells w room =
    cond (not (valid_of (band_in d))) (refuses Box)
    (cond (not (good_cells cells)) (refuses Cells)
    (cond (short_work cells w) (refuses Short)
    (cond (not (finite_samples (grid_of d cells) (cells + 3))) (refuses Samples)
    (drawn_or (drawn_sheet (grid_of d cells) (cells + 2)) room))))

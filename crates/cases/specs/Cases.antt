-- The cases that document 01 marks with *, "proved of the definitions together, by a table and one theorem about it",
-- and those of tight, of the corners per point, of the page, of job files and of a band without a lower level. A row
-- says what is asked of the rules and what they must answer.
use Rattle.std.specs.Prelude.{ℕ, ◌+◌, ◌-◌, ◌*◌, ◌≡◌, Bool, true, false, List, [], ◌∷◌, ◌++◌, map, ℤ, pos, negsuc}
use Rattle.std.specs.Prelude.{◌+ℤ◌, Some, None}
use Rattle.std.specs.Prelude.{◌-ℤ◌, length, drop, replicate, Float}
use Prim.Native.String.{String}
use Rattle.std.specs.Float.{fin, inf, binary64}
use Rattle.std.specs.Float.Ieee.{to_bits}
use Rattle.numeric.specs.Num.{zero_f, half}
use Rattle.numeric.specs.Root.{sqrt_of}
use Rattle.points.specs.declared.Point.{Point}
use Rattle.points.specs.Points.{one, origin}
use Rattle.field.specs.declared.Field.TheVariants.{Plane}
use Rattle.setting.specs.Settings.{Setting, domain_in, setting_of}
use Rattle.rule_sheet.specs.Quads.{Quad, quad, num, valence}
use Rattle.rule_sheet.specs.Flat.{flat_quads}
use Rattle.rule_sheet.specs.Edges.{join_of}
use Rattle.rule_sheet.specs.Sheet.{Sheet, flat_points, counts_of, with_quads}
use Rattle.rule_sheet.specs.Lent.{Lent, Work, Room, lent_of, work_with, room_with}
use Rattle.rule_sheet.specs.Outcomes.{Outcome, refuses, gives}
use Rattle.rule_sheet.specs.Sound.{edge_count, squared_of}
use Rattle.rule_admission.specs.Admission.{admits}
use Rattle.rule_regularize.specs.Swaps.{gain_in}
use Rattle.rule_regularize.specs.Rule.{regularize_rule, improve_rule}
use Rattle.rule_coarsen.specs.Coarse.{merge_gain}
use Rattle.rule_coarsen.specs.Rule.{coarsen_rule}
use Rattle.rule_finer.specs.Finer.{refine_rule}
use Rattle.rule_finer.specs.Subdivide.{subdivide_rule}
use Rattle.rule_rows.specs.Rows.{rows_rule}
use Rattle.rule_quality.specs.Census.{is_closed}
use Rattle.rule_quality.specs.declared.report.Quality.{Quality}
use Rattle.rule_quality.specs.Quality.{eight_counts, quality_rule}
use Rattle.rule_corners.specs.Corners.{corners_rule}
use Rattle.rule_page.specs.Page.{bytes_of, line_end, page_of}
use Rattle.rule_job.specs.Files.{Job, job_of, sum_of, file_with, file_of}
use Rattle.rule_job.specs.Jobs.{JobRoom, room_in, save_rule, open_rule}
use Rattle.rule_sheet.specs.declared.Refusal.TheVariants as refusals
use Rattle.rule_sheet.specs.declared.Refusal.TheVariants.{Box}
use Rattle.rule_sheet.specs.Verdicts.{Accepted}

-- ---- what the rules are asked with

-- the point (a, b, c)
abbrev pub point : Float → Float → Float → Point
point a b c = record { x = a; y = b; z = c }

-- the unit box with this lower level
abbrev pub box_from : Float → Setting
box_from lower = setting_of (record {
  low = origin;
  high = point one one one;
  lower = lower;
  upper = one;
  field = Plane zero_f zero_f one zero_f;
})

-- the unit box, between the levels 0 and 1; the field, a plane, matters to no row
abbrev pub unit_box : Setting
unit_box = box_from zero_f

-- the unit box with a lower level of minus infinity
abbrev pub bottomless_box : Setting
bottomless_box = box_from (inf true)

-- a sheet in slices that just hold it
abbrev pub lent_sheet : Sheet → Lent
lent_sheet s = lent_of (counts_of s) (flat_points s.points) (flat_quads s.quads) s.labels

-- work slices that are just enough for it
abbrev pub work_for : Sheet → Work
work_for s = let n = length s.points + length s.quads in work_with (64 * n) (16 * n)

-- result slices of p points and q quads
abbrev pub room_for : ℕ → ℕ → Room
room_for p q = room_with (3 * p) (4 * q) q

-- a sheet as a job in slices that just hold it: the bits of the unit box, of the levels 0 and 1 and of its coordinates
abbrev pub job_for : Sheet → Job
job_for s =
    job_of (counts_of s)
    (map (to_bits binary64) (zero_f ∷ zero_f ∷ zero_f ∷ one ∷ one ∷ one ∷ zero_f ∷ one ∷ []))
    (map (to_bits binary64) (flat_points s.points)) (flat_quads s.quads) s.labels

-- slices that just hold it, with an element of work for each point
abbrev pub room_for_job : Job → JobRoom
room_for_job j = room_in j j.counts.points

-- a rule accepts, and what it makes has the property P
abbrev pub Gives : {A : Type 0} → Outcome A → (A → Type 0) → Type 0
Gives (refuses n) P = ⊥
Gives (gives x) P = P x

-- a file of the job j: so many bytes, this trailer at its end, and it opens to the job
abbrev pub IsFile : List ℕ → Job → ℕ → List ℕ → Type 0
IsFile F j size trailer =
    (length F ≡ size) × (drop (size - length trailer) F ≡ trailer) × Gives (open_rule F (room_for_job j)) (λ k. k ≡ j)

-- ---- the cube

-- "Unit cube as its own box, 6 quads labelled 2 to 7": point x + 2 y + 4 z, the quads of the faces x = 0, x = 1, y = 0,
-- y = 1, z = 0, z = 1, each counterclockwise seen from outside
unfoldable pub cube : Sheet
cube = record {
  points = point zero_f zero_f zero_f ∷ point one zero_f zero_f ∷ point zero_f one zero_f ∷ point one one zero_f
      ∷ point zero_f zero_f one ∷ point one zero_f one ∷ point zero_f one one ∷ point one one one ∷ [];
  quads = quad 0 4 6 2 ∷ quad 1 3 7 5 ∷ quad 0 1 5 4 ∷ quad 2 6 7 3 ∷ quad 0 2 3 1 ∷ quad 4 5 7 6 ∷ [];
  labels = 2 ∷ 3 ∷ 4 ∷ 5 ∷ 6 ∷ 7 ∷ [];
}

-- the sheet of nothing
unfoldable pub nothing : Sheet
nothing = record { points = []; quads = []; labels = [] }

-- the cube with its first quad turned over
unfoldable pub turned_cube : Sheet
turned_cube = with_quads cube (quad 2 6 4 0 ∷ drop 1 cube.quads)

-- ---- patches of quads on the face z = 1, with given numbers of quads at some points

-- k quads at v, whose other corners are p, p + 1 and p + 2
abbrev pub spokes : ℕ → ℕ → ℕ → List Quad
spokes k v p = replicate k (quad v p (p + 1) (p + 2))

-- points and quads, all labelled 7
abbrev pub patch : List Point → List Quad → Sheet
patch ps S = record { points = ps; quads = S; labels = replicate (length S) 7 }

-- the corners of the face, and three points between them
abbrev pub square : List Point
square = point zero_f zero_f one ∷ point one zero_f one ∷ point one one one ∷ point zero_f one one ∷ []

abbrev pub middles : List Point
middles = point half zero_f one ∷ point half half one ∷ point zero_f half one ∷ []

-- two quads back to back, which run opposite ways along each of their four edges
abbrev pub back_to_back : ℕ → ℕ → ℕ → ℕ → List Quad
back_to_back a b c d = quad a b c d ∷ quad d c b a ∷ []

-- a pillow, and two pillows that share the point 0 and nothing else
unfoldable pub pillow : Sheet
pillow = patch square (back_to_back 0 1 2 3)

unfoldable pub two_pillows : Sheet
two_pillows = patch (square ++ middles) (back_to_back 0 1 2 3 ++ back_to_back 0 4 5 6)

-- six points: with the edge from 0 to 1 they are two quads, 0 1 3 5 and 1 0 2 4, and with the diagonal from 2 to 3 two
-- squares
abbrev pub hexagon : List Point
hexagon =
    point zero_f zero_f one ∷ point one half one ∷ point half zero_f one ∷ point half half one ∷ point one zero_f one
    ∷ point zero_f half one ∷ []

-- Two quads along the edge from 0 to 1, and the diagonal from 2 to 3 that may take its place and makes two squares of
-- them. The points 0, 1, 2 and 3 have va, vb, vc and vd quads; so many are at 4 and 5 that the diagonal from 4 to 5 is
-- never taken.
unfoldable pub swap_patch : ℕ → ℕ → ℕ → ℕ → Sheet
swap_patch va vb vc vd = patch (hexagon ++ replicate 3 (point zero_f zero_f one))
    (quad 0 1 3 5 ∷ quad 1 0 2 4 ∷ (spokes (va - 2) 0 6 ++ spokes (vb - 2) 1 6 ++ spokes (vc - 1) 2 6
    ++ spokes (vd - 1) 3 6 ++ spokes va 4 6 ++ spokes vb 5 6))

-- The quad of the points 0, 1, 2 and 3, which have va, vb, vc and vd quads: 0 and 2 may be merged.
unfoldable pub merge_patch : ℕ → ℕ → ℕ → ℕ → Sheet
merge_patch va vc vb vd = patch (square ++ replicate 12 (point half half one))
    (quad 0 1 2 3 ∷ (spokes (va - 1) 0 4 ++ spokes (vc - 1) 2 7 ++ spokes (vb - 1) 1 10 ++ spokes (vd - 1) 3 13))

-- the quads at the points 0, 1, 2 and 3
abbrev pub valences : Sheet → List ℕ
valences s = map (valence s.quads) (0 ∷ 1 ∷ 2 ∷ 3 ∷ [])

-- ---- the cases

pub data Case : Type 0 where
  -- a sheet: its points, edges and quads, points − edges + quads, demand 3's sum
  sheet_case : (s : Sheet) (points edges quads : ℕ) (euler : ℤ) (sum : ℕ) → Case
  -- `refine` of a sheet: the points and quads of the finer sheet, demand 3's sum
  refine_case : (s : Sheet) (points quads sum : ℕ) → Case
  -- `boundary_rows` of a sheet: the points and quads of the sheet with rows
  rows_case : (s : Sheet) (points quads : ℕ) → Case
  -- a swap, from an edge of valences va and vb to a diagonal of valences vc and vd: its gain, and whether `regularize`
  -- and `improve_layout` take it
  swap_case : (va vb vc vd : ℕ) (gain : ℤ) (regularizes improves : Bool) → Case
  -- a merge of points of valences va and vc beside vb and vd: its gain, and whether `coarsen` takes it
  merge_case : (va vc vb vd : ℕ) (gain : ℤ) (taken : Bool) → Case
  -- `quality` of a sheet: whether each edge has two quads that run opposite ways, the bad links, and tight
  quality_case : (s : Sheet) (closed : Bool) (links : ℕ) (tight : Bool) → Case
  -- `corners_per_point` of a sheet: quotient and remainder
  corners_case : (s : Sheet) (quotient remainder : ℕ) → Case
  -- the same of its finer sheet, which has so many points and quads
  finer_corners_case : (s : Sheet) (points quads quotient remainder : ℕ) → Case
  -- the page of a record with these eight counts: its lines, without their ends
  page_case : (counts : List ℕ) (lines : List String) → Case
  -- a sheet in a band without a lower level: `quality` tells whether it is tight, `corners_per_point` gives these two
  -- numbers, and the five operations that take a sheet and its band are refused; `coarsen` is not without a pass
  bottomless_case : (s : Sheet) (tight : Bool) (quotient remainder : ℕ) → Case
  -- the job of a sheet: how many bytes its file has, and its trailer; the file opens to the job
  job_case : (s : Sheet) (size : ℕ) (trailer : List ℕ) → Case
  -- the same of the file without a sum
  older_job_case : (s : Sheet) (size : ℕ) (trailer : List ℕ) → Case
  -- the file of a sheet with this sum is refused
  other_sum_case : (s : Sheet) (sum : ℕ) → Case
  -- the squared sum of so many points and quads of these corners
  sum_case : (points quads : ℕ) (corners : List ℕ) (sum : ℕ) → Case
  -- a square root
  root_case : (of is : Float) → Case

-- `corners_per_point` of a sheet in a band gives these two numbers
abbrev pub HasCorners : Setting → Sheet → ℕ → ℕ → Type 0
HasCorners b s quotient remainder =
    Gives (corners_rule (domain_in b) (lent_sheet s) (work_for s))
    (λ q. (q.quotient ≡ quotient) × (q.remainder ≡ remainder))

-- what a row says: the answers of the rules
abbrev pub Holds : Case → Type 0
Holds (sheet_case s points edges quads euler sum) =
    (admits unit_box (lent_sheet s) (work_for s) ≡ Accepted) × (length s.points ≡ points) × (edge_count s ≡ edges)
    × (length s.quads ≡ quads) × (pos points -ℤ pos edges +ℤ pos quads ≡ euler) × (squared_of s ≡ sum)
Holds (refine_case s points quads sum) =
    Gives (refine_rule (lent_sheet s) (work_for s) (room_for points quads))
    (λ t. (length t.points ≡ points) × (length t.quads ≡ quads) × (squared_of t ≡ sum))
Holds (rows_case s points quads) =
    Gives (rows_rule unit_box (lent_sheet s) (work_for s) (room_for points quads))
    (λ t. (length t.points ≡ points) × (length t.quads ≡ quads))
Holds (swap_case va vb vc vd gain regularizes improves) =
    let s = swap_patch va vb vc vd in
    (valences s ≡ va ∷ vb ∷ vc ∷ vd ∷ []) × (gain_in s.quads 0 1 2 3 ≡ gain)
    × Gives (regularize_rule unit_box 1 (lent_sheet s) (work_for s)) (λ e. e.count ≡ num regularizes)
    × Gives (improve_rule unit_box 1 (lent_sheet s) (work_for s)) (λ e. e.count ≡ num improves)
Holds (merge_case va vc vb vd gain taken) =
    let s = merge_patch va vc vb vd in
    (valences s ≡ va ∷ vb ∷ vc ∷ vd ∷ []) × (merge_gain (length s.points) s.quads s.labels 0 1 2 3 ≡ gain)
    × Gives (coarsen_rule unit_box 1 (lent_sheet s) (work_for s)) (λ e. e.count ≡ num taken)
Holds (quality_case s closed links tight) =
    (is_closed (length s.points) s.quads ≡ closed)
    × Gives (quality_rule (domain_in unit_box) (lent_sheet s) (work_for s))
    (λ a. (a.quality.bad_vertex_links ≡ links) × (a.is_tight ≡ tight))
Holds (corners_case s quotient remainder) = HasCorners unit_box s quotient remainder
Holds (finer_corners_case s points quads quotient remainder) =
    Gives (refine_rule (lent_sheet s) (work_for s) (room_for points quads))
    (λ t. HasCorners unit_box t quotient remainder)
Holds (page_case counts lines) =
    (q : Quality) → eight_counts q ≡ counts → page_of q ≡ join_of (λ l. bytes_of l ++ (line_end ∷ [])) lines
Holds (bottomless_case s tight quotient remainder) =
    Gives (quality_rule (domain_in bottomless_box) (lent_sheet s) (work_for s)) (λ a. a.is_tight ≡ tight)
    × HasCorners bottomless_box s quotient remainder
    × (regularize_rule bottomless_box 0 (lent_sheet s) (work_for s) ≡ refuses Box)
    × (improve_rule bottomless_box 0 (lent_sheet s) (work_for s) ≡ refuses Box)
    × (subdivide_rule bottomless_box (lent_sheet s) (work_for s) (room_for 0 0) ≡ refuses Box)
    × (rows_rule bottomless_box (lent_sheet s) (work_for s) (room_for 0 0) ≡ refuses Box)
    × (coarsen_rule bottomless_box 1 (lent_sheet s) (work_for s) ≡ refuses Box)
    × Gives (coarsen_rule bottomless_box 0 (lent_sheet s) (work_for s)) (λ e. e.count ≡ 0)
Holds (job_case s size trailer) =
    Gives (save_rule (job_for s) (length s.points) size) (λ j. IsFile (file_of j) (job_for s) size trailer)
Holds (older_job_case s size trailer) = IsFile (file_with None (job_for s)) (job_for s) size trailer
Holds (other_sum_case s n) =
    open_rule (file_with (Some n) (job_for s)) (room_for_job (job_for s)) ≡ refuses refusals.Sum
Holds (sum_case points quads corners n) =
    sum_of (job_of (record { points = points; quads = quads; labels = 0 }) [] [] corners []) ≡ n
Holds (root_case of is) = sqrt_of of ≡ is

-- the same of every row
abbrev pub AllHold : List Case → Type 0
AllHold [] = Unit {0}
AllHold (c ∷ cs) = Holds c × AllHold cs

-- ---- the table

unfoldable pub cases : List Case
cases =
    -- "Unit cube as its own box, 6 quads labelled 2 to 7: 8 − 12 + 6 = 2; squared sum 8."
    sheet_case cube 8 12 6 (pos 2) 8 ∷
    -- "Refined: 26 points, 24 quads, sum 8."
    refine_case cube 26 24 8 ∷
    -- "With rows: 32 points, 30 quads."
    rows_case cube 32 30 ∷
    -- "Swap valences 5,5 to 3,3: gain 4."
    swap_case 5 5 3 3 (pos 4) true true ∷
    -- "5,4 to 3,3: 2."
    swap_case 5 4 3 3 (pos 2) true true ∷
    -- "5,5 to 4,4: 0, only improve_layout."
    swap_case 5 5 4 4 (pos 0) false true ∷
    -- "Merge 3,3 beside 5,5: gain 4."
    merge_case 3 3 5 5 (pos 4) true ∷
    -- "3,3 beside 4,4: 0, taken."
    merge_case 3 3 4 4 (pos 0) true ∷
    -- "4,4 beside 4,4: −6."
    merge_case 4 4 4 4 (negsuc 5) false ∷
    -- "Root of 4 is 2; of 2^−1074 is 2^−537."
    root_case (fin false 1 (pos 2)) (fin false 1 (pos 1)) ∷
    root_case (fin false 1 (negsuc 1073)) (fin false 1 (negsuc 536)) ∷
    -- Document 02, Point 3: "only if the quads around every point form one ring as well". Two quads are a ring.
    quality_case cube true 0 true ∷
    quality_case pillow true 0 true ∷
    quality_case two_pillows true 1 false ∷
    quality_case turned_cube false 0 false ∷
    -- Document 02, Point 8: "The cube gives 3 and 0, the refined cube 3 and 18."
    corners_case cube 3 0 ∷
    finer_corners_case cube 26 24 3 18 ∷
    -- Document 02, Point 2: "name left in 24 columns, count right in 16, filled with spaces, each line ended by byte
    -- 10"; the counts of the cube, and others
    page_case (6 ∷ 8 ∷ 0 ∷ 0 ∷ 0 ∷ 0 ∷ 0 ∷ 0 ∷ [])
    ("quads                                  6"
    ∷ "irregular                              8"
    ∷ "boundary                               0"
    ∷ "nonmanifold                            0"
    ∷ "orientation                            0"
    ∷ "links                                  0"
    ∷ "duplicates                             0"
    ∷ "invalid                                0"
    ∷ []) ∷
    page_case (1048576 ∷ 1000 ∷ 4194304 ∷ 10 ∷ 9 ∷ 1050 ∷ 99 ∷ 100 ∷ [])
    ("quads                            1048576"
    ∷ "irregular                           1000"
    ∷ "boundary                         4194304"
    ∷ "nonmanifold                           10"
    ∷ "orientation                            9"
    ∷ "links                               1050"
    ∷ "duplicates                            99"
    ∷ "invalid                              100"
    ∷ []) ∷
    -- Document 02, Point 1: "starts of points, quads, labels and trailer, then the trailer's length 20, each a u32",
    -- all little-endian
    older_job_case cube 378
    (64 ∷ 0 ∷ 0 ∷ 0 ∷ 0 ∷ 1 ∷ 0 ∷ 0 ∷ 96 ∷ 1 ∷ 0 ∷ 0 ∷ 102 ∷ 1 ∷ 0 ∷ 0 ∷ 20 ∷ 0 ∷ 0 ∷ 0 ∷ []) ∷
    older_job_case nothing 84
    (64 ∷ 0 ∷ 0 ∷ 0 ∷ 64 ∷ 0 ∷ 0 ∷ 0 ∷ 64 ∷ 0 ∷ 0 ∷ 0 ∷ 64 ∷ 0 ∷ 0 ∷ 0 ∷ 20 ∷ 0 ∷ 0 ∷ 0 ∷ []) ∷
    -- Document 02, Point 9: "The trailer takes it as a u64 before its length, and that length becomes 28."
    job_case cube 386
    (64 ∷ 0 ∷ 0 ∷ 0 ∷ 0 ∷ 1 ∷ 0 ∷ 0 ∷ 96 ∷ 1 ∷ 0 ∷ 0 ∷ 102 ∷ 1 ∷ 0 ∷ 0
    ∷ 8 ∷ 0 ∷ 0 ∷ 0 ∷ 0 ∷ 0 ∷ 0 ∷ 0 ∷ 28 ∷ 0 ∷ 0 ∷ 0 ∷ []) ∷
    job_case nothing 92
    (64 ∷ 0 ∷ 0 ∷ 0 ∷ 64 ∷ 0 ∷ 0 ∷ 0 ∷ 64 ∷ 0 ∷ 0 ∷ 0 ∷ 64 ∷ 0 ∷ 0 ∷ 0
    ∷ 0 ∷ 0 ∷ 0 ∷ 0 ∷ 0 ∷ 0 ∷ 0 ∷ 0 ∷ 28 ∷ 0 ∷ 0 ∷ 0 ∷ []) ∷
    -- "17 sum, when the sum written is not the sheet's"
    other_sum_case cube 9 ∷
    -- "Each corner entry counts once for the point it names, one out of range for none": a point that is named eight
    -- times beside one that is not, three points and no corner in range, no points
    sum_case 2 2 (0 ∷ 0 ∷ 0 ∷ 0 ∷ 0 ∷ 0 ∷ 0 ∷ 0 ∷ []) 32 ∷
    sum_case 3 1 (3 ∷ 4 ∷ 3 ∷ 4294967295 ∷ []) 48 ∷
    sum_case 0 1 (0 ∷ 1 ∷ 2 ∷ 3 ∷ []) 0 ∷
    -- Document 02, Point 12: "refuses a lower level that is not finite as box, number 1 .. Only quality, and with it ..
    -- the corners per point, keeps the old rule"
    bottomless_case cube true 3 0 ∷
    []

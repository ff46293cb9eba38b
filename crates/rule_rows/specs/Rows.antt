-- The sheet of `boundary_rows`: a row of quads along the edges between two labels. Document 01, "The finer sheet
-- and the rows", and `boundary_rows` of 000.
use Rattle.std.specs.Prelude.{ℕ, zero, suc, ◌+◌, ◌*◌, ◌/◌, ◌%◌, ◌^◌, min, max, Bool, cond, ◌&&◌, List, [], ◌∷◌, ◌++◌}
use Rattle.std.specs.Prelude.{Some, None, Option}
use Rattle.std.specs.Prelude.{map, eqb, ltb, length, get_or, Float}
use Rattle.std.specs.Float.{binary64}
use Rattle.std.specs.Float.Ieee.{of_bits}
use Rattle.lists.specs.Sort.{tabulate, bucket, keep}
use Rattle.lists.specs.Every.{count_to}
use Rattle.numeric.specs.Num.{half}
use Rattle.points.specs.declared.Point.{Point}
use Rattle.points.specs.Points.{◌⊗◌, add_p, sub_p, mul_p}
use Rattle.setting.specs.Settings.{Setting}
use Rattle.projection.specs.Project.{project_of, is_onto, onto_of}
use Rattle.rule_sheet.specs.Quads.{Quad, quad, all, has_label}
use Rattle.rule_sheet.specs.Edges.{Pair, join_to, join_of, edges_of}
use Rattle.rule_sheet.specs.Sheet.{Sheet, counts_of, sheet_verdict}
use Rattle.rule_sheet.specs.Lent.{Lent, Work, Room, held}
use Rattle.rule_sheet.specs.Outcomes.{Outcome, refuses, gives, after_test, with_room}
use Rattle.rule_admission.specs.Admission.{admits}
use Rattle.smoothing.specs.Smooth.{mean, sum_of}
use Rattle.smoothing.specs.Rounded.{pointwise}
use Rattle.rule_finer.specs.Smoothed.{those, point_quads, paired, label_count, point_of, centre_at}
use Rattle.rule_sheet.specs.declared.Refusal.TheVariants.{Edge, Row}

-- ---- the copies: (v, l), a point and a label, has the key 8 v + l, so that "in ascending order" is the order of
-- the keys

abbrev pub key_of : ℕ → ℕ → ℕ
key_of v l = 8 * v + l

abbrev pub key_point : ℕ → ℕ
key_point k = k / 8

abbrev pub key_label : ℕ → ℕ
key_label k = k % 8

-- "a copy per (point, label) where a mask has two or more bits"
unfoldable pub is_copied : Sheet → ℕ → Bool
is_copied s k = ltb 1 (label_count s (key_point k)) && has_label s.quads s.labels (key_point k) (key_label k)

-- the keys of all copies, "in ascending order"
unfoldable pub copies : Sheet → List ℕ
copies s = those (is_copied s) (8 * length s.points)

-- the number of a copy: the copies stand behind the points, in their order
unfoldable pub number_of : Sheet → ℕ → ℕ
number_of s k = length s.points + count_to (is_copied s) k

-- ---- where a copy lies

-- quad i has the label l
abbrev pub is_labelled : Sheet → ℕ → ℕ → Bool
is_labelled s l i = eqb (get_or s.labels i 0) l

-- the centres of the quads of the label l at v, in quad order
unfoldable pub label_centres : Sheet → ℕ → ℕ → List Point
label_centres s v l = map (centre_at pointwise s (point_of s)) (keep (is_labelled s l) (point_quads s.quads v))

-- from v to the mean of these centres
unfoldable pub inward : Sheet → ℕ → ℕ → Point
inward s v l = let c = label_centres s v l in sub_p (mean pointwise (sum_of pointwise c) (length c)) (point_of s v)

-- 0.7
abbrev pub first_step : Float
first_step = of_bits binary64 0x3fe6_6666_6666_6666

-- "twenty in all"
abbrev pub try_count : ℕ
try_count = 20

-- a projection that succeeds, or another
abbrev pub or_else : Option Point → Option Point → Option Point
or_else (Some p) r = Some p
or_else None r = r

-- n tries are left: the first projection that succeeds of p + d × step, p + d × step / 2, ..
unfoldable pub try_from : ℕ → Setting → Point → Point → ℕ → Float → Option Point
try_from zero s p d mask step = None
try_from (suc n) s p d mask step =
    or_else (project_of s (add_p p (mul_p d step)) mask) (try_from n s p d mask (step ⊗ half))

-- the copy of a key: "trying steps 0.7, 0.35 and so on, twenty in all", onto its label alone
unfoldable pub copy_of : Setting → Sheet → ℕ → Option Point
copy_of w s k =
    let v = key_point k in let l = key_label k in try_from try_count w (point_of s v) (inward s v l) (2 ^ l) first_step

-- ---- the copied quads

-- what stands for corner v of a quad of the label l: the copy, where there is one
abbrev pub corner_for : Sheet → ℕ → ℕ → ℕ
corner_for s l v = cond (is_copied s (key_of v l)) (number_of s (key_of v l)) v

abbrev pub copied_quad : Sheet → ℕ → Quad → Quad
copied_quad s l (quad a b c d) = quad (corner_for s l a) (corner_for s l b) (corner_for s l c) (corner_for s l d)

-- quad i, its corners replaced by their copies
abbrev pub copied_at : Sheet → ℕ → Quad
copied_at s i = copied_quad s (get_or s.labels i 0) (get_or s.quads i (quad 0 0 0 0))

unfoldable pub copied_quads : Sheet → List Quad
copied_quads s = tabulate (copied_at s) (length s.quads)

-- ---- the strips

-- a side of a quad: the points it goes from and to, and the quad's label
pub record Side : Type 0 where
  pub start : ℕ
  pub end : ℕ
  pub label : ℕ

abbrev pub side : ℕ → ℕ → ℕ → Side
side u v l = record { start = u; end = v; label = l }

abbrev pub label_of : Side → ℕ
label_of x = x.label

-- the edge of a side
abbrev pub low_of : Side → ℕ
low_of x = min x.start x.end

abbrev pub high_of : Side → ℕ
high_of x = max x.start x.end

abbrev pub four_sides : ℕ → Quad → List Side
four_sides l (quad a b c d) = side a b l ∷ side b c l ∷ side c d l ∷ side d a l ∷ []

-- all sides, in quad order
unfoldable pub sides_of : Sheet → List Side
sides_of s = join_to (λ i. four_sides (get_or s.labels i 0) (get_or s.quads i (quad 0 0 0 0))) (length s.quads)

-- the sides of an edge, in quad order
unfoldable pub edge_sides : Sheet → Pair → List Side
edge_sides s e = bucket high_of e.high (bucket low_of e.low (sides_of s))

-- both of two sides, if their labels differ; "Boundary_rows counts strips only at edges of two quads."
abbrev pub two_labels : List Side → List Side
two_labels [] = []
two_labels (x ∷ []) = []
two_labels (x ∷ y ∷ []) = cond (eqb x.label y.label) [] (x ∷ y ∷ [])
two_labels (x ∷ y ∷ z ∷ l) = []

-- the sides along which strips run: the edges in ascending order, the sides of each in quad order
unfoldable pub row_sides : Sheet → List Side
row_sides s = join_of (λ e. two_labels (edge_sides s e)) (edges_of (length s.points) s.quads)

-- the quad between a side and its copy
unfoldable pub strip_at : Sheet → Side → Quad
strip_at s x =
    quad x.start x.end (number_of s (key_of x.end x.label)) (number_of s (key_of x.start x.label))

-- ---- the sheet with rows and the rule

-- the points and their copies; "The strip quads stand behind the copied quads in the lent result."
unfoldable pub rows_sheet : Setting → Sheet → Sheet
rows_sheet w s = record {
  points = s.points ++ map (λ k. onto_of (copy_of w s k)) (copies s);
  quads = copied_quads s ++ map (strip_at s) (row_sides s);
  labels = s.labels ++ map label_of (row_sides s);
}

-- "boundary_rows 10, 8, 7": the sheet with rows is tested as the lent one was, as in 000; of these tests only 7 can
-- fail
unfoldable pub rows_made : Setting → Sheet → Outcome Sheet
rows_made w s =
    let t = rows_sheet w s in
    cond (all (λ k. is_onto (copy_of w s k)) (copies s))
    (cond (paired (length s.points) s.quads) (after_test (sheet_verdict t) (gives t)) (refuses Edge))
    (refuses Row)

-- 13 (result), 10, 8, 7
unfoldable pub rowed : Setting → Sheet → Room → Outcome Sheet
rowed w s room = with_room (counts_of (rows_sheet w s)) room (rows_made w s)

-- `boundary_rows` of the sheet in lent slices, into result slices: 12, 13, 1, 5, 6, 7, 13, 10, 8, 7
unfoldable pub rows_rule : Setting → Lent → Work → Room → Outcome Sheet
rows_rule s x w room = after_test (admits s x w) (rowed s (held x) room)

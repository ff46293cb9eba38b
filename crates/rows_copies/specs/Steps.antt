-- Where the copies lie, over flat lists: coordinates P, corners Q, labels and masks M.
use Rattle.std.specs.Prelude.{ℕ, ◌+◌, ◌/◌, ◌^◌, Bool, cond, not, ◌||◌, List, map, eqb, length, get_or, Float, Option}
use Rattle.lists.specs.Sort.{keep}
use Rattle.points.specs.declared.Point.{Point}
use Rattle.points.specs.Points.{add_p, sub_p, point_at}
use Rattle.points.specs.Steps.{with_point}
use Rattle.setting.specs.Settings.{Setting}
use Rattle.sheet.specs.Edges.{point_corners}
use Rattle.smoothing.specs.Smooth.{mean, sum_of}
use Rattle.smoothing.specs.Rounded.{pointwise}
use Rattle.rule_finer.specs.Smoothed.{those}
use Rattle.subdivide_points.specs.Steps.{corner_centre}
use Rattle.rows_copies.specs.declared.Centres.{Centres}
use Rattle.rule_rows.specs.Rows.{key_point, key_label, first_step, try_count, try_from}
use Rattle.projection.specs.Project.{is_onto, onto_of}
use Rattle.rows_gather.specs.Steps.{copied_in, number_in}

-- corner c is one of a quad of the label l
abbrev pub of_label : List ℕ → ℕ → ℕ → Bool
of_label labels l c = eqb (get_or labels (c / 4) 0) l

-- the sum of the centres of the quads of some corners, and their number
unfoldable pub centres_of : List Float → List ℕ → List ℕ → Centres
centres_of P Q l = record { sum = sum_of pointwise (map (corner_centre P Q) l); count = length l }

-- one centre more
unfoldable pub with_centre : Centres → Point → Centres
with_centre c p = record { sum = add_p c.sum p; count = c.count + 1 }

-- from v to the mean of the centres of the quads of the label l at it
unfoldable pub inward_at : ℕ → List Float → List ℕ → List ℕ → ℕ → ℕ → Point
inward_at nq P Q labels v l =
    let c = centres_of P Q (keep (of_label labels l) (point_corners Q nq v)) in
    sub_p (mean pointwise c.sum c.count) (point_at P v)

-- the copy of the key k
unfoldable pub copy_at : Setting → ℕ → List Float → List ℕ → List ℕ → ℕ → Option Point
copy_at s nq P Q labels k =
    try_from try_count s (point_at P (key_point k)) (inward_at nq P Q labels (key_point k) (key_label k))
    (2 ^ key_label k) first_step

-- the key k has no copy, or it is found
unfoldable pub found_at : Setting → ℕ → List Float → List ℕ → List ℕ → List ℕ → ℕ → Bool
found_at s nq P Q labels M k = not (copied_in M k) || is_onto (copy_at s nq P Q labels k)

-- the coordinates out with the copy of the key k at its number, if it has one
unfoldable pub put_copy : Setting → ℕ → ℕ → List Float → List ℕ → List ℕ → List ℕ → ℕ → List Float → List Float
put_copy s np nq P Q labels M k out =
    cond (copied_in M k) (with_point out (number_in np M k) (onto_of (copy_at s nq P Q labels k))) out

-- the copies of the keys below n
unfoldable pub copies_to : Setting → ℕ → List Float → List ℕ → List ℕ → List ℕ → ℕ → List Point
copies_to s nq P Q labels M n = map (λ k. onto_of (copy_at s nq P Q labels k)) (those (copied_in M) n)

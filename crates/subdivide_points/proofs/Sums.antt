-- Parts of the work slice, and sums over a list, one element more at a time. Assumes nothing.
use Prim.Native.Nat.{ℕ, ◌+◌, ◌-◌, ◌*◌, ◌/◌, ◌%◌, ◌≤◌, ◌<◌}
use mathlib.Core.Path.{◌≡◌, sym, ap, ◌∙◌}
use mathlib.Core.List.{List, [], ◌∷◌, ◌++◌, map, map-append}
use native.Mathlib.Omega.{arith}
use native.Mathlib.Numerals.{add-one}
use lib.ListN.{length, get_or, take, drop, length-drop}
use lib.Ieee.{Float}
use lib.Seq.{take-suc, take-length, get_or-drop}
use Rattle.lists.specs.Regions.{part}
use Rattle.points.specs.declared.Point.{Point}
use Rattle.smoothing.specs.Smooth.{sum_of}
use Rattle.smoothing.specs.Rounded.{pointwise}
use Rattle.incidence.specs.Corners.{Positioned}
use Rattle.smoothing.proofs.ByPoints.{origin-by}
use Rattle.smoothing.proofs.Coordinates.{sum-snoc, halfway-by}
use Rattle.points.specs.Points.{add_p, halfway_p, origin, point_at}
use Rattle.subdivide_points.specs.Steps.{Below, other_end, halfway_to}

-- a part with one element more
pub part-suc : {A : Type 0} (d : A) (from j : ℕ) (w : List A) → from + j < length w → part from (j + 1) w ≡ part from j w ++ (get_or w (from + j) d ∷ [])
part-suc d from j w h =
    let l : length (drop from w) ≡ length w - from = length-drop from w in
    rw (add-one j, take-suc (drop from w) j d (omega arith), get_or-drop from w j d)

-- an element of the part is below the bound
pub below_at : {bound from n : ℕ} {w : List ℕ} (j x : ℕ) → Below bound from n w → j < n → x ≡ get_or w (from + j) 0 → x < bound
below_at j x B h e = rw e (B.below j h)

-- a sum of g over the first j numbers of l, and over one more
pub sum-start : (s : Point) → s ≡ origin → s ≡ sum_of pointwise []
unfolding sum_of
sum-start s e = e ∙ sym origin-by

pub sum-turn : (g : ℕ → Point) (l : List ℕ) (j : ℕ) (s p r : Point) → s ≡ sum_of pointwise (map g (take j l)) → j < length l → p ≡ g (get_or l j 0) → r ≡ add_p s p
    → r ≡ sum_of pointwise (map g (take (j + 1) l))
sum-turn g l j s p r e h ep er =
    rw (er, ep, add-one j, take-suc l j 0 h, map-append g (take j l), sum-snoc pointwise (map g (take j l))) (ap (λ (q : Point). add_p q (g (get_or l j 0))) e)

pub sum-end : (g : ℕ → Point) (l : List ℕ) (j : ℕ) (s : Point) → s ≡ sum_of pointwise (map g (take j l)) → j ≡ length l → s ≡ sum_of pointwise (map g l)
sum-end g l j s e h = e ∙ ap (λ (k : List ℕ). sum_of pointwise (map g k)) (rw h (take-length l))

-- the other end of an edge is a point
pub other-low : {np nq : ℕ} {P : List Float} {H : List ℕ} (i u : ℕ) → Positioned np nq P H → i < 4 * nq → u ≡ other_end H i → u * 3 + 3 ≤ length P
unfolding other_end
other-low i u A h e = omega (arith, A.points, A.cornered.points (i / 2 * 2 + (i + 1) % 2) (omega arith))

pub halfway-is : (p q r : Point) (P : List Float) (H : List ℕ) (i u : ℕ) → u ≡ other_end H i → q ≡ point_at P u → r ≡ halfway_p p q → r ≡ halfway_to p P H i
unfolding halfway_to
halfway-is p q r P H i u eu eq er = er ∙ rw (eq, eu, halfway-by)

-- The numbers of the points of a cell: behind those of the cells before it, and before those of the cells behind it. Assumes nothing.
use Prim.Native.Nat.{ℕ, ◌+◌, ◌*◌, ◌≤◌, ◌<◌}
use mathlib.Core.Path.{◌≡◌, refl, sym, ap, ◌∙◌}
use mathlib.Core.Bool.{true, cond}
use mathlib.Core.Logic.{⊎_elim}
use native.Mathlib.Omega.{arith}
use lib.ListN.{length, get_or}
use borrow.Author.Tests.{eq-eqb}
use Rattle.lists.proofs.Laws.{lt-or-le, eq-or-ne}
use Rattle.lists.proofs.Every.{some_at}
use Rattle.rule_sheet.specs.Edges.{join_to}
use Rattle.rule_extract.specs.declared.Grid.{Grid}
use Rattle.rule_extract.specs.declared.Site.{Site}
use Rattle.rule_extract.specs.Cells.{bit_of}
use Rattle.extract_cells.proofs.Faces.{twelve-groups}
use Rattle.extract_grid.specs.Lattice.{Within}
use Rattle.rule_extract.specs.Lattice.{site_at, index_of, case_of, centre_inside, cell_groups}
use Rattle.extract_grid.proofs.Places.{site-index, index-site}
use Rattle.rule_extract.specs.Paths.{edge_crosses}
use Rattle.rule_extract.specs.Drawing.{is_member, group_points, cell_points, points_in, points_to, number_of}
use Rattle.extract_points.proofs.Counts.{group-length}
use Rattle.extract_grid.proofs.Joins.{join-below}

-- the group of an edge that crosses has a point, since the edge is a member of its own group
group-point : (g : Grid) (c : Site) (e : ℕ) → e < 12 → edge_crosses g c e ≡ true → length (group_points g c (get_or (cell_groups g c) e 0)) ≡ 1
unfolding is_member
group-point g c e h x =
    let k = get_or (cell_groups g c) e 0 in
    group-length g c k ∙ ap (λ b. cond b 1 0) (some_at (is_member g c k) 12 e h (rw (x, eq-eqb k k refl) refl))

group-below : (g : Grid) (c : Site) (e : ℕ) → e < 12 → get_or (cell_groups g c) e 0 < 12
unfolding cell_groups
group-below g c e h = (twelve-groups (bit_of (case_of g c)) (centre_inside g c)).below e h

-- so its number within the cell is below the count of the cell's points
in_cell : (g : Grid) (c : Site) (e : ℕ) → e < 12 → edge_crosses g c e ≡ true → length (join_to (group_points g c) (get_or (cell_groups g c) e 0)) < length (cell_points g c)
unfolding cell_points
in_cell g c e h x =
    let b = join-below (group_points g c) (get_or (cell_groups g c) e 0) 12 (group-below g c e h) in
    let o = group-point g c e h x in
    omega arith

pub number-from : (g : Grid) (n i e : ℕ) → length (points_to g n i) ≤ number_of g n (site_at n i) e
unfolding number_of
number-from g n i e = rw (index-site n i) (omega arith)

pub number-to : (g : Grid) (n i e : ℕ) → e < 12 → edge_crosses g (site_at n i) e ≡ true → number_of g n (site_at n i) e < length (points_to g n i) + length (points_in g n i)
unfolding number_of
number-to g n i e h x = rw (index-site n i) (let b = in_cell g (site_at n i) e h x in omega arith)

-- every number is that of a point
pub number-below : (g : Grid) (n i e : ℕ) → i < n * n * n → e < 12 → edge_crosses g (site_at n i) e ≡ true → number_of g n (site_at n i) e < length (points_to g n (n * n * n))
unfolding points_to
number-below g n i e l h x =
    let b = number-to g n i e h x in
    let j = join-below (points_in g n) i (n * n * n) l in
    omega arith

-- the points of a cell have smaller numbers than those of a later one
numbers-ascend : (g : Grid) (n i j e f : ℕ) → i < j → e < 12 → edge_crosses g (site_at n i) e ≡ true → number_of g n (site_at n i) e < number_of g n (site_at n j) f
unfolding points_to
numbers-ascend g n i j e f l h x =
    let a = number-to g n i e h x in
    let b = join-below (points_in g n) i j l in
    let d = number-from g n j f in
    omega arith

-- ---- the same by the places of the cells

module _ (g : Grid) (n : ℕ) (c : Site) (e : ℕ) (W : Within n c) (h : e < 12) (x : edge_crosses g c e ≡ true) where
  before : (d : Site) (f : ℕ) → Within n d → index_of n c < index_of n d → number_of g n c e < number_of g n d f
  before d f U l = rw (site-index n c W, site-index n d U) at (numbers-ascend g n (index_of n c) (index_of n d) e f l h (rw (site-index n c W) x))

-- the points of two cells have different numbers
pub numbers_apart : (g : Grid) (n : ℕ) (c d : Site) (e f : ℕ) → Within n c → Within n d → e < 12 → f < 12 → edge_crosses g c e ≡ true → edge_crosses g d f ≡ true → (c ≡ d → ⊥)
    → number_of g n c e ≡ number_of g n d f → ⊥
numbers_apart g n c d e f W U h k x y ne q = ⊎_elim
    (λ (l : index_of n c < index_of n d). let b = before g n c e W h x d f U l in omega arith)
    (λ (l : index_of n d ≤ index_of n c). ⊎_elim
    (λ (z : index_of n c ≡ index_of n d). ne (sym (site-index n c W) ∙ (ap (site_at n) z ∙ site-index n d U)))
    (λ (z : index_of n c ≡ index_of n d → ⊥). let b = before g n d f U k y c e W (omega arith) in omega arith)
    (eq-or-ne (index_of n c) (index_of n d)))
    (lt-or-le (index_of n c) (index_of n d))

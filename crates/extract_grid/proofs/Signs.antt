-- The signs of a cell, read from a list of samples, are those of the grid. Assumes nothing.
use Prim.Native.Nat.{ℕ, ◌+◌, ◌*◌, ◌/◌, ◌%◌, ◌≤◌, ◌<◌}
use mathlib.Core.Path.{◌≡◌, ap, ◌∙◌}
use mathlib.Core.Bool.{Bool, true, ◌&&◌}
use mathlib.Core.List.{List}
use native.Mathlib.Omega.{arith}
use native.Mathlib.Nat.{mul-le-mul_right}
use lib.ListN.{length}
use lib.Ieee.{Float, lt}
use Rattle.numeric.specs.Num.{zero_f}
use Rattle.rule_sheet.specs.Quads.{pack_to}
use Rattle.sheet.proofs.Masks.{pack-ext}
use Rattle.rule_extract.specs.declared.Grid.{Grid}
use Rattle.rule_extract.specs.declared.Site.{Site}
use Rattle.rule_extract.specs.Cells.{bit_of, groups_of}
use Rattle.extract_cells.specs.Cells.{kind_of}
use Rattle.extract_cells.proofs.Bits.{bit-packed, kind-face}
use Rattle.extract_cells.proofs.Faces.{groups-centres}
use Rattle.extract_grid.specs.Lattice.{Within, Samples, CellIn, is_negative, pair_of, four_of, eight_of, centre_bit}
use Rattle.rule_extract.specs.Lattice.{index_of, value_at, inside_at, corner_site, corner_inside, case_of, centre_inside, cell_groups}
use Rattle.extract_grid.proofs.Places.{site-index, index-lt}

-- ---- the eight corners in the list

module _ (m : ℕ) (c : Site) where
  abbrev from : ℕ
  from = index_of m c

  abbrev at : ℕ → ℕ
  at v = index_of m (corner_site c v)

  at-0 : at 0 ≡ from
  unfolding index_of corner_site
  at-0 = omega arith

  at_1 : at 1 ≡ from + m * m
  unfolding index_of corner_site
  at_1 = omega arith

  at-2 : at 2 ≡ from + m
  unfolding index_of corner_site
  at-2 = omega arith

  at-3 : at 3 ≡ from + m + m * m
  unfolding index_of corner_site
  at-3 = omega arith

  at-4 : at 4 ≡ from + 1
  unfolding index_of corner_site
  at-4 = omega arith

  at_5 : at 5 ≡ from + 1 + m * m
  unfolding index_of corner_site
  at_5 = omega arith

  at-6 : at 6 ≡ from + 1 + m
  unfolding index_of corner_site
  at-6 = omega arith

  pub at_7 : index_of m (corner_site c 7) ≡ index_of m c + 1 + m + m * m
  unfolding index_of corner_site
  at_7 = omega arith

  -- the case of a cell by its eight samples
  pub eight_is : (F : List Float) → eight_of F (m * m) m (index_of m c) ≡ pack_to (λ v. is_negative F (index_of m (corner_site c v))) 8
  unfolding eight_of four_of pair_of pack_to
  eight_is F = rw (at-0, at_1, at-2, at-3, at-4, at_5, at-6, at_7) (omega arith)

-- ---- the list has the samples of the grid

bit-step : (a v n : ℕ) → a < n → a + v % 2 < n + 1
bit-step a v n h = omega arith

-- the corners of a cell are places of the grid
pub corner-within : (n : ℕ) (c : Site) (v : ℕ) → Within n c → Within (n + 1) (corner_site c v)
unfolding corner_site
corner-within n c v W = record { x< = bit-step c.x v n W.x<; y< = bit-step c.y (v / 2) n W.y<; z< = bit-step c.z (v / 4) n W.z< }

pub within_more : (n : ℕ) (c : Site) → Within n c → Within (n + 1) c
within_more n c W = let a = W.x< in let b = W.y< in let d = W.z< in record { x< = omega arith; y< = omega arith; z< = omega arith }

-- a sample that is read is that of its place
pub sign-is : {g : Grid} {m : ℕ} {F : List Float} (c : Site) → Samples g m F → Within m c → is_negative F (index_of m c) ≡ inside_at g c
unfolding inside_at
sign-is {g} {m} c S W =
    ap (λ x. lt x zero_f) (S.is (index_of m c) (index-lt m c W) ∙ ap (value_at g) (site-index m c W))

pub cell_in : {g : Grid} {F : List Float} {n : ℕ} (c : Site) → Samples g (n + 1) F → Within n c → CellIn (n + 1) c (length F)
cell_in {n = n} c S W = record { m≤ = S.m≤; fits = S.fits; within = within_more n c W; last = corner-within n c 7 W }

-- the case of a cell, read from the samples
pub case-is : {g : Grid} {F : List Float} {n : ℕ} (c : Site) → Samples g (n + 1) F → Within n c → eight_of F ((n + 1) * (n + 1)) (n + 1) (index_of (n + 1) c) ≡ case_of g c
unfolding case_of
case-is {g} {F} {n} c S W =
    eight_is (n + 1) c F ∙ pack-ext (corner_inside g c) (λ v. is_negative F (index_of (n + 1) (corner_site c v))) 8 (λ v h. sign-is (corner_site c v) S (corner-within n c v W))

-- ---- the centres

and-true : (a b : Bool) → a ≡ true → (a && b) ≡ b
and-true a b e = rw e

-- the groups by the centres that count
pub centres-do : (g : Grid) (c : Site) (k : ℕ) → k ≡ kind_of (bit_of (case_of g c)) → groups_of (bit_of (case_of g c)) (bit_of (pack_to (centre_bit g c k) 6)) ≡ cell_groups g c
unfolding cell_groups groups_of
centres-do g c k q =
    groups-centres (bit_of (case_of g c)) (bit_of (pack_to (centre_bit g c k) 6)) (centre_inside g c) 6
    (λ f h e. bit-packed (centre_bit g c k) 6 f h ∙ and-true (bit_of k (12 + f)) (centre_inside g c f) (kind-face (bit_of (case_of g c)) k f q h ∙ e))

-- the last corner of a cell is in the list
pub cell_room : {m l : ℕ} (c : Site) → CellIn m c l → index_of m c + 1 + m + m * m < l
cell_room {m} c C = let e = at_7 m c in let h = index-lt m (corner_site c 7) C.last in let f = C.fits in omega arith

pub square-room : {m l : ℕ} (c : Site) → CellIn m c l → m * m ≤ 17161
square-room {m} c C = let h = C.m≤ in let p : m * m ≤ 131 * m = mul-le-mul_right m h in omega arith

pub groups-are : (g : Grid) (c : Site) (n k s : ℕ) {G : List ℕ} → n ≡ case_of g c → k ≡ kind_of (bit_of n) → s ≡ pack_to (centre_bit g c k) 6 → G ≡ groups_of (bit_of n) (bit_of s)
    → G ≡ cell_groups g c
groups-are g c n k s e q f h = h ∙ rw (f, e) (centres-do g c k (q ∙ ap (λ m. kind_of (bit_of m)) e))

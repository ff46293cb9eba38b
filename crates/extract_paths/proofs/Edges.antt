-- An edge of the grid is the same in each of its cells: whether it crosses is asked of the same two samples. Assumes nothing.
use Prim.Native.Nat.{ℕ, zero, suc, ◌+◌, ◌-◌, ◌/◌, ◌%◌, ◌<◌}
use mathlib.Core.Path.{◌≡◌, refl}
use mathlib.Core.Bool.{cond}
use native.Mathlib.Omega.{arith}
use lib.Dec.{eqb}
use Rattle.rule_extract.specs.declared.Grid.{Grid}
use Rattle.rule_extract.specs.declared.Site.{Site}
use Rattle.rule_extract.specs.Crossings.{next_site}
use Rattle.rule_extract.specs.Cells.{bit_of, crosses, low_end, high_end}
use Rattle.extract_cells.proofs.Bits.{bit-packed}
use Rattle.extract_cells.proofs.Tables.{low-at, high-at}
use Rattle.extract_grid.specs.Lattice.{Within}
use Rattle.rule_extract.specs.Lattice.{index_of, inside_at, corner_site, corner_inside, case_of, edge_site}
use Rattle.rule_extract.specs.Paths.{crossed_at, edge_crosses}
use Rattle.extract_paths.specs.Paths.{along_of, stride_of}

-- what holds of each number below twelve
pub below12 : (P : ℕ → Type 0) → P 0 → P 1 → P 2 → P 3 → P 4 → P 5 → P 6 → P 7 → P 8 → P 9 → P 10 → P 11 → (e : ℕ) → e < 12 → P e
below12 P a b c d e f g h i j k l zero q = a
below12 P a b c d e f g h i j k l (suc zero) q = b
below12 P a b c d e f g h i j k l (suc (suc zero)) q = c
below12 P a b c d e f g h i j k l (suc (suc (suc zero))) q = d
below12 P a b c d e f g h i j k l (suc (suc (suc (suc zero)))) q = e
below12 P a b c d e f g h i j k l (suc (suc (suc (suc (suc zero))))) q = f
below12 P a b c d e f g h i j k l (suc (suc (suc (suc (suc (suc zero)))))) q = g
below12 P a b c d e f g h i j k l (suc (suc (suc (suc (suc (suc (suc zero))))))) q = h
below12 P a b c d e f g h i j k l (suc (suc (suc (suc (suc (suc (suc (suc zero)))))))) q = i
below12 P a b c d e f g h i j k l (suc (suc (suc (suc (suc (suc (suc (suc (suc zero))))))))) q = j
below12 P a b c d e f g h i j k l (suc (suc (suc (suc (suc (suc (suc (suc (suc (suc zero)))))))))) q = k
below12 P a b c d e f g h i j k l (suc (suc (suc (suc (suc (suc (suc (suc (suc (suc (suc zero))))))))))) q = l
below12 P a b c d e f g h i j k l (suc (suc (suc (suc (suc (suc (suc (suc (suc (suc (suc (suc m)))))))))))) q = absurd (omega arith)

pub site : ℕ → ℕ → ℕ → Site
site a b d = record { x = a; y = b; z = d }

site-is : (a b d u v w : ℕ) → a ≡ u → b ≡ v → d ≡ w → site a b d ≡ site u v w
site-is a b d u v w e f g = rw (e, f, g) refl

-- an edge ends at the next place along its axis
pub high-next : (c : Site) (e : ℕ) → e < 12 → corner_site c (high_end e) ≡ next_site (edge_site c e) (e / 4)
unfolding edge_site corner_site next_site low_end high_end site
high-next c = below12 (λ e. corner_site c (high_end e) ≡ next_site (edge_site c e) (e / 4))
    (site-is _ _ _ _ _ _ (omega arith) (omega arith) (omega arith))
    (site-is _ _ _ _ _ _ (omega arith) (omega arith) (omega arith))
    (site-is _ _ _ _ _ _ (omega arith) (omega arith) (omega arith))
    (site-is _ _ _ _ _ _ (omega arith) (omega arith) (omega arith))
    (site-is _ _ _ _ _ _ (omega arith) (omega arith) (omega arith))
    (site-is _ _ _ _ _ _ (omega arith) (omega arith) (omega arith))
    (site-is _ _ _ _ _ _ (omega arith) (omega arith) (omega arith))
    (site-is _ _ _ _ _ _ (omega arith) (omega arith) (omega arith))
    (site-is _ _ _ _ _ _ (omega arith) (omega arith) (omega arith))
    (site-is _ _ _ _ _ _ (omega arith) (omega arith) (omega arith))
    (site-is _ _ _ _ _ _ (omega arith) (omega arith) (omega arith))
    (site-is _ _ _ _ _ _ (omega arith) (omega arith) (omega arith))

-- the sign at a corner
pub bit-case : (g : Grid) (c : Site) (v : ℕ) → v < 8 → bit_of (case_of g c) v ≡ inside_at g (corner_site c v)
unfolding case_of
bit-case g c v h = bit-packed (corner_inside g c) 8 v h

pub low-lt : (e : ℕ) → e < 12 → low_end e < 8
low-lt e h = let r = low-at e h in rw r.0 at r.1

high_lt : (e : ℕ) → e < 12 → high_end e < 8
high_lt e h = let r = high-at e h in rw r.0 at r.1

-- an edge of a cell crosses where the samples at its two ends say so
pub crosses-is : (g : Grid) (c : Site) (e : ℕ) → e < 12 → edge_crosses g c e ≡ crossed_at g (edge_site c e) (e / 4)
unfolding crosses crossed_at edge_site
crosses-is g c e h = rw (bit-case g c (low_end e) (low-lt e h), bit-case g c (high_end e) (high_lt e h), high-next c e h)

-- ---- the cell before

-- the next cell along the first of the two other axes has an edge at its near side where this one has it at its far side
pub same-edge-b : (d : Site) (j : ℕ) → j < 12 → j / 2 % 2 ≡ 0 → edge_site d (j + 2) ≡ edge_site (next_site d ((j / 4 + 1) % 3)) j
unfolding edge_site corner_site next_site low_end site
same-edge-b d = below12 (λ j. j / 2 % 2 ≡ 0 → edge_site d (j + 2) ≡ edge_site (next_site d ((j / 4 + 1) % 3)) j)
    (λ h. site-is _ _ _ _ _ _ (omega arith) (omega arith) (omega arith))
    (λ h. site-is _ _ _ _ _ _ (omega arith) (omega arith) (omega arith))
    (λ h. absurd (omega (arith, h)))
    (λ h. absurd (omega (arith, h)))
    (λ h. site-is _ _ _ _ _ _ (omega arith) (omega arith) (omega arith))
    (λ h. site-is _ _ _ _ _ _ (omega arith) (omega arith) (omega arith))
    (λ h. absurd (omega (arith, h)))
    (λ h. absurd (omega (arith, h)))
    (λ h. site-is _ _ _ _ _ _ (omega arith) (omega arith) (omega arith))
    (λ h. site-is _ _ _ _ _ _ (omega arith) (omega arith) (omega arith))
    (λ h. absurd (omega (arith, h)))
    (λ h. absurd (omega (arith, h)))

-- the same along the second
pub same-edge-d : (d : Site) (j : ℕ) → j < 12 → j % 2 ≡ 0 → edge_site d (j + 1) ≡ edge_site (next_site d ((j / 4 + 2) % 3)) j
unfolding edge_site corner_site next_site low_end site
same-edge-d d = below12 (λ j. j % 2 ≡ 0 → edge_site d (j + 1) ≡ edge_site (next_site d ((j / 4 + 2) % 3)) j)
    (λ h. site-is _ _ _ _ _ _ (omega arith) (omega arith) (omega arith))
    (λ h. absurd (omega (arith, h)))
    (λ h. site-is _ _ _ _ _ _ (omega arith) (omega arith) (omega arith))
    (λ h. absurd (omega (arith, h)))
    (λ h. site-is _ _ _ _ _ _ (omega arith) (omega arith) (omega arith))
    (λ h. absurd (omega (arith, h)))
    (λ h. site-is _ _ _ _ _ _ (omega arith) (omega arith) (omega arith))
    (λ h. absurd (omega (arith, h)))
    (λ h. site-is _ _ _ _ _ _ (omega arith) (omega arith) (omega arith))
    (λ h. absurd (omega (arith, h)))
    (λ h. site-is _ _ _ _ _ _ (omega arith) (omega arith) (omega arith))
    (λ h. absurd (omega (arith, h)))

-- the place before along an axis
pub prev_site : Site → ℕ → Site
prev_site c axis = cond (eqb axis 0) (site (c.x - 1) c.y c.z) (cond (eqb axis 1) (site c.x (c.y - 1) c.z) (site c.x c.y (c.z - 1)))

-- what holds of each axis
pub below3 : (P : ℕ → Type 0) → P 0 → P 1 → P 2 → (a : ℕ) → a < 3 → P a
below3 P p q r zero h = p
below3 P p q r (suc zero) h = q
below3 P p q r (suc (suc zero)) h = r
below3 P p q r (suc (suc (suc a))) h = absurd (omega arith)

pub next-prev : (c : Site) (a : ℕ) → a < 3 → 0 < along_of c a → next_site (prev_site c a) a ≡ c
unfolding next_site prev_site along_of site
next-prev c = below3 (λ a. 0 < along_of c a → next_site (prev_site c a) a ≡ c)
    (λ h. site-is _ _ _ _ _ _ (omega (arith, h)) refl refl)
    (λ h. site-is _ _ _ _ _ _ refl (omega (arith, h)) refl)
    (λ h. site-is _ _ _ _ _ _ refl refl (omega (arith, h)))

pub prev-within : (n : ℕ) (c : Site) (a : ℕ) → a < 3 → Within n c → Within n (prev_site c a)
unfolding prev_site site
prev-within n c a h W = below3 (λ a. Within n (prev_site c a))
    (record { x< = omega (arith, W.x<); y< = W.y<; z< = W.z< })
    (record { x< = W.x<; y< = omega (arith, W.y<); z< = W.z< })
    (record { x< = W.x<; y< = W.y<; z< = omega (arith, W.z<) })
    a h

-- the number of the next cell
pub next-index : (n : ℕ) (d : Site) (a : ℕ) → a < 3 → index_of n (next_site d a) ≡ index_of n d + stride_of n a
unfolding index_of next_site stride_of
next-index n d = below3 (λ a. index_of n (next_site d a) ≡ index_of n d + stride_of n a) (omega arith) (omega arith) (omega arith)

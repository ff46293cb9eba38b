-- Places and their numbers: each undoes the other, and the numbers are those below the cube of the side. Assumes nothing.
use Prim.Native.Nat.{ℕ, zero, suc, ◌+◌, ◌*◌, ◌/◌, ◌%◌, ◌≤◌, ◌<◌}
use mathlib.Core.Path.{◌≡◌, refl, ap, ◌∙◌}
use native.Mathlib.Omega.{arith}
use native.Mathlib.Nat.{mul-le-mul_right, div-eq_of_lt-le, div-add-mod', mod-lt, div-lt_iff_lt-mul}
use Rattle.rule_extract.specs.declared.Site.{Site}
use Rattle.extract_crossings.specs.Crossings.{Near}
use Rattle.extract_grid.specs.Lattice.{Within}
use Rattle.rule_extract.specs.Lattice.{site_at, index_of}

-- a number of rows and a place in the last one
row : (q n r : ℕ) → r < n → (q * n + r) / n ≡ q
row q n r h = div-eq_of_lt-le n (omega arith) (omega arith)

rest : (q n r : ℕ) → r < n → (q * n + r) % n ≡ r
rest q n r h = let e : q * n + (q * n + r) % n ≡ q * n + r = rw (row q n r h) at (div-add-mod' (q * n + r) n) in omega arith

-- the place with the number of a place is that place
pub site-index : (n : ℕ) (c : Site) → Within n c → site_at n (index_of n c) ≡ c
unfolding site_at index_of
site-index n c W = rw (row (c.x * n + c.y) n c.z W.z<, row c.x n c.y W.y<, rest c.x n c.y W.y<, rest (c.x * n + c.y) n c.z W.z<) refl

rows : (q n r m : ℕ) → q < m → r < n → q * n + r < m * n
rows q n r m h l = let e : suc q * n ≤ m * n = mul-le-mul_right n h in omega arith

-- the number of a place
pub index-lt : (n : ℕ) (c : Site) → Within n c → index_of n c < n * n * n
unfolding index_of
index-lt n c W = rows (c.x * n + c.y) n c.z (n * n) (rows c.x n c.y n W.x< W.y<) W.z<

pub some-side : (n t : ℕ) → t < n * n * n → 0 < n
some-side zero t h = absurd (omega arith)
some-side (suc n) t h = omega arith

-- the place of a number
pub within-at : (n t : ℕ) → t < n * n * n → Within n (site_at n t)
unfolding site_at
within-at n t h =
    let p = some-side n t h in
    record { x< = (div-lt_iff_lt-mul p).1 ((div-lt_iff_lt-mul p).1 h); y< = mod-lt (t / n) p; z< = mod-lt t p }

-- the number of the place with a number is that number
pub index-site : (n t : ℕ) → index_of n (site_at n t) ≡ t
unfolding site_at index_of
index-site n t = ap (λ (q : ℕ). q * n + t % n) (div-add-mod' (t / n) n) ∙ div-add-mod' t n

-- a place of a grid of few places a side has places next to it
pub near_of : {n : ℕ} {c : Site} → n ≤ 131 → Within n c → Near c
near_of h W = let a = W.x< in let b = W.y< in let d = W.z< in record { x< = omega arith; y< = omega arith; z< = omega arith }

-- the products on the way to the number of a place
pub index-room : (n : ℕ) (c : Site) → n ≤ 131 → Within n c → (c.x * n ≤ 17161) × ((c.x * n + c.y) * n ≤ 2265252)
index-room n c h W =
    let a = W.x< in
    let b = W.y< in
    let p : c.x * n ≤ 131 * n = mul-le-mul_right n (omega arith) in
    let q : (c.x * n + c.y) * n ≤ 17292 * n = mul-le-mul_right n (omega arith) in
    (omega arith, omega arith)

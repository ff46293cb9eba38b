-- The inner edges row by row: their places, their samples and their numbers. Assumes nothing.
use Prim.Native.Nat.{ℕ, zero, suc, ◌+◌, ◌-◌, ◌*◌, ◌/◌, ◌%◌, ◌≤◌, ◌<◌}
use mathlib.Core.Path.{◌≡◌, refl, sym, ap, ◌∙◌}
use mathlib.Core.List.{List}
use native.Mathlib.Omega.{arith}
use native.Mathlib.Nat.{mul_comm, mod-lt, div-lt_iff_lt-mul, div-eq_of_lt-le, div-add-mod', div-div-eq-div-mul}
use lib.ListN.{length}
use lib.Ieee.{Float}
use Rattle.rule_extract.specs.declared.Grid.{Grid}
use Rattle.rule_extract.specs.declared.Site.{Site}
use Rattle.rule_extract.specs.Crossings.{next_site}
use Rattle.extract_grid.specs.Lattice.{Within, Samples, is_negative}
use Rattle.rule_extract.specs.Lattice.{index_of, inside_at}
use Rattle.extract_grid.proofs.Places.{index-lt, index-room}
use Rattle.extract_grid.proofs.Signs.{sign-is}
use Rattle.extract_paths.specs.Paths.{stride_of}
use Rattle.extract_paths.proofs.Edges.{next-index, below3}
use Rattle.rule_extract.specs.Drawing.{place_on, Inner, inner_at, inner_site}
use Rattle.extract_edges.specs.declared.Row.{Row}
use Rattle.extract_edges.specs.Rows.{edge_in, RowIn, row_count, edge_number, RowAt}

-- ---- places

pub place-within : (m axis a b d : ℕ) → axis < 3 → a < m → b < m → d < m → Within m (place_on axis a b d)
unfolding place_on
place-within m axis a b d h p q r = below3 (λ k. Within m (place_on k a b d)) (record { x< = p; y< = q; z< = r }) (record { x< = r; y< = p; z< = q }) (record { x< = q; y< = r; z< = p }) axis h

-- the next place along the axis itself
pub next-own : (axis a b d : ℕ) → axis < 3 → next_site (place_on axis a b d) axis ≡ place_on axis (a + 1) b d
unfolding next_site place_on
next-own axis a b d = below3 (λ k. next_site (place_on k a b d) k ≡ place_on k (a + 1) b d) refl refl refl axis

-- ---- samples

-- the numbers of the places along the last axis
steps : (m axis a b j : ℕ) → axis < 3 → index_of m (place_on axis a b 1) + j * stride_of m ((axis + 2) % 3) ≡ index_of m (place_on axis a b (j + 1))
unfolding index_of place_on stride_of
steps m axis a b j = below3 (λ k. index_of m (place_on k a b 1) + j * stride_of m ((k + 2) % 3) ≡ index_of m (place_on k a b (j + 1))) (omega arith) (omega arith) (omega arith) axis

index-small : (m : ℕ) (c : Site) → m ≤ 131 → Within m c → index_of m c < 2500000
unfolding index_of
index-small m c h W = let r = index-room m c h W in let z = W.z< in omega arith

module _ {n : ℕ} {row : Row} (R : RowIn n row) (j : ℕ) (h : j < n - 1) where
  abbrev begin : Site
  begin = inner_site (edge_in row j)

  begin-within : Within (n + 1) begin
  unfolding inner_site
  begin-within = place-within (n + 1) row.axis row.a row.b (j + 1) R.axis< (omega (arith, R.a<)) (omega (arith, R.b<)) (omega arith)

  end-within : Within (n + 1) (next_site begin row.axis)
  unfolding inner_site
  end-within = rw (next-own row.axis row.a row.b (j + 1) R.axis<) (place-within (n + 1) row.axis (row.a + 1) row.b (j + 1) R.axis< (omega (arith, R.a<)) (omega (arith, R.b<)) (omega arith))

  -- the numbers of the samples at the two ends of an edge
  begin-is : row.from + j * row.step ≡ index_of (n + 1) begin
  unfolding inner_site
  begin-is = rw (R.from_is, R.step_is) (steps (n + 1) row.axis row.a row.b j R.axis<)

  end_is : row.from + j * row.step + row.next ≡ index_of (n + 1) (next_site begin row.axis)
  end_is = rw (begin-is, R.next_is) (sym (next-index (n + 1) begin row.axis R.axis<))

  -- the numbers on the way
  pub record SampleRoom (l : ℕ) : Type 0 where
    pub begin< : row.from + j * row.step < l
    pub end< : row.from + j * row.step + row.next < l
    pub small : row.from + j * row.step + row.next < 2500000

  pub sample-room : {g : Grid} {F : List Float} → Samples g (n + 1) F → SampleRoom (length F)
  sample-room S = record {
    begin< = let f = S.fits in rw begin-is (let l = index-lt (n + 1) begin begin-within in omega arith);
    end< = let f = S.fits in rw end_is (let l = index-lt (n + 1) (next_site begin row.axis) end-within in omega arith);
    small = rw end_is (index-small (n + 1) (next_site begin row.axis) S.m≤ end-within);
  }

  pub begin-read : {g : Grid} {F : List Float} → Samples g (n + 1) F → is_negative F (row.from + j * row.step) ≡ inside_at g (inner_site (edge_in row j))
  begin-read S = rw begin-is (sign-is begin S begin-within)

  pub end_read : {g : Grid} {F : List Float} → Samples g (n + 1) F → is_negative F (row.from + j * row.step + row.next) ≡ inside_at g (next_site (inner_site (edge_in row j)) row.axis)
  end_read S = rw end_is (sign-is (next_site begin row.axis) S end-within)

-- ---- numbers

inner-is : (i j k l a b c d : ℕ) → i ≡ a → j ≡ b → k ≡ c → l ≡ d → ◌≡◌ {A = Inner} (record { axis = i; a = j; b = k; d = l }) (record { axis = a; a = b; b = c; d = d })
inner-is i j k l a b c d e f g h = rw (e, f, g, h) refl

-- the number of a row and a place in it
row_of : (k r j : ℕ) → j < k → (r * k + j) / k ≡ r
row_of k r j h = div-eq_of_lt-le k (omega arith) (omega arith)

rest_of : (k r j : ℕ) → j < k → (r * k + j) % k ≡ j
rest_of k r j h = let e : r * k + (r * k + j) % k ≡ r * k + j = rw (row_of k r j h) at (div-add-mod' (r * k + j) k) in omega arith

-- the edge j of the row r
pub inner-row : (n r j : ℕ) → j < n - 1 → inner_at n (edge_number n r j) ≡ record { axis = r / (n - 1) / n; a = r / (n - 1) % n; b = r % (n - 1) + 1; d = j + 1 }
unfolding inner_at
inner-row n r j h =
    let k = n - 1 in
    let t = r * k + j in
    let q : t / k ≡ r = row_of k r j h in
    let two : t / (k * k) ≡ r / k = sym (div-div-eq-div-mul t k k) ∙ ap (λ (x : ℕ). x / k) q in
    let three : t / (n * (k * k)) ≡ r / k / n = ap (λ (x : ℕ). t / x) (mul_comm n (k * k)) ∙ sym (div-div-eq-div-mul t (k * k) n) ∙ ap (λ (x : ℕ). x / n) two in
    inner-is _ _ _ _ _ _ _ _ three (ap (λ (x : ℕ). x % n) two) (ap (λ (x : ℕ). x % k + 1) q) (ap (λ (x : ℕ). x + 1) (rest_of k r j h))

-- the numbers of a row are places of the grid
pub record RowPlaces (n r : ℕ) : Type 0 where
  pub n> : 1 < n
  pub axis< : r / (n - 1) / n < 3
  pub a< : r / (n - 1) % n < n
  pub b< : r % (n - 1) + 1 < n

some-side : (n r : ℕ) → r < row_count n → 1 < n
some-side zero r h = absurd (omega arith)
some-side (suc zero) r h = absurd (omega arith)
some-side (suc (suc n)) r h = omega arith

pub row-places : (n r : ℕ) → r < row_count n → RowPlaces n r
row-places n r h =
    let p = some-side n r h in
    let k : 0 < n - 1 = omega arith in
    let z : 0 < n = omega arith in
    let e : 3 * (n * (n - 1)) ≡ 3 * n * (n - 1) = omega arith in
    record {
      n> = p;
      axis< = (div-lt_iff_lt-mul z).1 ((div-lt_iff_lt-mul k).1 (rw e at h));
      a< = mod-lt (r / (n - 1)) z;
      b< = let l = mod-lt r k in omega arith;
    }

-- the first edge of a row, and the places after it along its own axis and the last
module _ (n r : ℕ) {c : Site} (h : n ≤ 130) (P : RowPlaces n r) (e : c ≡ place_on (r / (n - 1) / n) (r / (n - 1) % n) (r % (n - 1) + 1) 1) where
  pub first-within : Within (n + 1) c
  first-within = rw e (let a = P.a< in let b = P.b< in place-within (n + 1) _ _ _ 1 P.axis< (omega arith) (omega arith) (omega (arith, P.n>)))

  pub row_made : r < row_count n → (x y z : ℕ) → x ≡ index_of (n + 1) c → y ≡ stride_of (n + 1) (r / (n - 1) / n) → z ≡ stride_of (n + 1) ((r / (n - 1) / n + 2) % 3)
      → RowAt n r (record { axis = r / (n - 1) / n; a = r / (n - 1) % n; b = r % (n - 1) + 1; from = x; next = y; step = z })
  row_made l x y z q f g = record {
    r< = l;
    within = record {
      n≤ = h;
      axis< = P.axis<;
      a< = P.a<;
      b> = omega arith;
      b< = P.b<;
      from_is = q ∙ ap (index_of (n + 1)) e;
      next_is = f;
      step_is = g;
    };
    edges = λ j k. inner-row n r j k;
  }

-- One swap on the list of quads is an exchange of corners. Assumes nothing.
use mathlib.Core.Path.{◌≡◌, ap, sym}
use mathlib.Core.Logic.{◌≢◌}
use Prim.Native.Nat.{ℕ, ◌+◌, ◌-◌, ◌<◌}
use mathlib.Core.List.{List}
use native.Mathlib.Omega.{arith}
use lib.ListN.{length, set, get_or, length-set}
use lib.Seq.{get_or-set_other}
use Rattle.rule_sheet.specs.Quads.{Quad, quad, sum, corners, total}
use Rattle.rule_regularize.specs.Swaps.{swap_one, swap_two}
use Rattle.rule_passes.specs.Choices.{none_quad}
use Rattle.rule_sheet.proofs.Sums.{sum-set}
use Rattle.rule_regularize.proofs.Passes.{Six}
use Rattle.rule_regularize.proofs.Surgery.{Exchange}

module _ {A : Type 0} where
  pub sum-set-two : (h : A → ℕ) (l : List A) (i j : ℕ) (a b d : A) → i < length l → j < length l → i ≢ j
      → sum h (set (set l i a) j b) + (h (get_or l i d) + h (get_or l j d)) ≡ sum h l + (h a + h b)
  sum-set-two h l i j a b d li lj ij =
      omega (arith, sum-set h l i a d li, sum-set h (set l i a) j b d (rw length-set lj), ap h (get_or-set_other l i j a d (λ p. ij (sym p))))

-- Two quads on a hexagon.
module _ (S : List Quad) (i j h0 h1 h2 h3 h4 h5 : ℕ) (li : i < length S) (lj : j < length S) (ij : i ≢ j) (six : Six h0 h1 h2 h3 h4 h5)
    (qi : (f : ℕ → ℕ → ℕ → ℕ) → corners f (get_or S i none_quad) ≡ corners f (quad h0 h3 h4 h5))
    (qj : (f : ℕ → ℕ → ℕ → ℕ) → corners f (get_or S j none_quad) ≡ corners f (quad h3 h0 h1 h2)) where
  open six use {n01, n02, n03, n04, n05, n12, n13, n14, n15, n23, n24, n25, n34, n35, n45}

  pub exchange-one : Exchange (λ f. total f S) (λ f. total f (swap_one S i j h0 h1 h2 h3 h4 h5)) h0 h3 h1 h4
  exchange-one = record {
    x = h5;
    y = h1;
    x' = h2;
    y' = h4;
    s = h0;
    t = h2;
    s' = h3;
    t' = h5;
    moved = λ f. omega (arith, sum-set-two (corners f) S i j (quad h1 h2 h3 h4) (quad h1 h4 h5 h0) none_quad li lj ij, qi f, qj f);
    ab = n03;
    ac = n01;
    ad = n04;
    bc = λ p. n13 (sym p);
    bd = n34;
    cd = n14;
    xb = λ p. n35 (sym p);
    by = λ p. n13 (sym p);
    xy = λ p. n15 (sym p);
    xa' = λ p. n02 (sym p);
    ay' = n04;
    xy' = n24;
    st = n02;
    ds = λ p. n04 (sym p);
    dt = λ p. n24 (sym p);
    st' = n35;
    cs' = n13;
    ct' = n15;
  }

  pub exchange-two : Exchange (λ f. total f S) (λ f. total f (swap_two S i j h0 h1 h2 h3 h4 h5)) h0 h3 h2 h5
  exchange-two = record {
    x = h5;
    y = h1;
    x' = h2;
    y' = h4;
    s = h1;
    t = h3;
    s' = h4;
    t' = h0;
    moved = λ f. omega (arith, sum-set-two (corners f) S i j (quad h2 h3 h4 h5) (quad h2 h5 h0 h1) none_quad li lj ij, qi f, qj f);
    ab = n03;
    ac = n02;
    ad = n05;
    bc = λ p. n23 (sym p);
    bd = n35;
    cd = n25;
    xb = λ p. n35 (sym p);
    by = λ p. n13 (sym p);
    xy = λ p. n15 (sym p);
    xa' = λ p. n02 (sym p);
    ay' = n04;
    xy' = n24;
    st = n13;
    ds = λ p. n15 (sym p);
    dt = λ p. n35 (sym p);
    st' = λ p. n04 (sym p);
    cs' = n24;
    ct' = λ p. n02 (sym p);
  }

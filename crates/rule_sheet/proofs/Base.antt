-- Indicators, arcs and cycles. Assumes nothing.
use mathlib.Core.Path.{◌≡◌, refl}
use mathlib.Core.Logic.{◌⊎◌, inl, inr}
use Prim.Native.Nat.{ℕ, zero, suc, ◌+◌, ◌-◌, ◌≤◌, ◌<◌}
use mathlib.Core.List.{List, [], ◌∷◌, ◌++◌}
use mathlib.Core.Bool.{Bool, true, false, ◌&&◌}
use native.Mathlib.Omega.{arith}
use lib.Dec.{eqb, T, eqb→eq}
use borrow.Author.Tests.{eq-eqb}
use Rattle.rule_sheet.specs.Closed.{ind, arc, cyc}
use Rattle.rule_sheet.specs.Quads.{num, is, sum}
use Rattle.rule_sheet.proofs.FirstUse.{is_same}

pub eqb-self : (m : ℕ) → eqb m m ≡ true
eqb-self m = eq-eqb m m refl

pub is-self : (x : ℕ) → is x x ≡ 1
is-self x = is_same x x refl

pub ind-same : (x b : ℕ) → ind x b x b ≡ 1
ind-same x b = rw (eqb-self x, eqb-self b) refl

pub ind-pos : (x b u y : ℕ) → 0 < ind x b u y → (u ≡ x) × (y ≡ b)
ind-pos x b u y h = go (eqb u x) (eqb y b) (eqb→eq u x) (eqb→eq y b) h
  where
    go : (p q : Bool) → (T p → u ≡ x) → (T q → y ≡ b) → 0 < num (p && q) → (u ≡ x) × (y ≡ b)
    go true true f g h = (f tt, g tt)
    go true false f g h = absurd (omega arith)
    go false q f g h = absurd (omega arith)

-- a sum of two weights that is positive
pub pos-split : (m n : ℕ) → 0 < m + n → (0 < m) ⊎ (0 < n)
pos-split zero n h = inr (omega arith)
pos-split (suc m) n h = inl (omega arith)

pub arc-app : (g : ℕ → ℕ → ℕ) (u : ℕ) (ps : List ℕ) (y : ℕ) (qs : List ℕ) (z : ℕ) → arc g u (ps ++ y ∷ qs) z ≡ arc g u ps y + arc g y qs z
arc-app g u [] y qs z = refl
arc-app g u (p ∷ ps) y qs z = omega (arith, arc-app g p ps y qs z)

-- the sources of an arc are its nodes but the last
pub arc-from : (h : ℕ → ℕ) (u : ℕ) (us : List ℕ) (z : ℕ) → arc (λ p n. h p) u us z ≡ h u + sum h us
arc-from h u [] z = omega arith
arc-from h u (y ∷ ys) z = omega (arith, arc-from h y ys z)

pub cyc-from : (h : ℕ → ℕ) (w : List ℕ) → cyc (λ p n. h p) w ≡ sum h w
cyc-from h [] = refl
cyc-from h (u ∷ us) = arc-from h u us u

-- its targets are its nodes but the first
pub arc-to : (h : ℕ → ℕ) (u : ℕ) (us : List ℕ) (z : ℕ) → arc (λ p n. h n) u us z ≡ sum h us + h z
arc-to h u [] z = omega arith
arc-to h u (y ∷ ys) z = omega (arith, arc-to h y ys z)

pub cyc-to : (h : ℕ → ℕ) (w : List ℕ) → cyc (λ p n. h n) w ≡ sum h w
cyc-to h [] = refl
cyc-to h (u ∷ us) = omega (arith, arc-to h u us u)

-- a weight below another one
pub arc-le : (f g : ℕ → ℕ → ℕ) → ((p n : ℕ) → f p n ≤ g p n) → (u : ℕ) (us : List ℕ) (z : ℕ) → arc f u us z ≤ arc g u us z
arc-le f g l u [] z = l u z
arc-le f g l u (y ∷ ys) z = omega (arith, l u y, arc-le f g l y ys z)

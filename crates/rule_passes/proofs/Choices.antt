-- What a choice took, and the tests before it. Assumes nothing.
use Prim.Native.Nat.{ℕ}
use mathlib.Core.Path.{◌≡◌, refl, ap, sym}
use mathlib.Core.Logic.{◌⊎◌, inl, inr}
use mathlib.Core.Option.{Option, none, some}
use mathlib.Core.Bool.{Bool, true, false, ◌&&◌, not, cond}
use native.Mathlib.Omega.{arith}
use Rattle.lists.proofs.Every.{and_left, and_right}
use Rattle.rule_sheet.specs.Quads.{num}
use Rattle.rule_passes.specs.Choices.{choose}

pub and-true : (a b : Bool) → (a && b) ≡ true → (a ≡ true) × (b ≡ true)
and-true a b e = (and_left a b e, and_right a b e)

pub not-true : (b : Bool) → not b ≡ true → b ≡ true → ⊥
not-true true e f = let z : ◌≡◌ {A = ℕ} 0 1 = ap num e in omega arith
not-true false e f = let z : ◌≡◌ {A = ℕ} 0 1 = ap num f in omega arith

pub not-false : (b : Bool) → not b ≡ true → b ≡ false
not-false true e = sym e
not-false false e = refl

module _ {A : Type 0} where
  is_some : Option A → ℕ
  is_some none = 0
  is_some (some t) = 1

  pub none-some : {t : A} → ◌≡◌ {A = Option A} none (some t) → ⊥
  unfolding is_some
  none-some e = let z : ◌≡◌ {A = ℕ} 0 1 = ap is_some e in omega arith

  pub some_inj : {s t : A} → ◌≡◌ {A = Option A} (some s) (some t) → s ≡ t
  some_inj {s} {t} e = cc

  pub cond-some : {t : A} (b : Bool) (x : Option A) → cond b x none ≡ some t → (b ≡ true) × (x ≡ some t)
  cond-some true x e = (refl, e)
  cond-some false x e = absurd (none-some e)

  pub choose-some : (a b c : Bool) (x y t : A) → choose a b c x y ≡ some t → ((a ≡ true) × (x ≡ t)) ⊎ ((b ≡ true) × (y ≡ t))
  choose-some true true true x y t e = inr (refl, some_inj e)
  choose-some true true false x y t e = inl (refl, some_inj e)
  choose-some true false c x y t e = inl (refl, some_inj e)
  choose-some false true c x y t e = inr (refl, some_inj e)
  choose-some false false c x y t e = absurd (none-some e)

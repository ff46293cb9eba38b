-- The cube is a sheet that demand 3 may start from. Assumes nothing.
use mathlib.Core.Path.{◌≡◌, refl, sym, ◌∙◌}
use mathlib.Core.Logic.{◌⊎◌, inl, inr, ◌≢◌}
use Prim.Native.Nat.{ℕ, zero, suc, ◌+◌, ◌≤◌, ◌<◌}
use mathlib.Core.List.{[], ◌∷◌}
use native.Mathlib.Omega.{arith}
use lib.Ieee.{of_bits}
use Rattle.lists.specs.Every.{every}
use Rattle.points.specs.Points.{finite_p}
use Rattle.rule_sheet.specs.Closed.{at_point, Ring, Rings}
use Rattle.rule_sheet.specs.Quads.{mask_of, pack_to, is}
use Rattle.rule_sheet.specs.Sheet.{is_bare}
use Rattle.rule_sheet.specs.Lent.{is_large}
use Rattle.rule_sheet.specs.Tests.{good_corners, good_masks, in_range, distinct, good_mask}
use Rattle.rule_sheet.specs.Claims.{Below}
use Rattle.rule_sheet.specs.Sound.{AcceptedSheet, Sound}
use Rattle.rule_sheet.proofs.FirstUse.{is-other, is_pos}
use Rattle.rule_sheet.proofs.Rings.{zero_or}
use Rattle.rule_sheet.proofs.Weigh.{is_le, rings-closed}
use Rattle.cases.specs.Cases.{cube}
use Rattle.safety_rules.proofs.Fine.{fine_of}

three-apart : (a b c : ℕ) → a ≢ b → a ≢ c → b ≢ c → (x : ℕ) → is x a + (is x b + (is x c + 0)) ≤ 1
three-apart a b c ab ac bc x = go (zero_or (is x a)) (zero_or (is x b))
  where
    off : (y z : ℕ) → y ≢ z → 0 < is x y → is x z ≡ 0
    off y z n h = is-other x z (λ e. n (sym (is_pos x y h) ∙ e))

    go : (is x a ≡ 0) ⊎ (0 < is x a) → (is x b ≡ 0) ⊎ (0 < is x b) → is x a + (is x b + (is x c + 0)) ≤ 1
    go (inr h) _ = omega (arith, is_le x a, off a b ab h, off a c ac h)
    go (inl z) (inr h) = omega (arith, is_le x b, off b c bc h)
    go (inl z) (inl y) = omega (arith, is_le x c)

cube-ring : (R : (ℕ → ℕ → ℕ) → ℕ) (a b c : ℕ) → a ≢ b → a ≢ c → b ≢ c → ((g : ℕ → ℕ → ℕ) → R g ≡ g a b + (g b c + g c a)) → Ring R
cube-ring R a b c ab ac bc e = record { round = a ∷ b ∷ c ∷ []; two = omega arith; apart = three-apart a b c ab ac bc; same = e }

pub cube-accepted : AcceptedSheet cube
unfolding cube is_large is_bare good_corners good_masks in_range distinct good_mask mask_of pack_to every finite_p of_bits
cube-accepted = record { not_large = refl; not_bare = refl; corners = refl; masks = refl }

cube-below : Below 8 cube.quads
unfolding cube
cube-below = (fine_of cube cube-accepted).in_range

cube-rings : Rings cube.quads
unfolding Rings cube Below
cube-rings v h = go v (cube-below v h)
  where
    go : (v : ℕ) → v < 8 → Ring (at_point cube.quads v)
    go zero l = cube-ring (at_point cube.quads 0) 1 2 4 (λ p. omega arith) (λ p. omega arith) (λ p. omega arith) (λ g. omega arith)
    go (suc zero) l = cube-ring (at_point cube.quads 1) 0 5 3 (λ p. omega arith) (λ p. omega arith) (λ p. omega arith) (λ g. omega arith)
    go (suc (suc zero)) l = cube-ring (at_point cube.quads 2) 0 3 6 (λ p. omega arith) (λ p. omega arith) (λ p. omega arith) (λ g. omega arith)
    go (suc (suc (suc zero))) l = cube-ring (at_point cube.quads 3) 1 7 2 (λ p. omega arith) (λ p. omega arith) (λ p. omega arith) (λ g. omega arith)
    go (suc (suc (suc (suc zero)))) l = cube-ring (at_point cube.quads 4) 0 6 5 (λ p. omega arith) (λ p. omega arith) (λ p. omega arith) (λ g. omega arith)
    go (suc (suc (suc (suc (suc zero))))) l = cube-ring (at_point cube.quads 5) 1 4 7 (λ p. omega arith) (λ p. omega arith) (λ p. omega arith) (λ g. omega arith)
    go (suc (suc (suc (suc (suc (suc zero)))))) l = cube-ring (at_point cube.quads 6) 2 7 4 (λ p. omega arith) (λ p. omega arith) (λ p. omega arith) (λ g. omega arith)
    go (suc (suc (suc (suc (suc (suc (suc zero))))))) l = cube-ring (at_point cube.quads 7) 3 5 6 (λ p. omega arith) (λ p. omega arith) (λ p. omega arith) (λ g. omega arith)
    go (suc (suc (suc (suc (suc (suc (suc (suc v)))))))) l = absurd (omega arith)

pub cube-sound : Sound cube
cube-sound = record { accepted = cube-accepted; closed = rings-closed cube.quads cube-rings; rings = cube-rings }

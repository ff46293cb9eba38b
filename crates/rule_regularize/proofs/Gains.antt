-- The gain of a swap by sums of valences. Assumes nothing.
use Prim.Native.Nat.{ℕ, ◌+◌, ◌*◌, ◌/◌, ◌≤◌}
use mathlib.Core.Path.{◌≡◌, refl, ◌∙◌}
use native.Mathlib.Omega.{arith}
use lib.Dec.{leb, ltb}
use lib.IntN.{pos, ◌+ℤ◌, ◌-ℤ◌, ◌*ℤ◌}
use lib.Signed.{le_z, lt_z}
use Rattle.rule_passes.proofs.Differences.{Difference, minus_is, of_two, twice-is, same-le, same-lt, least-is, less-is}
use Rattle.rule_regularize.specs.Swaps.{swap_gain}

-- gains are even: where a gain is at least m, half of it is at least this
abbrev pub half_of : ℕ → ℕ
half_of m = (m + 1) / 2

module _ (va vb vc vd : ℕ) where
  gain-is : Difference (swap_gain va vb vc vd) (2 * (va + vb)) (2 * (vc + vd) + 4)
  unfolding swap_gain
  gain-is =
      let b = minus_is (pos va +ℤ pos vb -ℤ pos vc) (va + vb) vc vd (of_two (va + vb) vc) in
      let c = twice-is (pos va +ℤ pos vb -ℤ pos vc -ℤ pos vd) (va + vb) (vc + vd) b in
      minus_is (pos 2 *ℤ (pos va +ℤ pos vb -ℤ pos vc -ℤ pos vd)) (2 * (va + vb)) (2 * (vc + vd)) 4 c

  -- the gain is at least m
  pub gain-least : (m : ℕ) → le_z (pos m) (swap_gain va vb vc vd) ≡ leb (vc + vd + 2 + half_of m) (va + vb)
  gain-least m =
      least-is m (swap_gain va vb vc vd) (2 * (va + vb)) (2 * (vc + vd) + 4) gain-is
      ∙ same-le (2 * (vc + vd) + 4 + m) (2 * (va + vb)) (vc + vd + 2 + half_of m) (va + vb) (λ h. omega arith) (λ h. omega arith)

  -- the gain is more than 0
  pub gain-more : lt_z (pos 0) (swap_gain va vb vc vd) ≡ ltb (vc + vd + 2) (va + vb)
  gain-more =
      less-is (pos 0) (swap_gain va vb vc vd) 0 0 (2 * (va + vb)) (2 * (vc + vd) + 4) refl gain-is
      ∙ same-lt (0 + (2 * (vc + vd) + 4)) (2 * (va + vb) + 0) (vc + vd + 2) (va + vb) (λ h. omega arith) (λ h. omega arith)

-- of two diagonals for one edge the second gains more
pub gain-higher : (va vb vc vd ve vf : ℕ) → lt_z (swap_gain va vb vc vd) (swap_gain va vb ve vf) ≡ ltb (ve + vf) (vc + vd)
gain-higher va vb vc vd ve vf =
    less-is (swap_gain va vb vc vd) (swap_gain va vb ve vf) (2 * (va + vb)) (2 * (vc + vd) + 4) (2 * (va + vb)) (2 * (ve + vf) + 4) (gain-is va vb vc vd) (gain-is va vb ve vf)
    ∙ same-lt (2 * (va + vb) + (2 * (ve + vf) + 4)) (2 * (va + vb) + (2 * (vc + vd) + 4)) (ve + vf) (vc + vd) (λ h. omega arith) (λ h. omega arith)

-- the least gains of the rules are small
pub half-small : (m : ℕ) → m ≤ 1 → half_of m ≡ m
half-small m h = omega arith

-- Exact fractions.
use Rattle.std.specs.Prelude.{ℕ, zero, suc, ◌+◌, ◌*◌, ◌<◌, ◌≡◌}
use Rattle.std.proofs.Common.{mul-pos, zero-lt-suc}
use Rattle.smoothing.specs.Arithmetic.{Arithmetic}

-- (above − below) / under
pub record Fraction : Type 0 where
  pub above : ℕ
  pub below : ℕ
  pub under : ℕ
  pub positive : 0 < under

-- two fractions are equal if they are so multiplied crosswise
infix 50 ◌≈◌
pub record ◌≈◌ (a b : Fraction) : Type 0 where
  pub crosswise : a.above * b.under + b.below * a.under ≡ b.above * a.under + a.below * b.under

-- the whole number n
unfoldable pub whole_q : ℕ → Fraction
whole_q n = record { above = n; below = 0; under = 1; positive = zero-lt-suc 0 }

-- 1 / n; of 0, which has no reciprocal, it is 0
unfoldable pub reciprocal_q : ℕ → Fraction
unfolding whole_q
reciprocal_q zero = whole_q 0
reciprocal_q (suc n) = record { above = 1; below = 0; under = suc n; positive = zero-lt-suc n }

-- the sum
unfoldable pub plus_q : Fraction → Fraction → Fraction
plus_q a b =
    record {
      above = a.above * b.under + b.above * a.under;
      below = a.below * b.under + b.below * a.under;
      under = a.under * b.under;
      positive = mul-pos a.positive b.positive;
    }

-- the difference
unfoldable pub minus_q : Fraction → Fraction → Fraction
minus_q a b =
    record {
      above = a.above * b.under + b.below * a.under;
      below = a.below * b.under + b.above * a.under;
      under = a.under * b.under;
      positive = mul-pos a.positive b.positive;
    }

-- the product
unfoldable pub times_q : Fraction → Fraction → Fraction
times_q a b =
    record {
      above = a.above * b.above + a.below * b.below;
      below = a.above * b.below + a.below * b.above;
      under = a.under * b.under;
      positive = mul-pos a.positive b.positive;
    }

infixl 70 ◌÷◌
-- a divided by n; nothing is divided by 0, so 0 stands there
unfoldable pub ◌÷◌ : Fraction → ℕ → Fraction
unfolding whole_q
◌÷◌ a zero = whole_q 0
◌÷◌ a (suc n) =
    record {
      above = a.above;
      below = a.below;
      under = a.under * suc n;
      positive = mul-pos a.positive (zero-lt-suc n);
    }

-- the arithmetic of exact fractions
abbrev pub exact : Arithmetic
exact =
    record {
      Number = Fraction;
      plus = plus_q;
      minus = minus_q;
      times = times_q;
      whole = whole_q;
      reciprocal = reciprocal_q;
    }

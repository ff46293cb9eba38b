-- The squared sum of a sheet is far below the cap of a count. Assumes nothing.
use Prim.Native.Nat.{ℕ, zero, suc, ◌+◌, ◌*◌, ◌≤◌}
use native.Mathlib.Nat.{suc-mul, mul-suc, mul-le-mul_right, mul-le-mul_left}
use mathlib.Core.List.{List}
use native.Mathlib.Omega.{arith}
use lib.ListN.{length}
use Rattle.lists.specs.Sort.{itself}
use Rattle.rule_sheet.specs.Quads.{Quad, valence}
use Rattle.rule_sheet.specs.Lent.{limit}
use Rattle.rule_sheet.proofs.Sums.{upto, sum-tab}
use Rattle.rule_sheet.specs.Squared.{sq, squared}
use Rattle.rule_sheet.specs.Claims.{Differ, All}
use Rattle.rule_passes.specs.Runs.{largest}
use Rattle.rule_sheet.proofs.Weigh.{sq-suc}
use Rattle.rule_sheet.proofs.Bound.{valence-le}

sq-le : (k : ℕ) → sq k ≤ k * k + 16
sq-le zero = omega arith
sq-le (suc k) = omega (arith, sq-le k, sq-suc k, suc-mul k (suc k), mul-suc k k)

upto_le : (n b : ℕ) (f : ℕ → ℕ) → ((v : ℕ) → f v ≤ b) → upto n f ≤ n * b
upto_le zero b f h = omega arith
upto_le (suc n) b f h = omega (arith, upto_le n b f h, h n, suc-mul n b)

squares-le : (x y : ℕ) → x ≤ y → x * x ≤ y * y
squares-le x y h = let p = mul-le-mul_right x h in let q = mul-le-mul_left y h in omega (arith, p, q)

pub squared-le : (n : ℕ) (S : List Quad) → All Differ S → squared n S ≤ n * (length S * length S + 16)
unfolding squared
squared-le n S d = omega (
  arith,
  sum-tab (λ v. sq (valence S v)) itself n,
  upto_le n (length S * length S + 16) (λ v. sq (valence S v)) (λ v. omega (arith, sq-le (valence S v), squares-le (valence S v) (length S) (valence-le S v d))),
)

-- the squared sum of a sheet within the limit
pub product_le : (n q : ℕ) → n ≤ limit → q ≤ limit → n * (q * q + 16) ≤ 2 * largest
product_le n q h k =
    let p = mul-le-mul_right (q * q + 16) h in
    let r : q * q + 16 ≤ limit * limit + 16 = omega (arith, squares-le q limit k) in
    let t = mul-le-mul_left limit r in
    omega (arith, p, t)

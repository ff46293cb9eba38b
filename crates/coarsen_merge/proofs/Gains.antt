-- The squares of a gain, within what a usize holds. Assumes nothing.
use Prim.Native.Nat.{ℕ, ◌+◌, ◌-◌, ◌*◌, ◌≤◌, ◌<◌}
use mathlib.Core.Logic.{⊎_elim}
use native.Mathlib.Omega.{arith}
use native.Mathlib.Nat.{mul-le-mul}
use Rattle.lists.proofs.Laws.{lt-or-le}
use Rattle.rule_sheet.specs.Squared.{sq}
use Rattle.rule_sheet.proofs.Weigh.{sq-low, sq-high}

-- the squares of numbers of at most 2 ^ 24
pub square_le : (d : ℕ) → d ≤ 16777216 → d * d ≤ 281474976710656
square_le d h = mul-le-mul h h

pub sq-le : (k : ℕ) → k ≤ 16777216 → sq k ≤ 281474976710656
sq-le k h = ⊎_elim
    (λ (l : k < 4). rw (← sq-low k l) (square_le (4 - k) (omega arith)))
    (λ (l : 4 ≤ k). rw (← sq-high k l) (square_le (k - 4) (omega arith)))
    (lt-or-le k 4)

-- the numbers of quads after a merge, and what the sums over them are at most
pub record After (a b c d : ℕ) : Type 0 where
  pub ac : a + c - 2 ≤ 16777216
  pub b≤ : b - 1 ≤ 16777216
  pub d≤ : d - 1 ≤ 16777216
  pub ac² : sq (a + c - 2) ≤ 281474976710656
  pub b² : sq (b - 1) ≤ 281474976710656
  pub d² : sq (d - 1) ≤ 281474976710656

pub after : (a b c d : ℕ) → a + b + c + d ≤ 16777216 → After a b c d
after a b c d h =
    let x : a + c - 2 ≤ 16777216 = omega arith in
    let y : b - 1 ≤ 16777216 = omega arith in
    let z : d - 1 ≤ 16777216 = omega arith in
    record { ac = x; b≤ = y; d≤ = z; ac² = sq-le (a + c - 2) x; b² = sq-le (b - 1) y; d² = sq-le (d - 1) z }

-- two and three of them together
pub two-fit : {x y : ℕ} → x ≤ 281474976710656 → y ≤ 281474976710656 → x + y < 18446744073709551616
two-fit p q = omega arith

pub three-fit : {x y z : ℕ} → x ≤ 281474976710656 → y ≤ 281474976710656 → z ≤ 281474976710656 → x + (y + z) < 18446744073709551616
three-fit p q r = omega arith

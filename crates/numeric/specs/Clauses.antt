-- What the contracts of this crate's functions ask and ensure besides the definitions of `Num` and `Root`.
use Rattle.std.specs.Prelude.{◌≡◌, ℕ, ◌+◌, ◌-◌, ◌*◌, ◌/◌, ◌%◌, ◌^◌, ◌<◌, ◌≤◌, false, cond, T, ◌⊎◌, pos, from_bits}
use Rattle.std.specs.Prelude.{nat_lt, Float}
use Rattle.std.specs.Float.{fin, binary64}
use Rattle.std.specs.Float.Ieee.{le}
use Rattle.numeric.specs.Num.{abs_of, halfway_of}
use Rattle.numeric.specs.Root.{root_of}

-- ---- the halfway point

-- x is finite and of magnitude at most 2 ^ 1022
abbrev pub Small : Float → Type 0
Small x = T (le (abs_of x) (fin false 1 (pos 1022)))

-- x lies between a and b, in either order
abbrev pub Between : Float → Float → Float → Type 0
Between a b x = (T (le a x) × T (le x b)) ⊎ (T (le b x) × T (le x a))

-- r is the halfway point of a and b. For finite ends of magnitude at most 2 ^ 1022 it lies between its two ends.
pub record Halfway (a b r : Float) : Type 0 where
  pub value : r ≡ halfway_of a b
  pub between : Small a → Small b → Between a b r

-- ---- the square root

-- r with s left over is the root for 4 * (a * a + b) + d
pub record Stepped (a b d r s : ℕ) : Type 0 where
  pub square : r * r + s ≡ 4 * (a * a + b) + d
  pub rest : s ≤ 2 * r
  pub small : r ≤ 2 * a + 1

-- r with s left over is the root of m * 2 ^ 52
pub record Rooted (m r s : ℕ) : Type 0 where
  pub square : r * r + s ≡ m * 2 ^ 52
  pub rest : s ≤ 2 * r
  pub small : r < 2 ^ 53

-- c is the whole number nearest to the root of m * 2 ^ 52: that root is between c - 1/2 and c + 1/2
pub record Near (m c : ℕ) : Type 0 where
  pub below : c * c < m * 2 ^ 52 + c
  pub above : m * 2 ^ 52 ≤ c * c + c

-- b are the bits of the root of every n for which n * 2 ^ 1074 is sig * 2 ^ e
pub record RootBits (sig e b : ℕ) : Type 0 where
  pub value : (n : ℕ) → n * 2 ^ 1074 ≡ sig * 2 ^ e → from_bits binary64 b ≡ root_of n
  pub finite : b < 2047 * 2 ^ 52

-- sig is t with its leading digit at 2 ^ 52, moved up by k
pub record Normalised (t sig k : ℕ) : Type 0 where
  pub same : sig ≡ t * 2 ^ k
  pub least : 2 ^ 52 ≤ sig
  pub most : sig < 2 ^ 53
  pub short : k ≤ 52

-- the size of the positive value with the bits b, in smallest values
unfoldable pub units_at : ℕ → ℕ
units_at b = cond (nat_lt b (2 ^ 52)) b ((b % 2 ^ 52 + 2 ^ 52) * 2 ^ (b / 2 ^ 52 - 1))

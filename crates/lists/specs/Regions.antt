-- Regions of one slice: the n elements from `at` on.
use Rattle.std.specs.Prelude.{ℕ, ◌+◌, ◌≤◌, ◌<◌, ◌≡◌, List, length, get_or, take, drop}

-- the n elements from `at` on
abbrev pub part : {A : Type 0} → ℕ → ℕ → List A → List A
part at n w = take n (drop at w)

-- w is long enough, and the n elements from `at` on are those of l
pub record Part {A : Type 0} (at n : ℕ) (l w : List A) : Type 0 where
  pub fits : at + n ≤ length w
  pub is : take n (drop at w) ≡ l

-- an index outside a region
abbrev pub Out : ℕ → ℕ → ℕ → Type 0
Out at n i = at ≤ i → i < at + n → ⊥

-- an index outside two regions
abbrev pub Out2 : ℕ → ℕ → ℕ → ℕ → ℕ → Type 0
Out2 a n b m i = Out a n i × Out b m i

-- an index outside three regions
abbrev pub Out3 : ℕ → ℕ → ℕ → ℕ → ℕ → ℕ → ℕ → Type 0
Out3 a n b m c k i = Out a n i × (Out b m i × Out c k i)

-- two regions have no index in common
abbrev pub Apart : ℕ → ℕ → ℕ → ℕ → Type 0
Apart a n b m = (i : ℕ) → a ≤ i → i < a + n → b ≤ i → i < b + m → ⊥

-- w is as long as v, and has v's element at each index of which P holds
pub record Kept {A : Type 0} (P : ℕ → Type 0) (v w : List A) : Type 0 where
  pub len : length w ≡ length v
  pub same : (d : A) (i : ℕ) → P i → get_or w i d ≡ get_or v i d

-- three regions of w, of n, m and k elements, apart from each other
pub record Three {A : Type 0} (a n b m c k : ℕ) (w : List A) : Type 0 where
  pub in_a : a + n ≤ length w
  pub in_b : b + m ≤ length w
  pub in_c : c + k ≤ length w
  pub ab : Apart a n b m
  pub ac : Apart a n c k
  pub bc : Apart b m c k

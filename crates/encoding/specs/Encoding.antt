-- Numbers as bytes, the lowest byte first, at any width.
use Rattle.std.specs.Prelude.{ℕ, zero, suc, ◌+◌, ◌*◌, ◌/◌, ◌%◌, ◌<◌, List, [], ◌∷◌, ◌++◌, get_or}
use Rattle.lists.specs.Sort.{tabulate}
use Rattle.lists.specs.Regions.{part}

-- the lowest k bytes of a number
unfoldable pub little : ℕ → ℕ → List ℕ
little zero n = []
little (suc k) n = n % 256 ∷ little k (n / 256)

-- the number that bytes are
unfoldable pub number : List ℕ → ℕ
number [] = 0
number (b ∷ s) = b + 256 * number s

-- numbers one after the other, k bytes each
unfoldable pub littles : ℕ → List ℕ → List ℕ
littles k [] = []
littles k (n ∷ ns) = little k n ++ littles k ns

-- number i of those that stand one after the other in s, k bytes each
abbrev pub number_at : ℕ → List ℕ → ℕ → ℕ
number_at k s i = number (part (k * i) k s)

-- the first n of them
unfoldable pub numbers : ℕ → ℕ → List ℕ → List ℕ
numbers k n s = tabulate (number_at k s) n

-- every element is below a bound
abbrev pub Under : ℕ → List ℕ → Type 0
Under m s = (i : ℕ) → get_or s i 0 < m

-- every element is a byte
abbrev pub Bytes : List ℕ → Type 0
Bytes = Under 256

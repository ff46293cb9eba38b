-- What the functions on the grid are handed, and what a cell draws by a list of samples.
use Rattle.std.specs.Prelude.{ℕ, ◌+◌, ◌*◌, ◌≤◌, ◌<◌, ◌≡◌, Bool, ◌&&◌, List, length, get_or, Float}
use Rattle.std.specs.Float.{nan}
use Rattle.std.specs.Float.Ieee.{lt}
use Rattle.numeric.specs.Num.{zero_f, finite_of}
use Rattle.rule_sheet.specs.Quads.{num}
use Rattle.rule_extract.specs.declared.Grid.{Grid}
use Rattle.rule_extract.specs.declared.Site.{Site}
use Rattle.rule_extract.specs.Cells.{bit_of}
use Rattle.rule_extract.specs.Lattice.{sample_at, corner_site, centre_inside}

-- ---- places

-- a place of a grid of n places a side
pub record Within (n : ℕ) (c : Site) : Type 0 where
  pub x< : c.x < n
  pub y< : c.y < n
  pub z< : c.z < n

-- ---- samples

-- element i of a list is finite
abbrev pub finite_in : List Float → ℕ → Bool
finite_in F i = finite_of (get_or F i nan)

-- a list has the samples of a grid of m places a side
pub record Samples (g : Grid) (m : ℕ) (F : List Float) : Type 0 where
  pub m≤ : m ≤ 131
  pub fits : m * m * m ≤ length F
  pub is : (t : ℕ) → t < m * m * m → get_or F t nan ≡ sample_at g m t

-- ---- the same by a list of samples

-- the cell that begins at c has its corners in a grid of m places a side, whose samples a list of l elements holds
pub record CellIn (m : ℕ) (c : Site) (l : ℕ) : Type 0 where
  pub m≤ : m ≤ 131
  pub fits : m * m * m ≤ l
  pub within : Within m c
  pub last : Within m (corner_site c 7)

-- element i is negative
abbrev pub is_negative : List Float → ℕ → Bool
is_negative F i = lt (get_or F i nan) zero_f

-- the signs at t and at s behind it, in two bits
unfoldable pub pair_of : List Float → ℕ → ℕ → ℕ
pair_of F s t = num (is_negative F t) + 2 * num (is_negative F (t + s))

-- the same and at m behind, in four bits
unfoldable pub four_of : List Float → ℕ → ℕ → ℕ → ℕ
four_of F s m t = pair_of F s t + 4 * pair_of F s (t + m)

-- the signs at the corners of the cell that begins at the place with the number t, in eight bits
unfoldable pub eight_of : List Float → ℕ → ℕ → ℕ → ℕ
eight_of F s m t = four_of F s m t + 16 * four_of F s m (t + 1)

-- the centres that count: those of faces with four crossings
abbrev pub centre_bit : Grid → Site → ℕ → ℕ → Bool
centre_bit g c k f = bit_of k (12 + f) && centre_inside g c f

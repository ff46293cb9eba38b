-- What the slots of all cells have once their points are drawn.
use Rattle.std.specs.Prelude.{ℕ, ◌+◌, ◌*◌, ◌≤◌, ◌<◌, ◌≡◌, true, List, length, get_or}
use Rattle.rule_extract.specs.declared.Grid.{Grid}
use Rattle.rule_extract.specs.Lattice.{site_at}
use Rattle.rule_extract.specs.Paths.{edge_crosses}
use Rattle.extract_points.specs.Slots.{slot_number}

-- each slot of an edge that crosses has the number of its point, times 8, and its label
pub record AllNumbered (g : Grid) (n : ℕ) (w : List ℕ) : Type 0 where
  pub fits : 12 * (n * n * n) ≤ length w
  pub is : (i e : ℕ) → i < n * n * n → e < 12 → edge_crosses g (site_at n i) e ≡ true → get_or w (12 * i + e) 0
      ≡ slot_number g n (site_at n i) e

-- Quads in a list of point numbers, four to a quad, as the code reads and writes them. Corner c is corner c % 4 of
-- quad c / 4.
use Rattle.std.specs.Prelude.{ℕ, ◌+◌, ◌*◌, ◌/◌, ◌%◌, ◌≤◌, Bool, List, get_or, set, length, take}
use Rattle.rule_sheet.specs.Quads.{Quad, quad, has_label, mask_of}
use Rattle.rule_sheet.specs.Flat.{quads_of}

-- the list with the quad at place i
abbrev pub with_quad : List ℕ → ℕ → Quad → List ℕ
with_quad s i (quad a b c d) = set (set (set (set s (4 * i) a) (4 * i + 1) b) (4 * i + 2) c) (4 * i + 3) d

-- the point at corner c, the one before it in its quad, and the one after it
abbrev pub from : List ℕ → ℕ → ℕ
from Q c = get_or Q c 0

abbrev pub before : List ℕ → ℕ → ℕ
before Q c = get_or Q (c / 4 * 4 + (c + 3) % 4) 0

abbrev pub to : List ℕ → ℕ → ℕ
to Q c = get_or Q (c / 4 * 4 + (c + 1) % 4) 0

-- the lists hold n quads and n labels
pub record Holds (n : ℕ) (Q labels : List ℕ) : Type 0 where
  pub quads : 4 * n ≤ length Q
  pub labels≤ : n ≤ length labels

-- one of the first n quads has the label l and uses v
abbrev pub seen : List ℕ → List ℕ → ℕ → ℕ → ℕ → Bool
seen Q labels n v l = has_label (quads_of n Q) (take n labels) v l

-- the mask of v in the first n quads
abbrev pub mask_in : List ℕ → List ℕ → ℕ → ℕ → ℕ
mask_in Q labels n v = mask_of (quads_of n Q) (take n labels) v

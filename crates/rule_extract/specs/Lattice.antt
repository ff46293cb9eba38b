-- The grid of extraction as numbered places, and the signs that decide what a cell draws. Document 01, "The drawn
-- sheet".
use Rattle.std.specs.Prelude.{ℕ, ◌+◌, ◌*◌, ◌/◌, ◌%◌, Bool, cond, List, eqb, Float}
use Rattle.std.specs.Float.Ieee.{lt}
use Rattle.numeric.specs.Num.{zero_f}
use Rattle.rule_sheet.specs.Quads.{pack_to}
use Rattle.rule_extract.specs.declared.Grid.{Grid}
use Rattle.rule_extract.specs.declared.Site.{Site}
use Rattle.rule_extract.specs.Samples.{sample_of, is_inside}
use Rattle.rule_extract.specs.Grids.{grid_point, face_centre}
use Rattle.rule_extract.specs.Crossings.{next_site}
use Rattle.rule_extract.specs.Cells.{bit_of, low_end, groups_of}

-- ---- places

-- the place with the number t: the last axis goes fastest
unfoldable pub site_at : ℕ → ℕ → Site
site_at n t = record { x = t / n / n; y = t / n % n; z = t % n }

-- the number of a place
unfoldable pub index_of : ℕ → Site → ℕ
index_of n c = (c.x * n + c.y) * n + c.z

-- ---- samples

-- the sample at a place
unfoldable pub value_at : Grid → Site → Float
value_at g c = (sample_of g (grid_point g c)).distance

-- the sample at the place with the number t
abbrev pub sample_at : Grid → ℕ → ℕ → Float
sample_at g m t = value_at g (site_at m t)

-- ---- signs

-- a place is inside the band
unfoldable pub inside_at : Grid → Site → Bool
inside_at g c = lt (value_at g c) zero_f

-- the corner v = x + 2y + 4z of the cell that begins at c
unfoldable pub corner_site : Site → ℕ → Site
corner_site c v = record { x = c.x + v % 2; y = c.y + v / 2 % 2; z = c.z + v / 4 % 2 }

-- the signs at the corners of a cell
abbrev pub corner_inside : Grid → Site → ℕ → Bool
corner_inside g c v = inside_at g (corner_site c v)

-- the same as the bits of a number
unfoldable pub case_of : Grid → Site → ℕ
case_of g c = pack_to (corner_inside g c) 8

-- where the face 2 × axis + side of a cell begins
unfoldable pub face_site : Site → ℕ → Site
face_site c f = cond (eqb (f % 2) 0) c (next_site c (f / 2))

-- the sign at the centre of a face
unfoldable pub centre_inside : Grid → Site → ℕ → Bool
centre_inside g c f = is_inside g (face_centre g (face_site c f) (f / 2))

-- the groups of the edges of a cell
unfoldable pub cell_groups : Grid → Site → List ℕ
cell_groups g c = groups_of (bit_of (case_of g c)) (centre_inside g c)

-- where an edge of a cell begins
unfoldable pub edge_site : Site → ℕ → Site
edge_site c e = corner_site c (low_end e)

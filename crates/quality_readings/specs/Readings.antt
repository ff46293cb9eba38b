-- The cells of a sheet in lent slices, and the regions of a slice of floats that hold what is measured of them.
use Rattle.std.specs.Prelude.{ℕ, ◌+◌, ◌*◌, ◌≤◌, ◌<◌, ◌≡◌, cond, List, map, length, get_or, set, Float}
use Rattle.lists.specs.Sort.{tabulate}
use Rattle.lists.specs.Regions.{Part}
use Rattle.points.specs.Points.{point_at}
use Rattle.field.specs.declared.Field.{Field}
use Rattle.band.specs.Bands.{normal_with}
use Rattle.rule_sheet.specs.declared.Counts.{Counts}
use Rattle.rule_sheet.specs.Flat.{corner}
use Rattle.rule_sheet.specs.Lent.{limit}
use Rattle.sheet.specs.Sheet.{LentSheet}
use Rattle.rule_quality.specs.declared.Corners.{Corners}
use Rattle.rule_quality.specs.Measure.{Cell, centre_of, has_normal, cell_shape, cell_jacobian, cell_area}

-- the points at the corners of quad q
unfoldable pub corners_at : List Float → List ℕ → ℕ → Corners
corners_at P Q q =
    record {
      p0 = point_at P (corner Q q 0);
      p1 = point_at P (corner Q q 1);
      p2 = point_at P (corner Q q 2);
      p3 = point_at P
          (corner Q q 3);
    }

-- the cell of these points with the label l, by the band's field and length
unfoldable pub cell_with : Field → Float → Corners → ℕ → Cell
cell_with f len p l = record { corners = p; normal = normal_with f len (centre_of p) l }

-- the cell of quad q
abbrev pub cell_at : Field → Float → List Float → List ℕ → List ℕ → ℕ → Cell
cell_at f len P Q labels q = cell_with f len (corners_at P Q q) (get_or labels q 0)

-- the cells of the first n quads
abbrev pub cells_to : Field → Float → List Float → List ℕ → List ℕ → ℕ → List Cell
cells_to f len P Q labels n = tabulate (cell_at f len P Q labels) n

-- the floats with a cell's shape, Jacobian and area at place q of the first, the second and the third n elements
unfoldable pub stored : ℕ → ℕ → Cell → List Float → List Float
stored n q c F = set (set (set F q (cell_shape c)) (n + q) (cell_jacobian c)) (2 * n + q) (cell_area c)

-- the same where the cell has a normal
unfoldable pub stored_if : ℕ → ℕ → Cell → List Float → List Float
stored_if n q c F = cond (has_normal c) (stored n q c F) F

-- the first n elements are the cells' shapes, the next n their Jacobians and the next n their areas
pub record Readings (n : ℕ) (cells : List Cell) (F : List Float) : Type 0 where
  pub shapes : Part 0 n (map cell_shape cells) F
  pub jacobians : Part n n (map cell_jacobian cells) F
  pub areas : Part (2 * n) n (map cell_area cells) F

-- a slice of p coordinates holds the points at the corners of quad q
pub record Held (p : ℕ) (Q : List ℕ) (q : ℕ) : Type 0 where
  pub quad : 4 * q + 3 < length Q
  pub c0 : corner Q q 0 * 3 + 3 ≤ p
  pub c1 : corner Q q 1 * 3 + 3 ≤ p
  pub c2 : corner Q q 2 * 3 + 3 ≤ p
  pub c3 : corner Q q 3 * 3 + 3 ≤ p

-- slices of p coordinates, l labels and f floats hold what the first n quads ask
pub record Readable (n p : ℕ) (Q : List ℕ) (l f : ℕ) : Type 0 where
  pub few : n ≤ limit
  pub labels : n ≤ l
  pub floats : 3 * n ≤ f
  pub held : (q : ℕ) → q < n → Held p Q q

-- what `measure` asks of a lent sheet: slices that hold it, a quad, a label for each quad, and corners that are
-- numbers of its points
pub record Measurable (c : Counts) (p : ℕ) (Q : List ℕ) (l : ℕ) : Type 0 where
  pub lent : LentSheet c p (length Q) l
  pub some : 0 < c.quads
  pub labelled : c.labels ≡ c.quads
  pub corners : (i : ℕ) → i < 4 * c.quads → get_or Q i 0 < c.points

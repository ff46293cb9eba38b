-- Marks of quads: a loop over the corners of a point marks the quads around it.
use Rattle.std.specs.Prelude.{ℕ, ◌+◌, ◌*◌, ◌/◌, ◌≤◌, ◌<◌, Bool, cond, List, get_or, length, eqb, ltb}
use Rattle.rule_sheet.specs.Lent.{limit}
use Rattle.lists.specs.Sort.{tabulate}
use Rattle.lists.specs.Every.{some}
use Rattle.lists.specs.Regions.{Part, Apart}
use Rattle.rule_sheet.specs.Quads.{uses}
use Rattle.rule_sheet.specs.Flat.{quad_at}
use Rattle.incidence.specs.Corners.{Cornered, corners_at, first_at}

-- element t of the corners cs is a corner of quad q
abbrev pub hits : List ℕ → ℕ → ℕ → Bool
hits cs q t = eqb (get_or cs t 0 / 4) q

-- the mark of quad q: 1 where one of the first n corners is one of its own, else what it was
abbrev pub mark_at : List ℕ → List ℕ → ℕ → ℕ → ℕ
mark_at cs bs n q = cond (some (hits cs q) n) 1 (get_or bs q 0)

-- the mark of quad q: 1 where it uses v, else what it was
abbrev pub barred_by : List ℕ → ℕ → List ℕ → ℕ → ℕ
barred_by Q v bs q = cond (ltb 0 (uses v (quad_at Q q))) 1 (get_or bs q 0)

-- m corners of nq quads at `from`, and nq marks at `barred`
pub record Marking (from m barred nq : ℕ) (cs w : List ℕ) : Type 0 where
  pub few : nq ≤ limit
  pub at : Part from m cs w
  pub known : (i : ℕ) → i < m → get_or cs i 0 < 4 * nq
  pub in_barred : barred + nq ≤ length w
  pub apart : Apart from m barred nq

-- w has the corners by point at `order`, where they begin at `starts`, and marks of the quads at `barred`
pub record Incident (np nq : ℕ) (Q : List ℕ) (starts order barred : ℕ) (w : List ℕ) : Type 0 where
  pub sheet : Cornered np nq Q
  pub begin : Part starts (np + 1) (tabulate (first_at nq Q) (np + 1)) w
  pub at : Part order (4 * nq) (corners_at np nq Q) w
  pub in_barred : barred + nq ≤ length w
  pub starts_barred : Apart starts (np + 1) barred nq
  pub order_barred : Apart order (4 * nq) barred nq

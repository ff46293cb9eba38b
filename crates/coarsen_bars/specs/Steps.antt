-- What a merge writes: the marks of the points near it, and the new name of a point in the quads around it.
use Rattle.std.specs.Prelude.{ℕ, ◌/◌, Bool, cond, ◌&&◌, List, eqb, length, get_or}
use Rattle.lists.specs.Every.{some}
use Rattle.lists.specs.Sort.{tabulate}
use Rattle.rule_sheet.specs.Flat.{quad_at}
use Rattle.sheet.specs.Edges.{point_corners}
use Rattle.rule_coarsen.specs.Coarse.{has_corner}

-- element i of a list is v
abbrev pub is_at : List ℕ → ℕ → ℕ → Bool
is_at xs v i = eqb (get_or xs i 0) v

-- the mark of point v: 1 where one of the first m elements of a list is v, else what it was
abbrev pub marked_by : List ℕ → List ℕ → ℕ → ℕ → ℕ
marked_by xs U m v = cond (some (is_at xs v) m) 1 (get_or U v 0)

-- 1 where quad q has the corner v, else what it was
abbrev pub marked_in : List ℕ → List ℕ → ℕ → ℕ → ℕ
marked_in Q U q v = cond (has_corner (quad_at Q q) v) 1 (get_or U v 0)

-- the quad of corner t of a list has the corner v
abbrev pub reaches : List ℕ → List ℕ → ℕ → ℕ → Bool
reaches cs Q v t = has_corner (quad_at Q (get_or cs t 0 / 4)) v

-- the mark of point v once the quads of the first m corners of a list are marked
abbrev pub marked_to : List ℕ → List ℕ → List ℕ → ℕ → ℕ → ℕ
marked_to cs Q U m v = cond (some (reaches cs Q v) m) 1 (get_or U v 0)

-- quad q has the corners x and v
abbrev pub joins : List ℕ → ℕ → ℕ → ℕ → Bool
joins Q x v q = has_corner (quad_at Q q) x && has_corner (quad_at Q q) v

-- the mark of point v: 1 where one of n quads has x and v
abbrev pub marked_near : List ℕ → List ℕ → ℕ → ℕ → ℕ → ℕ
marked_near Q U n x v = cond (some (joins Q x v) n) 1 (get_or U v 0)

-- the point at corner i: a where it is one of the first m of a list, else what it was
abbrev pub renamed_at : List ℕ → List ℕ → ℕ → ℕ → ℕ → ℕ
renamed_at cs Q a m i = cond (some (is_at cs i) m) a (get_or Q i 0)

-- the quads R with a at the corners where Q, of n quads, has c
unfoldable pub renamed_quads : List ℕ → ℕ → ℕ → ℕ → List ℕ → List ℕ
renamed_quads Q n c a R = tabulate (renamed_at (point_corners Q n c) R a (length (point_corners Q n c))) (length R)

-- the marks of the points near a and c
abbrev pub marked_both : List ℕ → List ℕ → ℕ → ℕ → ℕ → ℕ → List ℕ
marked_both Q U np nq a c = tabulate (marked_near Q (tabulate (marked_near Q U nq a) np) nq c) np

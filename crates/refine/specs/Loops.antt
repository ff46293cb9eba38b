-- What the loops of `refine` ask of the regions of the work slice, and what they leave.
use Rattle.std.specs.Prelude.{ℕ, zero, suc, ◌+◌, ◌*◌, ◌^◌, ◌≤◌, ◌<◌, ◌≡◌, Bool, true, cond, List, [], ◌∷◌, ◌++◌, ltb}
use Rattle.std.specs.Prelude.{length}
use Rattle.std.specs.Prelude.{get_or, Float}
use Rattle.points.specs.declared.Point.{Point}
use Rattle.lists.specs.Sort.{tabulate}
use Rattle.lists.specs.Every.{count_to}
use Rattle.lists.specs.Regions.{Part, Apart}
use Rattle.rule_sheet.specs.declared.Counts.{Counts}
use Rattle.sheet.specs.Sheet.{LentSheet}
use Rattle.sheet.specs.Results.{Front}
use Rattle.rule_sheet.specs.Sheet.{flat_points}
use Rattle.incidence.specs.Corners.{Cornered, Positioned, edge_order}
use Rattle.refine.specs.Requests.{firsts_of, linked_to, own, number_of}

-- corner c is a number of the n points
abbrev pub low_at : ℕ → List ℕ → ℕ → Bool
low_at n Q c = ltb (get_or Q c 0) n

-- the search for the first requests, once i corners are seen: the corners in the order of their edges at `order`,
-- what is known of the requests at `first`
pub record Linking (np nq : ℕ) (Q : List ℕ) (order first i : ℕ) (w : List ℕ) : Type 0 where
  pub cornered : Cornered np nq Q
  pub at : Part order (4 * nq) (edge_order np nq Q) w
  pub linked : Part first (5 * nq) (tabulate (linked_to np nq Q i) (5 * nq)) w
  pub apart : Apart order (4 * nq) first (5 * nq)

-- F has for each of m requests the first of its key
pub record Firsts (m : ℕ) (F : List ℕ) : Type 0 where
  pub le : (t : ℕ) → t < m → get_or F t 0 ≤ t
  pub self : (t : ℕ) → t < m → get_or F (get_or F t 0) 0 ≡ get_or F t 0

-- the numbering of the points of m requests behind n points, once t requests are numbered: their first requests at
-- `first`, the numbers at `num`
pub record Numbering (n m first num : ℕ) (F : List ℕ) (t next : ℕ) (w : List ℕ) : Type 0 where
  pub few : n + m < 2 ^ 32
  pub firsts : Firsts m F
  pub in_first : first + m ≤ length w
  pub in_num : num + m ≤ length w
  pub apart : Apart first m num m
  pub done : Part num t (tabulate (number_of n F) t) w
  pub next_is : next ≡ n + count_to (own F) t

-- what the first t requests make: each that is the first of its key makes what pos says
unfoldable pub made_to : {A : Type 0} → List ℕ → (ℕ → A) → ℕ → List A
made_to F pos zero = []
made_to F pos (suc t) = made_to F pos t ++ cond (own F t) (pos t ∷ []) []

-- what the writing of the new points asks: first requests F at `first`, numbers N at `num`, and room for each
-- number in a slice of `room` elements
pub record Writing (np nq : ℕ) (P : List Float) (Q : List ℕ) (first num : ℕ) (F N w : List ℕ) (room : ℕ) : Type 0 where
  pub held : Positioned np nq P Q
  pub firsts : Part first (5 * nq) F w
  pub numbers : Part num (5 * nq) N w
  pub rooms : (t : ℕ) → t < 5 * nq → get_or N t 0 * 3 + 3 ≤ room

-- N has the numbers of the points of m requests behind n points, by their first requests F
pub record Numbered (n m : ℕ) (F N : List ℕ) : Type 0 where
  pub firsts : Firsts m F
  pub is : N ≡ tabulate (number_of n F) m

-- what the writing of the points of m requests behind n points asks: first requests F at `first`, numbers N at `num`,
-- and room for each number in a slice of `room` elements
pub record Making (n m first num : ℕ) (F N w : List ℕ) (room : ℕ) : Type 0 where
  pub firsts : Part first m F w
  pub numbers : Part num m N w
  pub numbered : Numbered n m F N
  pub rooms : (t : ℕ) → t < m → get_or N t 0 * 3 + 3 ≤ room

-- behind any n points with which d begins, s has the points that the first t of m requests make: pos, where that is
-- what Gives allows
abbrev pub Adds : (ℕ → Point → Type 0) → ℕ → ℕ → List ℕ → List Float → List Float → ℕ → Type 0
Adds Gives n m F d s t =
    (ps : List Point) (pos : ℕ → Point) → length ps ≡ n → Front (flat_points ps) d
    → ((k : ℕ) (p : Point) → k < m → own F k ≡ true → Gives k p → p ≡ pos k)
    → Front (flat_points (ps ++ made_to F pos t)) s

-- where the corners in the order of their edges stand in the work slice
abbrev pub order_at : ℕ → ℕ → ℕ
order_at np nq = 5 * (np + nq)

-- where the first requests stand in the work slice
abbrev pub firsts_at : ℕ → ℕ → ℕ
firsts_at np nq = 9 * (np + nq)

-- where the numbers of the new points stand in the work slice
abbrev pub numbers_at : ℕ → ℕ → ℕ
numbers_at np nq = 14 * (np + nq)

-- how many points the finer sheet has
abbrev pub points_after : ℕ → ℕ → List ℕ → ℕ
points_after np nq Q = np + count_to (own (firsts_of np nq Q)) (5 * nq)

-- an index of the work slice behind these regions
abbrev pub Behind : ℕ → ℕ → ℕ → Type 0
Behind np nq i = 19 * (np + nq) ≤ i

-- the work slice w with the corners in the order of their edges, and the first requests and the numbers of all requests
pub record Worked (np nq : ℕ) (Q w : List ℕ) : Type 0 where
  pub order : Part (order_at np nq) (4 * nq) (edge_order np nq Q) w
  pub firsts : Part (firsts_at np nq) (5 * nq) (firsts_of np nq Q) w
  pub numbers : Part (numbers_at np nq) (5 * nq) (tabulate (number_of np (firsts_of np nq Q)) (5 * nq)) w

-- what the writing of the finer sheet asks: the sheet, the work done, and room in result slices of p, q and l elements
pub record Finished (np nq : ℕ) (P : List Float) (Q labels w : List ℕ) (p q l : ℕ) : Type 0 where
  pub held : Positioned np nq P Q
  pub worked : Worked np nq Q w
  pub labelled : nq ≤ length labels
  pub in_points : 3 * points_after np nq Q ≤ p
  pub in_quads : 16 * nq ≤ q
  pub in_labels : 4 * nq ≤ l

-- what the tests 12, 13, 5 and 6 leave: a sheet in slices of p coordinates and l labels that can be refined, and
-- work of w elements
pub record Refinable (c : Counts) (p : ℕ) (Q : List ℕ) (l w : ℕ) : Type 0 where
  pub lent : LentSheet c p (length Q) l
  pub same : c.labels ≡ c.quads
  pub cornered : Cornered c.points c.quads Q
  pub work : 64 * (c.points + c.quads) ≤ w

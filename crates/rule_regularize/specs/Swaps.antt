-- The swapped sheet: the passes of `regularize` and `improve_layout` as functions of the quads. Document 01, "The
-- swapped sheet". What the rule reads of the points is the test `fits`.
use Rattle.std.specs.Prelude.{ℕ, suc, ◌+◌, ◌<◌, ◌≡◌, Bool, true, false, cond, ◌&&◌, ◌||◌, not, List, [], ◌∷◌, eqb, ltb}
use Rattle.std.specs.Prelude.{ℤ, pos, ◌+ℤ◌, ◌-ℤ◌, ◌*ℤ◌, length, get_or, set, replicate}
use Rattle.std.proofs.Math.Option.{Option, none}
use Rattle.std.specs.Int.Signed.{le_z, lt_z}
use Rattle.lists.specs.Sort.{cons_if}
use Rattle.rule_sheet.specs.Quads.{Quad, quad, turn, is, uses, valence, side, is_edge}
use Rattle.rule_sheet.specs.Edges.{Pair, pair, edges_of}
use Rattle.rule_sheet.specs.Outcomes.{RunEnd}
use Rattle.rule_passes.specs.Runs.{run}
use Rattle.rule_passes.specs.Choices.{none_quad, choose, take_or}

-- ---- the edge map

-- a side of a quad: the quad's number and the corner at which the side begins
pub record Place : Type 0 where
  pub quad_no : ℕ
  pub side_no : ℕ

-- two pairs are equal
abbrev pub same_pair : Pair → Pair → Bool
same_pair p q = eqb p.low q.low && eqb p.high q.high

-- the entry of an edge in the edge map: the sides along it of the quads from quad i on, in the order of the quads
abbrev pub places : Pair → ℕ → List Quad → List Place
places p i [] = []
places p i (quad a b c d ∷ S) =
    cons_if (same_pair p (pair a b)) (record { quad_no = i; side_no = 0 })
    (cons_if (same_pair p (pair b c)) (record { quad_no = i; side_no = 1 })
    (cons_if (same_pair p (pair c d)) (record { quad_no = i; side_no = 2 })
    (cons_if (same_pair p (pair d a)) (record { quad_no = i; side_no = 3 }) (places p (suc i) S))))

-- ---- one swap

-- the six corners round two quads (h0 h3 h4 h5) and (h3 h0 h1 h2), which share the edge from h0 to h3
pub record Hex : Type 0 where
  pub h0 : ℕ
  pub h1 : ℕ
  pub h2 : ℕ
  pub h3 : ℕ
  pub h4 : ℕ
  pub h5 : ℕ

-- the six corners, by name
abbrev pub hex : ℕ → ℕ → ℕ → ℕ → ℕ → ℕ → Hex
hex a b c d e f = record { h0 = a; h1 = b; h2 = c; h3 = d; h4 = e; h5 = f }

-- quads i and j get the diagonal from h1 to h4 (k = 1)
abbrev pub swap_one : List Quad → ℕ → ℕ → ℕ → ℕ → ℕ → ℕ → ℕ → ℕ → List Quad
swap_one S i j h0 h1 h2 h3 h4 h5 = set (set S i (quad h1 h2 h3 h4)) j (quad h1 h4 h5 h0)

-- or the one from h2 to h5 (k = 2)
abbrev pub swap_two : List Quad → ℕ → ℕ → ℕ → ℕ → ℕ → ℕ → ℕ → ℕ → List Quad
swap_two S i j h0 h1 h2 h3 h4 h5 = set (set S i (quad h2 h3 h4 h5)) j (quad h2 h5 h0 h1)

-- "The six corners must differ"
abbrev pub six_differ : ℕ → ℕ → ℕ → ℕ → ℕ → ℕ → Bool
six_differ a b c d e f =
    eqb (is a b + (is a c + (is a d + (is a e + (is a f +
    (is b c + (is b d + (is b e + (is b f + (is c d + (is c e + (is c f + (is d e + (is d f + (is e f))))))))))))))) 0

-- a quad has one of six corners
abbrev pub meets : Quad → ℕ → ℕ → ℕ → ℕ → ℕ → ℕ → Bool
meets q h0 h1 h2 h3 h4 h5 = ltb 0 (uses h0 q + uses h1 q + uses h2 q + uses h3 q + uses h4 q + uses h5 q)

-- the quads that were barred or pass a test
abbrev pub bar_list : List Quad → List Bool → (Quad → Bool) → List Bool
bar_list [] bs f = []
bar_list (q ∷ S) [] f = []
bar_list (q ∷ S) (b ∷ bs) f = (b || f q) ∷ bar_list S bs f

-- "Gain is 2 × (va + vb − vc − vd) − 4"
unfoldable pub swap_gain : ℕ → ℕ → ℕ → ℕ → ℤ
swap_gain va vb vc vd = pos 2 *ℤ (pos va +ℤ pos vb -ℤ pos vc -ℤ pos vd) -ℤ pos 4

-- the gain where the diagonal from c to d takes the place of the edge from a to b
abbrev pub gain_in : List Quad → ℕ → ℕ → ℕ → ℕ → ℤ
gain_in S a b c d = swap_gain (valence S a) (valence S b) (valence S c) (valence S d)

-- a pass's state: the quads now, which of them are barred, the swaps so far
pub record State : Type 0 where
  pub quads : List Quad
  pub barred : List Bool
  pub count : ℕ

-- The part of the rule that reads the points: quads i and j of the quads now, their six corners, the diagonal k,
-- and whether the gain is more than 0. "The new shape is no less than the smaller of the old and 0.25", and where
-- the gain is 0 "the least shape rises by 0.02 or more".
abbrev pub Fits : Type 0
Fits = List Quad → ℕ → ℕ → Hex → ℕ → Bool → Bool

-- the least gain of a swap: "regularize needs more than 0"
abbrev pub regularize_gain : ℕ
regularize_gain = 1

-- "improve_layout also takes 0"
abbrev pub improve_gain : ℕ
improve_gain = 0

-- A pass over the quads S0, each swap of which gains at least least_gain.
module _ (S0 : List Quad) (labels : List ℕ) (least_gain : ℕ) (fits : Fits) where
  -- May the diagonal from c to d take the place of the edge from a to b? "The new diagonal may not be an edge of
  -- the map".
  abbrev pub may : List Quad → ℕ → ℕ → Hex → ℕ → ℕ → ℕ → ℕ → ℕ → Bool
  may S i j h k a b c d =
      not (is_edge S0 c d) && le_z (pos least_gain) (gain_in S a b c d)
      && fits S i j h k (lt_z (pos 0) (gain_in S a b c d))

  -- the swap of quads i and j, read from their shared edge on: both unbarred, "running opposite ways", "The six
  -- corners must differ and the labels agree". "A swap bars every quad at its six corners for that pass."
  abbrev pub swap_quads : State → ℕ → ℕ → Quad → Quad → Option State
  swap_quads st i j (quad q0 q1 q2 q3) (quad r0 r1 r2 r3) =
      cond (not (get_or st.barred i true) && not (get_or st.barred j true)
      && eqb (get_or labels i 8) (get_or labels j 8) && eqb r1 q0 && eqb r0 q1 && six_differ q0 r2 r3 q1 q2 q3)
      (choose (may S i j h 1 q0 q1 r2 q2) (may S i j h 2 q0 q1 r3 q3)
      (lt_z (gain_in S q0 q1 r2 q2) (gain_in S q0 q1 r3 q3))
      (record { quads = swap_one S i j q0 r2 r3 q1 q2 q3; barred = bars; count = suc st.count })
      (record { quads = swap_two S i j q0 r2 r3 q1 q2 q3; barred = bars; count = suc st.count }))
      none
    where
      S : List Quad
      S = st.quads

      h : Hex
      h = hex q0 r2 r3 q1 q2 q3

      bars : List Bool
      bars = bar_list S0 st.barred (λ q. meets q q0 r2 r3 q1 q2 q3)

  -- "Only an edge of exactly two unbarred quads running opposite ways is tried."
  abbrev pub try_places : State → List Place → Option State
  try_places st [] = none
  try_places st (x ∷ []) = none
  try_places st (x ∷ y ∷ []) =
      swap_quads st x.quad_no y.quad_no (turn x.side_no (get_or st.quads x.quad_no none_quad))
      (turn y.side_no (get_or st.quads y.quad_no none_quad))
  try_places st (x ∷ y ∷ z ∷ l) = none

  -- the swap at an edge, if the rule takes one: "The edge map is that of the pass's start; valences are kept up to
  -- date."
  abbrev pub try_edge : State → Pair → Option State
  try_edge st p = try_places st (places p 0 S0)

  -- the edges of a list, one after the other
  abbrev pub sweep : State → List Pair → State
  sweep st [] = st
  sweep st (p ∷ l) = sweep (take_or st (try_edge st p)) l

-- ---- passes

-- the state at the start of a pass
abbrev pub fresh : List Quad → State
fresh S = record { quads = S; barred = replicate (length S) false; count = 0 }

-- one pass over a sheet of n points: "Edges go in ascending order of (smaller, larger) point number."
unfoldable pub swap_pass : ℕ → List ℕ → ℕ → Fits → List Quad → State
swap_pass n labels least_gain fits S = sweep S labels least_gain fits (fresh S) (edges_of n S)

-- at most k passes: the quads that are left, and "the swaps made in all its passes"
abbrev pub swap_run : ℕ → List ℕ → ℕ → Fits → ℕ → List Quad → RunEnd (List Quad)
swap_run n labels least_gain fits k S =
    run (λ T. (swap_pass n labels least_gain fits T).count) (λ T. (swap_pass n labels least_gain fits T).quads) k S 0

-- "No swap is left if, on the sheet left with nothing barred, no edge meets regularize's rule with what that call
-- brought"
unfoldable pub NoSwap : ℕ → List ℕ → ℕ → Fits → List Quad → Type 0
NoSwap n labels least_gain fits S =
    (a b : ℕ) → a < b → b < n → 0 < side S a b + side S b a
    → try_edge S labels least_gain fits (fresh S) (pair a b) ≡ none

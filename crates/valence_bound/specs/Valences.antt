-- What document 02, Point 5 says of the valences that a pass of swaps keeps: "prove that in no call does a stored
-- valence pass 1,048,576". At the end of every step of a pass what is stored for a point is its valence in the quads.
use Rattle.std.specs.Prelude.{ℕ, ◌+◌, ◌-◌, ◌≤◌, ◌≡◌, List, ◌∷◌, length, take, replicate}
use Rattle.setting.specs.Settings.{Setting}
use Rattle.rule_sheet.specs.Quads.{Quad, quad, valence}
use Rattle.rule_sheet.specs.Edges.{edges_of}
use Rattle.rule_sheet.specs.Sheet.{Sheet}
use Rattle.rule_sheet.specs.Lent.{Lent, Work, held, limit}
use Rattle.rule_sheet.specs.Outcomes.{RunEnd, gives}
use Rattle.rule_admission.specs.Admission.{admits}
use Rattle.rule_regularize.specs.Swaps.{State, fresh, sweep, regularize_gain, improve_gain}
use Rattle.rule_regularize.specs.SwapFits.{swap_fits}
use Rattle.rule_regularize.specs.Rule.{swap_sheet, regularize_rule, improve_rule}
use Rattle.cases.specs.Cases.{unit_box, lent_sheet, work_for, patch, hexagon}
use Rattle.rule_sheet.specs.Verdicts.{Accepted}

-- ---- the states of a call

-- the quads with which a call's pass behind j passes starts
abbrev pub start_of : ℕ → Setting → Sheet → ℕ → List Quad
start_of least_gain s t j = (swap_sheet least_gain s j t).left.quads

-- the state of that pass once its first i edges were tried
abbrev pub state_in : ℕ → Setting → Sheet → ℕ → ℕ → State
state_in least_gain s t j i =
    let S = start_of least_gain s t j in
    sweep S t.labels least_gain (swap_fits s t.points t.labels) (fresh S)
    (take i (edges_of (length t.points) S))

-- these are the states of a call: once all edges of a pass were tried, the quads are those with which the next starts
unfoldable pub EveryPass : Type 0
EveryPass = (least_gain : ℕ) (s : Setting) (t : Sheet) (j : ℕ)
    → (state_in least_gain s t j (length (edges_of (length t.points) (start_of least_gain s t j)))).quads
    ≡ start_of least_gain s t (j + 1)

-- ---- no valence passes the number

-- in no pass and after no swap, at no point
abbrev pub NonePasses : ℕ → Setting → Sheet → Type 0
NonePasses least_gain s t = (j i v : ℕ) → valence (state_in least_gain s t j i).quads v ≤ limit

-- "in no call": of every call of both operations that is not refused, whatever it is lent and brings
pub record EveryCall : Type 0 where
  pub regularize : (s : Setting) (k : ℕ) (x : Lent) (w : Work) (e : RunEnd Sheet) → regularize_rule s k x w ≡ gives e
      → NonePasses regularize_gain s (held x)
  pub improve : (s : Setting) (k : ℕ) (x : Lent) (w : Work) (e : RunEnd Sheet) → improve_rule s k x w ≡ gives e
      → NonePasses improve_gain s (held x)

-- ---- and it is reached

-- Two quads along the edge from 0 to 1, and k more that have 0, 1, 2 and 4 for corners. All quads but the first are at
-- the point 2, and all of them once the diagonal from 2 to 3 has taken the place of that edge.
unfoldable pub crowded : ℕ → Sheet
crowded k = patch hexagon (quad 0 1 3 5 ∷ quad 1 0 2 4 ∷ replicate k (quad 0 2 1 4))

-- a call of `regularize` on the sheet t is accepted, and the first edge that it tries makes the valence of v rise to n
pub record Reaches (t : Sheet) (v n : ℕ) : Type 0 where
  pub accepted : admits unit_box (lent_sheet t) (work_for t) ≡ Accepted
  pub before : valence (state_in regularize_gain unit_box (held (lent_sheet t)) 0 0).quads v + 1 ≡ n
  pub after : valence (state_in regularize_gain unit_box (held (lent_sheet t)) 0 1).quads v ≡ n

-- so 1,048,576 is the least number that none passes
unfoldable pub BoundReached : Type 0
BoundReached = Reaches (crowded (limit - 2)) 2 limit

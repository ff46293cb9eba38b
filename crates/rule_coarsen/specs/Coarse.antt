-- The passes of `coarsen` as functions of a sheet. Document 01, "The merged sheet". What the rule reads of the
-- points, and the position of a merged point, are parameters.
use Rattle.std.specs.Prelude.{ℕ, zero, suc, ◌+◌, ◌*◌, ◌-◌, Bool, true, false, cond, ◌&&◌, ◌||◌, not, List, [], ◌∷◌, map}
use Rattle.std.specs.Prelude.{eqb, leb, ltb, ℤ, pos, ◌-ℤ◌, length, get_or, set, replicate}
use Rattle.std.proofs.Math.Option.{Option, none}
use Rattle.std.specs.Int.Signed.{le_z, lt_z}
use Rattle.lists.specs.Every.{every}
use Rattle.points.specs.declared.Point.{Point}
use Rattle.rule_sheet.specs.Quads.{Quad, quad, sum, uses, valence, is_edge, has_label}
use Rattle.rule_sheet.specs.Sheet.{Sheet}
use Rattle.rule_sheet.specs.Squared.{sq}
use Rattle.rule_sheet.specs.Outcomes.{RunEnd}
use Rattle.rule_passes.specs.Runs.{run}
use Rattle.rule_passes.specs.Choices.{none_quad, choose, take_or}
use Rattle.rule_coarsen.specs.Merges.{Slot, out, slot, live, live_labels, merged, order, renumber, gathered}

-- a quad has the corner v
abbrev pub has_corner : Quad → ℕ → Bool
has_corner q v = ltb 0 (uses v q)

-- a pass's state: the quads now, the barred points, the points now, the merges so far
pub record MergeState : Type 0 where
  pub slots : List Slot
  pub used : List Bool
  pub points : List Point
  pub count : ℕ

-- the points from number i on that were barred or pass a test
abbrev pub mark : List Bool → (ℕ → Bool) → ℕ → List Bool
mark [] f i = []
mark (b ∷ bs) f i = (b || f i) ∷ mark bs f (suc i)

-- v is a corner of a quad at a or c: "A merge bars every corner of all quads at either point for that pass"
abbrev pub near : List Quad → ℕ → ℕ → ℕ → Bool
near S a c v = ltb 0 (sum (λ q. cond (has_corner q a || has_corner q c) (uses v q) 0) S)

-- The part of the rule that reads the points: the points and the quads now, the quad f, its corners a and c. The
-- projection of the halfway point is not refused, and "No other quad at either, measured with the new position,
-- falls below the smaller of its old shape and 0.25."
abbrev pub MergeFits : Type 0
MergeFits = List Point → List Slot → ℕ → ℕ → ℕ → Bool

-- the position of the merged point, by the points now and the corners a and c
abbrev pub Position : Type 0
Position = List Point → ℕ → ℕ → Point

-- What the rule asks of the n points and the quads S0 at a pass's start.
module _ (n : ℕ) (S0 : List Quad) (labels : List ℕ) where
  -- "The joined mask has no opposite pair and equals one of the two."
  abbrev pub masks_join : ℕ → ℕ → Bool
  masks_join a c =
      every (λ j. not ((has_label S0 labels a (2 * j) || has_label S0 labels c (2 * j))
      && (has_label S0 labels a (2 * j + 1) || has_label S0 labels c (2 * j + 1)))) 4
      && (every (λ l. not (has_label S0 labels c l) || has_label S0 labels a l) 8
      || every (λ l. not (has_label S0 labels a l) || has_label S0 labels c l) 8)

  -- "(quads minus 4) squared added over the quad's four corners before"
  abbrev pub sum_before : ℕ → ℕ → ℕ → ℕ → ℕ
  sum_before a b c d = sq (valence S0 a) + (sq (valence S0 b) + (sq (valence S0 c) + sq (valence S0 d)))

  -- "the same over the merged point (the quads of both, minus 2) and the other two corners (one quad less each) after"
  abbrev pub sum_after : ℕ → ℕ → ℕ → ℕ → ℕ
  sum_after a b c d = sq (valence S0 a + valence S0 c - 2) + (sq (valence S0 b - 1) + sq (valence S0 d - 1))

  -- "Gain here is the fall in demand 3's sum": the sum before, "less the same" after
  unfoldable pub merge_gain : ℕ → ℕ → ℕ → ℕ → ℤ
  merge_gain a b c d = pos (sum_before a b c d) -ℤ pos (sum_after a b c d)

  -- "The merged points share only the other two corners as neighbours"
  abbrev pub share_only : ℕ → ℕ → ℕ → ℕ → Bool
  share_only a b c d = every (λ x. eqb x b || eqb x d || not (is_edge S0 a x) || not (is_edge S0 c x)) n

  -- "and no further quad"
  abbrev pub no_further : ℕ → ℕ → ℕ → Bool
  no_further f a c =
      every (λ j. eqb j f || not (has_corner (get_or S0 j none_quad) a && has_corner (get_or S0 j none_quad) c))
      (length S0)

  -- not "a diagonal where a quad at either end has one", a barred corner
  abbrev pub near_free : List Bool → ℕ → ℕ → Bool
  near_free used a c = every (λ v. not (near S0 a c v && get_or used v true)) n

-- A pass over them.
module _ (n : ℕ) (S0 : List Quad) (labels : List ℕ) (fits : MergeFits) (position : Position) where
  -- May the corners a and c of quad f = (a, b, c, d) be merged? "Both other corners need at least 4 quads each"; "a
  -- gain of 0 is enough".
  abbrev pub may_merge : MergeState → ℕ → ℕ → ℕ → ℕ → ℕ → Bool
  may_merge st f a b c d =
      masks_join n S0 labels a c && leb 4 (valence S0 b) && leb 4 (valence S0 d) && share_only n S0 labels a b c d
      && no_further n S0 labels f a c && near_free n S0 labels st.used a c
      && le_z (pos 0) (merge_gain n S0 labels a b c d) && fits st.points st.slots f a c

  -- the state after the merge of the corners a and c of quad f
  abbrev pub merged_state : MergeState → ℕ → ℕ → ℕ → MergeState
  merged_state st f a c = record {
    slots = merged st.slots f a c;
    used = mark st.used (near S0 a c) 0;
    points = set st.points a (position st.points a c);
    count = suc st.count;
  }

  -- the merge in quad f, if the rule takes one: "a quad with a barred corner is not tried"; "diagonal k = 0 then 1;
  -- the higher gain wins, the first on a tie"
  abbrev pub try_face : MergeState → ℕ → Slot → Option MergeState
  try_face st f out = none
  try_face st f (slot (quad q0 q1 q2 q3)) =
      cond (not (get_or st.used q0 true) && not (get_or st.used q1 true) && not (get_or st.used q2 true)
      && not (get_or st.used q3 true))
      (choose (may_merge st f q0 q1 q2 q3) (may_merge st f q1 q2 q3 q0)
      (lt_z (merge_gain n S0 labels q0 q1 q2 q3) (merge_gain n S0 labels q1 q2 q3 q0))
      (merged_state st f q0 q2) (merged_state st f q1 q3))
      none

  -- k quads from quad f on: "Quads in order"
  abbrev pub visit : ℕ → ℕ → MergeState → MergeState
  visit zero f st = st
  visit (suc k) f st = visit k (suc f) (take_or st (try_face st f (get_or st.slots f out)))

-- ---- passes

-- the state at the start of a pass
abbrev pub fresh_merge : Sheet → MergeState
fresh_merge s =
    record { slots = map slot s.quads; used = replicate (length s.points) false; points = s.points; count = 0 }

-- one pass; the parameters may read the sheet at its start
unfoldable pub merge_pass : (Sheet → MergeFits) → (Sheet → Position) → Sheet → MergeState
merge_pass fits position s =
    visit (length s.points) s.quads s.labels (fits s) (position s) (length s.quads) 0 (fresh_merge s)

-- the sheet of the slots S and the points ps: the quads that are still here, their labels, and the points in the
-- order of their first use
abbrev pub compact : List Slot → List ℕ → List Point → Sheet
compact S labels ps =
    record { points = gathered ps (order (live S)); quads = renumber (live S); labels = live_labels S labels }

-- the sheet after a pass that merged
abbrev pub next_sheet : (Sheet → MergeState) → Sheet → Sheet
next_sheet step s = compact (step s).slots s.labels (step s).points

-- at most k passes: the sheet that is left, and the merges made in all of them
abbrev pub coarse_run : (Sheet → MergeFits) → (Sheet → Position) → ℕ → Sheet → RunEnd Sheet
coarse_run fits position k s =
    run (λ t. (merge_pass fits position t).count) (next_sheet (merge_pass fits position)) k s 0

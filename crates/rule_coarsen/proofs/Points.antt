-- The points of a pass of merges: as many as before, and finite if they were. Assumes nothing.
use mathlib.Core.Path.{◌≡◌, refl, ◌∙◌, subst}
use mathlib.Core.Logic.{◌⊎◌, inl, inr}
use mathlib.Core.Option.{Option, none, some}
use mathlib.Core.Bool.{Bool, true, not, ◌&&◌}
use Prim.Native.Nat.{ℕ, zero, suc, ◌<◌}
use mathlib.Core.List.{List, [], ◌∷◌}
use native.Mathlib.Omega.{arith}
use lib.Dec.{leb}
use lib.IntN.{pos}
use lib.ListN.{length, get_or, set, length-set}
use lib.Signed.{le_z, lt_z}
use Rattle.lists.proofs.Every.{and_left, and_right}
use Rattle.points.specs.declared.Point.{Point}
use Rattle.points.specs.Points.{finite_p, origin}
use Rattle.rule_sheet.specs.Quads.{Quad, quad, is, sum, all, valence}
use Rattle.rule_sheet.specs.Sheet.{Sheet}
use Rattle.rule_sheet.proofs.All.{all-get}
use Rattle.rule_passes.specs.Choices.{choose, take_or}
use Rattle.rule_sheet.proofs.Base.{is-self}
use Rattle.rule_passes.proofs.Choices.{none-some, cond-some, choose-some}
use Rattle.rule_coarsen.specs.Merges.{Slot, out, slot, gathered}
use Rattle.rule_coarsen.specs.Coarse.{MergeState, MergeFits, Position, masks_join, share_only, no_further, near_free, merge_gain, may_merge, merged_state, try_face, visit, fresh_merge, merge_pass}

-- ---- a test of every element

module _ {A : Type 0} (p : A → Bool) where
  pub all-put : (l : List A) (i : ℕ) (x : A) → all p l ≡ true → p x ≡ true → all p (set l i x) ≡ true
  all-put [] i x e h = refl
  all-put (y ∷ l) zero x e h = rw (h, and_right (p y) (all p l) e) refl
  all-put (y ∷ l) (suc i) x e h = rw (and_left (p y) (all p l) e, all-put l i x (and_right (p y) (all p l) e) h) refl

pub all-gathered : (p : Point → Bool) (ps : List Point) (l : List ℕ) → all p ps ≡ true → ((v : ℕ) → 0 < sum (is v) l → v < length ps) → all p (gathered ps l) ≡ true
all-gathered p ps [] e h = refl
all-gathered p ps (v ∷ l) e h = rw (all-get p ps v origin e (h v (omega (arith, is-self v))), all-gathered p ps l e (λ w k. h w (omega arith))) refl

-- ---- the points of a pass

module _ (n : ℕ) (S0 : List Quad) (labels : List ℕ) (fits : MergeFits) (position : Position)
    (finite : (ps : List Point) (S : List Slot) (f a c : ℕ) → all finite_p ps ≡ true → fits ps S f a c ≡ true → finite_p (position ps a c) ≡ true) where
  -- a state has n points, all of them finite
  pub record Placed (st : MergeState) : Type 0 where
    pub number : length st.points ≡ n
    pub all_finite : all finite_p st.points ≡ true

  merged-placed : (st : MergeState) (f a b c d : ℕ) → Placed st → may_merge n S0 labels fits position st f a b c d ≡ true → Placed (merged_state n S0 labels fits position st f a c)
  merged-placed st f a b c d p y = record {
    number = length-set st.points a (position st.points a c) ∙ p.number;
    all_finite = all-put finite_p st.points a (position st.points a c) p.all_finite
        (finite st.points st.slots f a c p.all_finite (and_right allowed (fits st.points st.slots f a c) y));
  }
    where
      -- what the rule asks beside `fits`
      allowed : Bool
      allowed = masks_join n S0 labels a c && leb 4 (valence S0 b) && leb 4 (valence S0 d) && share_only n S0 labels a b c d
          && no_further n S0 labels f a c && near_free n S0 labels st.used a c && le_z (pos 0) (merge_gain n S0 labels a b c d)

  face-placed : (st t : MergeState) (f : ℕ) (s : Slot) → Placed st → try_face n S0 labels fits position st f s ≡ some t → Placed t
  face-placed st t f out p e = absurd (none-some e)
  face-placed st t f (slot (quad q0 q1 q2 q3)) p e = chosen (choose-some first second gains one other t (cond-some free (choose first second gains one other) e).1)
    where
      free : Bool
      free = not (get_or st.used q0 true) && not (get_or st.used q1 true) && not (get_or st.used q2 true) && not (get_or st.used q3 true)

      first : Bool
      first = may_merge n S0 labels fits position st f q0 q1 q2 q3

      second : Bool
      second = may_merge n S0 labels fits position st f q1 q2 q3 q0

      gains : Bool
      gains = lt_z (merge_gain n S0 labels q0 q1 q2 q3) (merge_gain n S0 labels q1 q2 q3 q0)

      one : MergeState
      one = merged_state n S0 labels fits position st f q0 q2

      other : MergeState
      other = merged_state n S0 labels fits position st f q1 q3

      chosen : ((first ≡ true) × (one ≡ t)) ⊎ ((second ≡ true) × (other ≡ t)) → Placed t
      chosen (inl (y, i)) = subst Placed i (merged-placed st f q0 q1 q2 q3 p y)
      chosen (inr (y, i)) = subst Placed i (merged-placed st f q1 q2 q3 q0 p y)

  pub visit-placed : (k f : ℕ) (st : MergeState) → Placed st → Placed (visit n S0 labels fits position k f st)
  visit-placed zero f st p = p
  visit-placed (suc k) f st p = go (try_face n S0 labels fits position st f (get_or st.slots f out)) refl (λ t. visit-placed k (suc f) t)
    where
      go : (o : Option MergeState) → try_face n S0 labels fits position st f (get_or st.slots f out) ≡ o → ((t : MergeState) → Placed t → Placed (visit n S0 labels fits position k (suc f) t))
          → Placed (visit n S0 labels fits position k (suc f) (take_or st o))
      go none q ih = ih st p
      go (some t) q ih = ih t (face-placed st t f (get_or st.slots f out) p q)

-- a pass keeps the number of points, and finite points finite
pub pass-placed : (fits : Sheet → MergeFits) (position : Sheet → Position) (s : Sheet)
    → ((ps : List Point) (S : List Slot) (f a c : ℕ) → all finite_p ps ≡ true → fits s ps S f a c ≡ true → finite_p (position s ps a c) ≡ true)
    → all finite_p s.points ≡ true → (length (merge_pass fits position s).points ≡ length s.points) × (all finite_p (merge_pass fits position s).points ≡ true)
unfolding merge_pass
pass-placed fits position s finite e =
    go (visit-placed (length s.points) s.quads s.labels (fits s) (position s) finite (length s.quads) 0 (fresh_merge s) (record { number = refl; all_finite = e }))
  where
    go : Placed (length s.points) s.quads s.labels (fits s) (position s) finite (visit (length s.points) s.quads s.labels (fits s) (position s) (length s.quads) 0 (fresh_merge s))
        → (length (visit (length s.points) s.quads s.labels (fits s) (position s) (length s.quads) 0 (fresh_merge s)).points ≡ length s.points)
        × (all finite_p (visit (length s.points) s.quads s.labels (fits s) (position s) (length s.quads) 0 (fresh_merge s)).points ≡ true)
    go p = (p.number, p.all_finite)

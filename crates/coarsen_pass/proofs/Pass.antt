-- A pass that counts no merge changes nothing. Assumes nothing.
use mathlib.Core.Path.{◌≡◌, refl, sym, ap, ◌∙◌}
use mathlib.Core.Logic.{⊎_elim}
use mathlib.Core.Option.{Option, none, some}
use mathlib.Core.Bool.{Bool, true, false, cond, not, ◌&&◌}
use Prim.Native.Nat.{ℕ, zero, suc, ◌≤◌}
use mathlib.Core.List.{List, map}
use native.Mathlib.Omega.{arith}
use lib.Ieee.{Float}
use lib.ListN.{length, get_or, length-map}
use lib.Signed.{lt_z}
use Rattle.band.specs.declared.Band.{Band}
use Rattle.lists.proofs.Laws.{is-table}
use Rattle.rule_sheet.specs.Quads.{Quad, quad}
use Rattle.rule_sheet.specs.Flat.{quad_at, quads_of}
use Rattle.rule_sheet.specs.Sheet.{Sheet, points_of}
use Rattle.rule_passes.specs.Choices.{none_quad, choose, take_or}
use Rattle.rule_passes.proofs.Choices.{none-some, cond-some, choose-some}
use Rattle.rule_coarsen.specs.Merges.{Slot, out, slot}
use Rattle.rule_coarsen.specs.Coarse.{MergeState, MergeFits, Position, merge_gain, may_merge, merged_state, try_face, visit, fresh_merge, merge_pass}
use Rattle.rule_coarsen.proofs.MergePass.{slot-inj}
use Rattle.rule_coarsen.specs.Invariants.{slots_of}
use Rattle.coarsen_merge.specs.Steps.{unmarked}
use Rattle.coarsen_merge.specs.Regions.{removed_in}
use Rattle.rule_coarsen.proofs.Slots.{slot-get, length-slots, slot-at}
use Rattle.rule_coarsen.specs.MergeFits.{merge_fits, merge_position}
use Rattle.coarsen_pass.specs.Steps.{band_pass}
use Rattle.coarsen_pass.specs.Conditions.{MergePassLeaves}

-- ---- visits count what they take

module _ (n : ℕ) (S0 : List Quad) (labels : List ℕ) (fits : MergeFits) (position : Position) where
  -- a merge is counted
  face-counted : (st t : MergeState) (f : ℕ) (x : Slot) → try_face n S0 labels fits position st f x ≡ some t → t.count ≡ suc st.count
  face-counted st t f out e = absurd (none-some e)
  face-counted st t f (slot (quad q0 q1 q2 q3)) e =
      let x = merged_state n S0 labels fits position st f q0 q2 in
      let y = merged_state n S0 labels fits position st f q1 q3 in
      let free = not (get_or st.used q0 true) && not (get_or st.used q1 true) && not (get_or st.used q2 true) && not (get_or st.used q3 true) in
      let may = may_merge n S0 labels fits position st f q0 q1 q2 q3 in
      let other = may_merge n S0 labels fits position st f q1 q2 q3 q0 in
      let more = lt_z (merge_gain n S0 labels q0 q1 q2 q3) (merge_gain n S0 labels q1 q2 q3 q0) in
      ⊎_elim (λ h. ap (λ (s : MergeState). s.count) (sym h.1)) (λ h. ap (λ (s : MergeState). s.count) (sym h.1))
      (choose-some may other more x y t (cond-some free (choose may other more x y) e).1)

  -- the count does not fall
  visit-grows : (k f : ℕ) (st : MergeState) → st.count ≤ (visit n S0 labels fits position k f st).count
  visit-grows zero f st = omega arith
  visit-grows (suc k) f st = go (try_face n S0 labels fits position st f (get_or st.slots f out)) refl (visit-grows k (suc f))
    where
      go : (o : Option MergeState) → try_face n S0 labels fits position st f (get_or st.slots f out) ≡ o → ((t : MergeState) → t.count ≤ (visit n S0 labels fits position k (suc f) t).count)
          → st.count ≤ (visit n S0 labels fits position k (suc f) (take_or st o)).count
      go none e ih = ih st
      go (some t) e ih = omega (arith, ih t, face-counted st t f (get_or st.slots f out) e)

  -- where it stays, nothing is taken
  visit-none : (k f : ℕ) (st : MergeState) → (visit n S0 labels fits position k f st).count ≡ st.count → visit n S0 labels fits position k f st ≡ st
  visit-none zero f st c = refl
  visit-none (suc k) f st c = go (try_face n S0 labels fits position st f (get_or st.slots f out)) refl c (visit-none k (suc f) st)
    where
      go : (o : Option MergeState) → try_face n S0 labels fits position st f (get_or st.slots f out) ≡ o → (visit n S0 labels fits position k (suc f) (take_or st o)).count ≡ st.count
          → ((visit n S0 labels fits position k (suc f) st).count ≡ st.count → visit n S0 labels fits position k (suc f) st ≡ st)
          → visit n S0 labels fits position k (suc f) (take_or st o) ≡ st
      go none e h ih = ih h
      go (some t) e h ih = absurd (omega (arith, visit-grows k (suc f) t, face-counted st t f (get_or st.slots f out) e))

-- ---- a pass

-- a pass that counts 0 leaves the state of its start
pub pass-none : (b : Band) (s : Sheet) → (band_pass b s).count ≡ 0 → band_pass b s ≡ fresh_merge s
unfolding band_pass merge_pass
pass-none b s e = visit-none (length s.points) s.quads s.labels (merge_fits b s) (merge_position b s) (length s.quads) 0 (fresh_merge s) e

-- a slot that is here has its quad
here-quad : (x : Bool) (q r : Quad) → cond x (slot q) out ≡ slot r → q ≡ r
here-quad true q r e = slot-inj q r e
here-quad false q r e = cc

-- and in the slices the points and the quads of the sheet
module _ {b : Band} {np nq r : ℕ} {s : Sheet} {P : List Float} {Q w : List ℕ} (R : MergePassLeaves b np nq s r P Q w) (e : r ≡ 0) where
  start_left : band_pass b s ≡ fresh_merge s
  start_left = pass-none b s (sym R.count ∙ e)

  slots-left : slots_of nq Q (removed_in np nq w) ≡ map slot s.quads
  slots-left = R.slots ∙ ap (λ (t : MergeState). t.slots) start_left

  as_many : length s.quads ≡ nq
  as_many = sym (length-map s.quads slot) ∙ (sym (ap length slots-left) ∙ length-slots nq Q (removed_in np nq w))

  quads-left : quads_of nq Q ≡ s.quads
  unfolding quads_of
  quads-left = sym (is-table none_quad s.quads (quad_at Q) nq as_many (λ q h. sym (here-quad (unmarked (removed_in np nq w) q) (quad_at Q q) (get_or s.quads q none_quad)
      (sym (slot-get nq Q (removed_in np nq w) q h) ∙ (ap (λ (l : List Slot). get_or l q out) slots-left ∙ slot-at s.quads q (rw as_many h))))))

  pub passed_none : (points_of np P ≡ s.points) × (quads_of nq Q ≡ s.quads)
  passed_none = (R.points ∙ ap (λ (t : MergeState). t.points) start_left, quads-left)

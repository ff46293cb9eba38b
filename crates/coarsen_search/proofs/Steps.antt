-- The visit of a quad leaves the state that the rule leaves, and what a pass keeps. Assumes nothing.
use mathlib.Core.Path.{◌≡◌, refl, sym, ap, ◌∙◌, subst}
use mathlib.Core.Logic.{◌⊎◌, inl, inr, ⊎_elim}
use mathlib.Core.Option.{Option, none}
use mathlib.Core.Bool.{Bool, true, false, cond, ◌&&◌, false≢true}
use Prim.Native.Nat.{ℕ, suc, ◌+◌, ◌-◌, ◌*◌, ◌≤◌, ◌<◌}
use mathlib.Core.List.{List, []}
use native.Mathlib.Omega.{arith}
use native.Mathlib.Nat.{add-zero}
use native.Mathlib.Numerals.{add-one}
use lib.Dec.{eqb, ltb}
use lib.Ieee.{Float}
use lib.ListN.{length, get_or, take, length-set}
use Rattle.lists.specs.Every.{some}
use Rattle.lists.specs.Regions.{Out, Kept}
use Rattle.lists.proofs.Every.{and_left, and_right}
use Rattle.lists.proofs.Laws.{get_or-tab, length-tab}
use Rattle.lists.proofs.Regions.{part-kept, part-get, part_of, kept_refl, kept_then, kept_less}
use Rattle.points.specs.declared.Point.{Point}
use Rattle.points.specs.Steps.{with_point}
use Rattle.band.specs.declared.Band.{Band}
use Rattle.band.specs.Bands.{length_of}
use Rattle.rule_sheet.specs.Quads.{uses, valence, mask_of}
use Rattle.rule_sheet.specs.Flat.{corner, quad_at, quads_of}
use Rattle.sheet.specs.Edges.{point_corners}
use Rattle.rule_sheet.specs.Sheet.{points_of}
use Rattle.sheet.proofs.Flat.{length-quads}
use Rattle.sheet.proofs.Masks.{pack-lt}
use Rattle.incidence.specs.Corners.{Cornered}
use Rattle.incidence.proofs.Marks.{uses-at}
use Rattle.rule_sheet.specs.Claims.{Below, Differ}
use Rattle.rule_passes.specs.Choices.{none_quad, choose, take_or}
use Rattle.rule_sheet.proofs.Sums.{sum-at}
use Rattle.rule_coarsen.specs.Merges.{out, slot}
use Rattle.rule_coarsen.specs.Coarse.{MergeState, merged_state, try_face}
use Rattle.rule_coarsen.specs.Invariants.{MInv, Used, slot_at, slots_of}
use Rattle.rule_coarsen.proofs.Visits.{face-step}
use Rattle.rule_coarsen.specs.MergeFits.{merge_fits, merge_position}
use Rattle.coarsen_merge.specs.Steps.{unmarked, quad_free, used_of, state_of}
use Rattle.coarsen_bars.specs.Steps.{is_at, renamed_at, renamed_quads}
use borrow.Rule.Slice.PartMut.{mid_of}
use Rattle.coarsen_merge.specs.Regions.{used_at, removed_at, touched_at, ended_at, used_in, removed_in, Steady}
use Rattle.pass_map.specs.Regions.{was_in, start_in}
use Rattle.coarsen_merge.specs.Conditions.{StartHolds}
use Rattle.coarsen_bars.specs.Conditions.{MergeAsks, MergeLeaves}
use Rattle.coarsen_merge.proofs.Around.{quad-get, free-corner}
use Rattle.coarsen_bars.proofs.Bars.{touched-as}
use Rattle.coarsen_merge.proofs.Start.{lent-used, was-steady, start-kept}
use Rattle.coarsen_bars.proofs.States.{stands, state-merged}
use Rattle.rule_coarsen.proofs.Slots.{slot-get}
use Rattle.coarsen_search.specs.declared.Candidate.{Candidate}
use Rattle.std.specs.Prelude.{None, Some}
use Rattle.coarsen_search.specs.Steps.{Choice, diagonal_of, better_of, found_to, fits_in, position_in, visited, state_in, visits_from, tried_in}
use Rattle.coarsen_search.specs.Conditions.{SearchAsks, MergePassHolds, VisitLeaves, VisitAllLeaves, TakeAsks, TakeLeaves}
use Rattle.coarsen_search.proofs.Rule.{mask_at, rule_candidate, may_at, applied, found-is, face-is, face-barred}

-- ---- the corners of a tried quad

module _ (np nq f p : ℕ) (labels Q w : List ℕ) (R : MergePassHolds np nq labels p Q w) (f< : f < nq) where
  corner< : (j : ℕ) → j < 4 → corner Q f j < np
  corner< j h = R.sheet.points (4 * f + j) (omega arith)

  module _ (t : tried_in np nq f Q w ≡ true) where
    here : unmarked (removed_in np nq w) f ≡ true
    unfolding tried_in
    here = and_left _ _ t

    free : quad_free Q (used_in np nq w) f ≡ true
    unfolding tried_in
    free = and_right (unmarked (removed_in np nq w) f) _ t

    -- it stands as at the start
    was : quad_at Q f ≡ quad_at (was_in np nq w) f
    was = stands np nq (was_in np nq w) Q (removed_in np nq w) (used_in np nq w) (corner Q f 0) f R.inv (corner< 0 (omega arith)) (free-corner Q (used_in np nq w) f 0 free (omega arith)) f< here (inl (uses-at Q f (corner Q f 0) 0 (omega arith) refl))

    some-quad : (j : ℕ) → j < 4 → 1 ≤ valence (start_in np nq w) (corner Q f j)
    some-quad j h =
        let u : 0 < uses (corner Q f j) (quad_at (was_in np nq w) f) = subst (λ q. 0 < uses (corner Q f j) q) was (uses-at Q f (corner Q f j) j h refl) in
        let s = sum-at (uses (corner Q f j)) (start_in np nq w) f none_quad (rw (length-quads nq (was_in np nq w)) f<) in
        omega (arith, s, u, ap (uses (corner Q f j)) (quad-get nq (was_in np nq w) f f<))

    small : (j : ℕ) → j < 4 → get_or w (corner Q f j) 0 < 256
    unfolding mask_of
    small j h = rw (mask_at np nq (take nq labels) w (corner Q f j) R.masked (corner< j h)) (pack-lt _)

    pub searching-of : SearchAsks np nq f Q w
    unfolding diagonal_of
    searching-of = record {
      f< = f<;
      first = record {
        face = record { a< = corner< 0 (omega arith); b< = corner< 1 (omega arith); c< = corner< 2 (omega arith); d< = corner< 3 (omega arith); at_a = some-quad 0 (omega arith); at_b = some-quad 1 (omega arith); at_c = some-quad 2 (omega arith); at_d = some-quad 3 (omega arith) };
        mask_a = small 0 (omega arith);
        mask_c = small 2 (omega arith);
      };
      second = record {
        face = record { a< = corner< 1 (omega arith); b< = corner< 2 (omega arith); c< = corner< 3 (omega arith); d< = corner< 0 (omega arith); at_a = some-quad 1 (omega arith); at_b = some-quad 2 (omega arith); at_c = some-quad 3 (omega arith); at_d = some-quad 0 (omega arith) };
        mask_a = small 1 (omega arith);
        mask_c = small 3 (omega arith);
      };
    }

-- ---- the test

pub tried-is : {np nq f : ℕ} {w : List ℕ} (Q : List ℕ) (m : ℕ) (r : Bool) → StartHolds np nq w → f < nq → m ≡ get_or w (removed_at np nq + f) 0
    → r ≡ quad_free Q (mid_of (used_at np nq) (used_at np nq + np - used_at np nq) w) f → (eqb m 0 && r) ≡ tried_in np nq f Q w
unfolding tried_in
tried-is {np} {nq} {f} {w} Q m r G h e g =
    let R = part_of (removed_at np nq) nq w (omega (arith, G.map.work.long)) in
    rw (e, part-get 0 f R h, g, lent-used np nq w) refl

-- ---- the two cases of a choice

pub takeable-at : (np nq f p q : ℕ) (x : Choice) (m : Candidate) → x ≡ Some m → TakeAsks np nq f x p q → MergeAsks np nq f m.a m.c p q
takeable-at np nq f p q x m e h = subst (λ y. TakeAsks np nq f y p q) e h

pub taken_none : (np nq f : ℕ) (x : Choice) (P : List Float) (Q w : List ℕ) → x ≡ None → TakeLeaves np nq f x 0 P Q w P Q w
taken_none np nq f x P Q w e = subst (λ y. TakeLeaves np nq f y 0 P Q w P Q w) (sym e) (record { none = refl; points = refl; quads = refl; work = refl })

pub taken_made : (np nq f : ℕ) (x : Choice) (m : Candidate) (P : List Float) (Q w : List ℕ) (P' : List Float) (Q' w' : List ℕ) → x ≡ Some m → P' ≡ with_point P m.a m.to → MergeLeaves np nq f m.a m.c Q w Q' w'
    → TakeLeaves np nq f x 1 P Q w P' Q' w'
taken_made np nq f x m P Q w P' Q' w' e d j = subst (λ y. TakeLeaves np nq f y 1 P Q w P' Q' w') (sym e) (record { one = refl; points = d; joined = j })

-- ---- the choice in a quad

take-inj : (x y : Candidate) → Some x ≡ Some y → x ≡ y
take-inj x y e = cc

-- what is chosen is one of two candidates
one_of : (m n : Bool) (x y z : Candidate) → cond n (better_of (cond m (better_of None x) None) y) (cond m (better_of None x) None) ≡ Some z → (x ≡ z) ⊎ (y ≡ z)
unfolding better_of
one_of true true x y z e = go (ltb x.gain y.gain) e
  where
    go : (k : Bool) → cond k (Some y) (Some x) ≡ Some z → (x ≡ z) ⊎ (y ≡ z)
    go true e = inr (take-inj y z e)
    go false e = inl (take-inj x z e)
one_of true false x y z e = inl (take-inj x z e)
one_of false true x y z e = inr (take-inj y z e)
one_of false false x y z e = absurd (none-take z e)
  where
    is_take : Choice → Bool
    is_take None = false
    is_take (Some x) = true

    none-take : (z : Candidate) → None ≡ Some z → ⊥
    none-take z e = false≢true (ap is_take e)

-- a chosen merge: its corners are opposite corners of the quad, and it lands where the rule says
pub record Chosen (b : Band) (np nq f : ℕ) (P : List Float) (labels Q w : List ℕ) (z : Candidate) : Type 0 where
  pub j : ℕ
  pub j< : j < 2
  pub a_is : z.a ≡ corner Q f j
  pub c_is : z.c ≡ corner Q f (j + 2)
  pub to_is : position_in b np nq labels w (points_of np P) z.a z.c ≡ z.to

module _ (b : Band) (np nq f : ℕ) (P : List Float) (labels Q w : List ℕ) (R : MergePassHolds np nq labels (length P) Q w) (f< : f < nq) (t : tried_in np nq f Q w ≡ true) where
  corners< : (j : ℕ) → j < 4 → corner Q f j < np
  corners< = corner< np nq f (length P) labels Q w R f<

  pub chosen_of : (z : Candidate) → found_to np nq b (length_of b) P Q labels w f 2 ≡ Some z → Chosen b np nq f P labels Q w z
  unfolding diagonal_of
  chosen_of z e = ⊎_elim
      (λ (h : rule_candidate np nq b P labels w R.start R.masked R.labelled (slots_of nq Q (removed_in np nq w)) 0 (diagonal_of Q f 0) ≡ z).
      record { j = 0; j< = omega arith; a_is = ap (λ x. x.a) (sym h); c_is = ap (λ x. x.c) (sym h); to_is = subst (λ x. position_in b np nq labels w (points_of np P) x.a x.c ≡ x.to) h refl })
      (λ (h : rule_candidate np nq b P labels w R.start R.masked R.labelled (slots_of nq Q (removed_in np nq w)) 0 (diagonal_of Q f 1) ≡ z).
      record { j = 1; j< = omega arith; a_is = ap (λ x. x.a) (sym h); c_is = ap (λ x. x.c) (sym h); to_is = subst (λ x. position_in b np nq labels w (points_of np P) x.a x.c ≡ x.to) h refl })
      (one_of (may_at np nq b P labels w R.start R.masked R.labelled (slots_of nq Q (removed_in np nq w)) 0 (diagonal_of Q f 0)) (may_at np nq b P labels w R.start R.masked R.labelled (slots_of nq Q (removed_in np nq w)) 0 (diagonal_of Q f 1)) _ _ z (sym (found-is np nq b P labels w R.start R.masked R.labelled (slots_of nq Q (removed_in np nq w)) 0 Q f (corners< 0 (omega arith)) (corners< 1 (omega arith)) (corners< 2 (omega arith)) (corners< 3 (omega arith))) ∙ e))

  pub takeable-of : (x : Choice) → x ≡ found_to np nq b (length_of b) P Q labels w f 2 → TakeAsks np nq f x (length P) (length Q)
  takeable-of None e = tt
  takeable-of (Some z) e =
      let C = chosen_of z (sym e) in
      let j< = C.j< in
      record {
        f< = f<;
        a< = rw C.a_is (corners< C.j (omega arith));
        c< = rw C.c_is (corners< (C.j + 2) (omega arith));
        points = R.points;
        quads = R.sheet.quads;
      }

-- ---- what a visit leaves

-- the quads after the new name have points as corners
renamed-cornered : (np nq c a : ℕ) (Q0 Q R : List ℕ) → Cornered np nq Q → a < np → R ≡ renamed_quads Q0 nq c a Q → Cornered np nq R
unfolding renamed_quads
renamed-cornered np nq c a Q0 Q R C h e = record {
  few = C.few;
  quads = rw (e, length-tab (renamed_at (point_corners Q0 nq c) Q a (length (point_corners Q0 nq c))) (length Q)) C.quads;
  points = λ x l. rw (e, get_or-tab (renamed_at (point_corners Q0 nq c) Q a (length (point_corners Q0 nq c))) (length Q) x 0 (omega (arith, C.quads))) (pick (some (is_at (point_corners Q0 nq c) x) (length (point_corners Q0 nq c))) (C.points x l));
}
  where
    pick : (b : Bool) {k : ℕ} → k < np → cond b a k < np
    pick true l = h
    pick false l = l

length-renamed : (Q0 Q : List ℕ) (nq c a : ℕ) → length (renamed_quads Q0 nq c a Q) ≡ length Q
unfolding renamed_quads
length-renamed Q0 Q nq c a = length-tab (renamed_at (point_corners Q0 nq c) Q a (length (point_corners Q0 nq c))) (length Q)

length-put : (P : List Float) (i : ℕ) (p : Point) → length (with_point P i p) ≡ length P
unfolding with_point
length-put P i p = simp length-set refl

-- the one of two that is there
abbrev just_now : MergeState → Option MergeState
just_now s = choose true false false s s

-- a step of the rule keeps the pass's invariant
inv-after : (b : Band) (np nq f : ℕ) (P : List Float) (labels Q w : List ℕ) → MergePassHolds np nq labels (length P) Q w → (P' : List Float) (Q' w' : List ℕ) (s : MergeState)
    → try_face np (start_in np nq w) (take nq labels) (fits_in b np nq labels w) (position_in b np nq labels w) (state_in np nq P Q w 0) f (get_or (state_in np nq P Q w 0).slots f out) ≡ just_now s
    → state_in np nq P' Q' w' (0 + 1) ≡ s → MInv (start_in np nq w) (slots_of nq Q' (removed_in np nq w')) (Used (used_of np (used_in np nq w')))
unfolding state_of
inv-after b np nq f P labels Q w R P' Q' w' s e d = subst (λ x. MInv (start_in np nq w) x.slots (Used x.used)) (sym d)
    ((face-step np (start_in np nq w) (take nq labels) (fits_in b np nq labels w) (position_in b np nq labels w) R.low R.below (state_in np nq P Q w 0) s f (get_or (state_in np nq P Q w 0).slots f out) refl e).keeps R.differ R.inv)

module _ (b : Band) (np nq f : ℕ) (P : List Float) (labels Q w : List ℕ) (R : MergePassHolds np nq labels (length P) Q w) (f< : f < nq) where
  abbrev try_now : ℕ → Option MergeState
  try_now k = try_face np (start_in np nq w) (take nq labels) (fits_in b np nq labels w) (position_in b np nq labels w) (state_in np nq P Q w k) f (get_or (state_in np nq P Q w k).slots f out)

  cs< : (j : ℕ) → j < 4 → corner Q f j < np
  cs< = corner< np nq f (length P) labels Q w R f<

  slot_is : (k : ℕ) → get_or (state_in np nq P Q w k).slots f out ≡ slot_at Q (removed_in np nq w) f
  unfolding state_of
  slot_is k = slot-get nq Q (removed_in np nq w) f f<

  -- a quad that is not tried
  not-tried : (k : ℕ) → tried_in np nq f Q w ≡ false → try_now k ≡ none
  unfolding state_of tried_in
  not-tried k e = ap (λ s. try_face np (start_in np nq w) (take nq labels) (fits_in b np nq labels w) (position_in b np nq labels w) (state_in np nq P Q w k) f s) (slot_is k) ∙ go (unmarked (removed_in np nq w) f) refl e
    where
      go : (x : Bool) → unmarked (removed_in np nq w) f ≡ x → (x && quad_free Q (used_in np nq w) f) ≡ false
          → try_face np (start_in np nq w) (take nq labels) (fits_in b np nq labels w) (position_in b np nq labels w) (state_in np nq P Q w k) f (cond x (slot (quad_at Q f)) out) ≡ none
      go false r h = refl
      go true r h = face-barred np nq b P labels w R.start R.masked R.labelled (slots_of nq Q (removed_in np nq w)) k Q f (cs< 0 (omega arith)) (cs< 1 (omega arith)) (cs< 2 (omega arith)) (cs< 3 (omega arith)) h

  -- one that is tried
  is-tried : (k : ℕ) → tried_in np nq f Q w ≡ true
      → try_now k ≡ applied np nq b P labels w R.start R.masked R.labelled (slots_of nq Q (removed_in np nq w)) k f (state_in np nq P Q w k) (found_to np nq b (length_of b) P Q labels w f 2)
  unfolding state_of
  is-tried k t = ap (λ s. try_face np (start_in np nq w) (take nq labels) (fits_in b np nq labels w) (position_in b np nq labels w) (state_in np nq P Q w k) f s) (slot_is k ∙ ap (λ x. cond x (slot (quad_at Q f)) out) (here np nq f (length P) labels Q w R f< t))
      ∙ face-is np nq b P labels w R.start R.masked R.labelled (slots_of nq Q (removed_in np nq w)) k Q f (cs< 0 (omega arith)) (cs< 1 (omega arith)) (cs< 2 (omega arith)) (cs< 3 (omega arith)) (free np nq f (length P) labels Q w R f< t)

  pub visit-same : ((k : ℕ) → try_now k ≡ none) → VisitLeaves b np nq labels f 0 P Q w P Q w
  visit-same e = record {
    state = λ k. ap (state_in np nq P Q w) (add-zero k) ∙ sym (ap (take_or (state_in np nq P Q w k)) (e k));
    holds = R;
    kept = kept_refl _ w;
    most = omega arith;
    len_points = refl;
    len_quads = refl;
  }

  pub visit-none : tried_in np nq f Q w ≡ false → VisitLeaves b np nq labels f 0 P Q w P Q w
  visit-none e = visit-same (λ k. not-tried k e)

  pub visit-taken : tried_in np nq f Q w ≡ true → (x : Choice) (r : ℕ) (P' : List Float) (Q' w' : List ℕ) → x ≡ found_to np nq b (length_of b) P Q labels w f 2 → TakeLeaves np nq f x r P Q w P' Q' w'
      → VisitLeaves b np nq labels f r P Q w P' Q' w'
  visit-taken t None r P' Q' w' e S =
      rw (S.none, S.points, S.quads, S.work) (visit-same (λ k. is-tried k t ∙ ap (applied np nq b P labels w R.start R.masked R.labelled (slots_of nq Q (removed_in np nq w)) k f (state_in np nq P Q w k)) (sym e)))
  visit-taken t (Some z) r P' Q' w' e M =
      let J = M.joined in
      record {
        state = λ k. ap (λ (x : ℕ). state_in np nq P' Q' w' (k + x)) M.one ∙ (same k ∙ sym (ap (take_or (state_in np nq P Q w k)) (took k)));
        holds = record {
          start = start-kept R.start J.kept;
          touched = J.touched;
          masked = rw start-same (part-kept R.masked J.kept (λ i p q. omega arith));
          labelled = R.labelled;
          points = rw long R.points;
          sheet = renamed-cornered np nq z.c z.a (was_in np nq w) Q Q' R.sheet T.a< J.quads;
          low = R.low;
          below = subst (λ s. Below np s) (sym start-same) R.below;
          differ = subst (λ s. (j : ℕ) → j < length s → Differ (get_or s j none_quad)) (sym start-same) R.differ;
          inv = subst (λ s. MInv s (slots_of nq Q' (removed_in np nq w')) (Used (used_of np (used_in np nq w')))) (sym start-same) inv-now;
        };
        kept = J.kept;
        most = omega (arith, M.one);
        len_points = long;
        len_quads = ap length J.quads ∙ length-renamed (was_in np nq w) Q nq z.c z.a;
      }
    where
      C : Chosen b np nq f P labels Q w z
      C = chosen_of b np nq f P labels Q w R f< t z (sym e)

      T : MergeAsks np nq f z.a z.c (length P) (length Q)
      T = takeable-of b np nq f P labels Q w R f< t (Some z) e

      long : length P' ≡ length P
      long = ap length M.points ∙ length-put P z.a z.to

      start-same : start_in np nq w' ≡ start_in np nq w
      start-same = ap (quads_of nq) (was-steady R.start M.joined.kept)

      unbarred : unmarked (used_in np nq w) z.c ≡ true
      unbarred = let l = C.j< in ap (unmarked (used_in np nq w)) C.c_is ∙ free-corner Q (used_in np nq w) f (C.j + 2) (free np nq f (length P) labels Q w R f< t) (omega arith)

      same : (k : ℕ) → state_in np nq P' Q' w' (k + 1) ≡ merged_state np (start_in np nq w) (take nq labels) (fits_in b np nq labels w) (position_in b np nq labels w) (state_in np nq P Q w k) f z.a z.c
      same k = state-merged np nq f z.a z.c k P P' Q w Q' w' (take nq labels) (fits_in b np nq labels w) (position_in b np nq labels w) z.to R.start T R.inv unbarred C.to_is M.points M.joined

      took : (k : ℕ) → try_now k ≡ applied np nq b P labels w R.start R.masked R.labelled (slots_of nq Q (removed_in np nq w)) k f (state_in np nq P Q w k) (Some z)
      took k = is-tried k t ∙ ap (applied np nq b P labels w R.start R.masked R.labelled (slots_of nq Q (removed_in np nq w)) k f (state_in np nq P Q w k)) (sym e)

      inv-now : MInv (start_in np nq w) (slots_of nq Q' (removed_in np nq w')) (Used (used_of np (used_in np nq w')))
      inv-now = inv-after b np nq f P labels Q w R P' Q' w' (merged_state np (start_in np nq w) (take nq labels) (fits_in b np nq labels w) (position_in b np nq labels w) (state_in np nq P Q w 0) f z.a z.c) (took 0) (same 0)

-- ---- where the walks ended

used-noted : {np nq : ℕ} {v w : List ℕ} → StartHolds np nq v → Kept (Out (ended_at np nq) np) v w → used_in np nq w ≡ used_in np nq v
used-noted {np} {nq} {v} {w} G K = let r = G.map.work.long in (part-kept (part_of (used_at np nq) np v (omega arith)) K (λ i a b c d. omega arith)).is

removed-noted : {np nq : ℕ} {v w : List ℕ} → StartHolds np nq v → Kept (Out (ended_at np nq) np) v w → removed_in np nq w ≡ removed_in np nq v
removed-noted {np} {nq} {v} {w} G K = let r = G.map.work.long in (part-kept (part_of (removed_at np nq) nq v (omega arith)) K (λ i a b c d. omega arith)).is

-- no region that a pass reads
pub only-ended : (np nq : ℕ) {v w : List ℕ} → Kept (Out (ended_at np nq) np) v w → Kept (Steady np nq) v w
only-ended np nq K = kept_less K (λ i o a b. omega arith)

pub holds-noted : {np nq p : ℕ} {labels Q v w : List ℕ} → MergePassHolds np nq labels p Q v → Kept (Out (ended_at np nq) np) v w → MergePassHolds np nq labels p Q w
holds-noted {np} {nq} {p} {labels} {Q} {v} {w} R K =
    let r = R.start.map.work.long in
    let S = was-steady R.start (only-ended np nq K) in
    let U = used-noted R.start K in
    let D = removed-noted R.start K in
    record {
      start = start-kept R.start (only-ended np nq K);
      touched = touched-as R.touched S U (part-kept (part_of (touched_at np nq) np v (omega arith)) K (λ i a b c d. omega arith)).is;
      masked = rw S (part-kept R.masked K (λ i a b c d. omega arith));
      labelled = R.labelled;
      points = R.points;
      sheet = R.sheet;
      low = R.low;
      below = rw S R.below;
      differ = rw S R.differ;
      inv = rw (S, U, D) R.inv;
    }

-- the visit leaves the rule's state whatever is kept there
pub visit-noted : {b : Band} {np nq : ℕ} {labels : List ℕ} {f r : ℕ} {P : List Float} {Q u : List ℕ} {P' : List Float} {Q' v w : List ℕ} → VisitLeaves b np nq labels f r P Q u P' Q' v → Kept (Out (ended_at np nq) np) v w
    → VisitLeaves b np nq labels f r P Q u P' Q' w
visit-noted {b} {np} {nq} {labels} {f} {r} {P} {Q} {u} {P'} {Q'} {v} {w} F K = record {
  state = λ k. rw (used-noted F.holds.start K, removed-noted F.holds.start K) (F.state k);
  holds = holds-noted F.holds K;
  kept = kept_then F.kept (only-ended np nq K) (λ i o. (o, o));
  most = F.most;
  len_points = F.len_points;
  len_quads = F.len_quads;
}

-- the search by the length of the band
pub by_length : (b : Band) (np nq f : ℕ) (P : List Float) (labels Q w : List ℕ) (len : Float) (x : Choice) → len ≡ length_of b → x ≡ found_to np nq b len P Q labels w f 2 → x ≡ found_to np nq b (length_of b) P Q labels w f 2
by_length b np nq f P labels Q w len x e h = h ∙ ap (λ l. found_to np nq b l P Q labels w f 2) e

-- ---- the quads in order: P0, Q0 and w0 are the slices as they came

pub record Visiting (b : Band) (np nq : ℕ) (labels : List ℕ) (P0 : List Float) (Q0 w0 : List ℕ) (P : List Float) (Q w : List ℕ) (f count : ℕ) : Type 0 where
  pub most : count ≤ f
  pub holds : MergePassHolds np nq labels (length P) Q w
  pub kept : Kept (Steady np nq) w0 w
  pub state : (k : ℕ) → visits_from b np nq labels w0 (nq - f) f (state_in np nq P Q w (k + count)) ≡ visits_from b np nq labels w0 nq 0 (state_in np nq P0 Q0 w0 k)
  pub len_points : length P ≡ length P0
  pub len_quads : length Q ≡ length Q0

sub-zero : (n : ℕ) → n - 0 ≡ n
sub-zero n = omega arith

pub visiting-start : {np nq : ℕ} {labels : List ℕ} (b : Band) (P : List Float) (Q w : List ℕ) → MergePassHolds np nq labels (length P) Q w → Visiting b np nq labels P Q w P Q w 0 0
visiting-start {np} {nq} {labels} b P Q w R = record {
  most = omega arith;
  holds = R;
  kept = kept_refl (Steady np nq) w;
  state = λ k. ap (λ (x : ℕ). visits_from b np nq labels w x 0 (state_in np nq P Q w (k + 0))) (sub-zero nq) ∙ ap (λ (x : ℕ). visits_from b np nq labels w nq 0 (state_in np nq P Q w x)) (add-zero k);
  len_points = refl;
  len_quads = refl;
}

pub visiting-turn : {b : Band} {np nq : ℕ} {labels : List ℕ} {P0 : List Float} {Q0 w0 : List ℕ} {P : List Float} {Q w : List ℕ} {f count r : ℕ} {P' : List Float} {Q' w' : List ℕ} → StartHolds np nq w0
    → Visiting b np nq labels P0 Q0 w0 P Q w f count → f < nq → VisitLeaves b np nq labels f r P Q w P' Q' w' → Visiting b np nq labels P0 Q0 w0 P' Q' w' (f + 1) (count + r)
visiting-turn {b} {np} {nq} {labels} {P0} {Q0} {w0} {P} {Q} {w} {f} {count} {r} {P'} {Q'} {w'} G I h F = record {
  most = omega (arith, I.most, F.most);
  holds = F.holds;
  kept = kept_then I.kept F.kept (λ i o. (o, o));
  state = λ k. moved k ∙ I.state k;
  len_points = F.len_points ∙ I.len_points;
  len_quads = F.len_quads ∙ I.len_quads;
}
  where
    same : start_in np nq w ≡ start_in np nq w0
    same = ap (quads_of nq) (was-steady G I.kept)

    less : (n f : ℕ) → f < n → n - f ≡ suc (n - (f + 1))
    less n f h = omega arith

    sums : (k : ℕ) → k + (count + r) ≡ k + count + r
    sums k = omega arith

    moved : (k : ℕ) → visits_from b np nq labels w0 (nq - (f + 1)) (f + 1) (state_in np nq P' Q' w' (k + (count + r))) ≡ visits_from b np nq labels w0 (nq - f) f (state_in np nq P Q w (k + count))
    moved k = ap (λ (x : ℕ). visits_from b np nq labels w0 (nq - (f + 1)) (f + 1) (state_in np nq P' Q' w' x)) (sums k)
        ∙ (ap (visits_from b np nq labels w0 (nq - (f + 1)) (f + 1)) (F.state (k + count)
        ∙ ap (λ S. take_or (state_in np nq P Q w (k + count)) (try_face np S (take nq labels) (merge_fits b (record { points = []; quads = S; labels = take nq labels })) (merge_position b (record { points = []; quads = S; labels = take nq labels })) (state_in np nq P Q w (k + count)) f (get_or (state_in np nq P Q w (k + count)).slots f out))) same)
        ∙ (ap (λ (x : ℕ). visits_from b np nq labels w0 (nq - (f + 1)) x (visited b np nq labels w0 f (state_in np nq P Q w (k + count)))) (add-one f)
        ∙ sym (ap (λ (x : ℕ). visits_from b np nq labels w0 x f (state_in np nq P Q w (k + count))) (less nq f h))))

pub visiting-end : {b : Band} {np nq : ℕ} {labels : List ℕ} {P0 : List Float} {Q0 w0 : List ℕ} {P : List Float} {Q w : List ℕ} {f count : ℕ} → Visiting b np nq labels P0 Q0 w0 P Q w f count → f ≡ nq
    → VisitAllLeaves b np nq labels count P0 Q0 w0 P Q w
visiting-end {b} {np} {nq} {labels} {P0} {Q0} {w0} {P} {Q} {w} {f} {count} I h = record {
  state = λ k. sym (ap (λ (x : ℕ). visits_from b np nq labels w0 x f (state_in np nq P Q w (k + count))) none) ∙ I.state k;
  holds = I.holds;
  kept = I.kept;
  most = omega (arith, I.most);
}
  where
    none : nq - f ≡ 0
    none = omega arith

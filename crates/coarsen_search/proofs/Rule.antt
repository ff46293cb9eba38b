-- What the search finds in a quad is what the rule takes there. Assumes nothing.
use mathlib.Core.Path.{◌≡◌, refl, sym, ap, ◌∙◌}
use mathlib.Core.Option.{Option, none, some}
use mathlib.Core.Bool.{Bool, true, false, cond, not, ◌&&◌}
use Prim.Native.Nat.{ℕ, ◌+◌, ◌-◌, ◌%◌, ◌≤◌, ◌<◌, max}
use mathlib.Core.List.{List}
use native.Mathlib.Omega.{arith}
use lib.Dec.{leb, ltb}
use lib.Ieee.{Float}
use lib.IntN.{ℤ}
use lib.ListN.{length, get_or, take}
use lib.Signed.{lt_z}
use Rattle.lists.proofs.Every.{and_left}
use Rattle.lists.proofs.Laws.{get_or-tab}
use Rattle.lists.proofs.Regions.{part-get}
use Rattle.points.specs.declared.Point.{Point}
use Rattle.band.specs.declared.Band.{Band}
use Rattle.band.specs.Bands.{length_of}
use Rattle.rule_sheet.specs.Quads.{valence, mask_of}
use Rattle.rule_sheet.specs.Flat.{corner, quad_at}
use Rattle.rule_sheet.specs.Sheet.{points_of}
use Rattle.sheet.specs.Sheet.{masks_of}
use Rattle.rule_passes.specs.Choices.{choose}
use Rattle.rule_coarsen.specs.Merges.{Slot, slot}
use Rattle.rule_coarsen.specs.Coarse.{MergeState, masks_join, share_only, no_further, near_free, sum_before, sum_after, merge_gain, may_merge, merged_state, try_face}
use Rattle.rule_coarsen.specs.MergeFits.{moved_to, merge_fits, merge_position}
use Rattle.rule_coarsen.proofs.Gains.{gain-enough, gain-higher}
use Rattle.coarsen_shapes.proofs.MergeFits.{merge-refused, merge-onto, position-onto, moved-to, joined-max}
use Rattle.coarsen_masks.specs.Masks.{masks_joined}
use Rattle.coarsen_merge.specs.Steps.{unmarked, quad_free, used_of, no_labels, meet_only, gain_of, worth_it, allowed_in}
use Rattle.pass_map.specs.Regions.{was_in, start_in}
use Rattle.coarsen_merge.specs.Regions.{used_in}
use Rattle.coarsen_merge.specs.Conditions.{StartHolds, Masked}
use Rattle.coarsen_merge.proofs.Masks.{masks-join}
use Rattle.coarsen_merge.proofs.Around.{used-get}
use Rattle.coarsen_search.specs.declared.Candidate.{Candidate}
use Rattle.coarsen_search.specs.declared.Diagonal.{Diagonal}
use Rattle.coarsen_search.proofs.Choices.{allowed-gains, allowed-joins}
use Rattle.std.specs.Prelude.{None, Some, Option as Landing}
use Rattle.coarsen_search.specs.Steps.{Choice, diagonal_of, better_of, landing_of, stay_around, weighed_of, after_landing, after_diagonal, found_to, start_sheet, fits_in, position_in}

zero-add : (v : ℕ) → v ≡ 0 + v
zero-add v = omega arith

-- the mask of v, as it stands
pub mask_at : (np nq : ℕ) (labels w : List ℕ) (v : ℕ) → Masked np nq labels w → v < np → get_or w v 0 ≡ mask_of (start_in np nq w) labels v
unfolding masks_of
mask_at np nq labels w v M h = ap (λ (x : ℕ). get_or w x 0) (zero-add v) ∙ part-get 0 v M h ∙ get_or-tab (mask_of (start_in np nq w) labels) np v 0 h

-- the tests in another order
arrange : (m x y s f n g t : Bool) → (((m && x && y && g) && ((s && f) && n)) && t) ≡ (m && x && y && s && f && n && g && t)
arrange false x y s f n g t = refl
arrange true false y s f n g t = refl
arrange true true false s f n g t = refl
arrange true true true s f n true t = ap (λ b. b && t) (sym (and-true' (s && f && n)))
  where
    and-true' : (b : Bool) → (b && true) ≡ b
    and-true' true = refl
    and-true' false = refl
arrange true true true s f n false t = ap (λ b. b && t) (sym (and-false' (s && f && n)))
  where
    and-false' : (b : Bool) → (b && false) ≡ false
    and-false' true = refl
    and-false' false = refl

-- which gains more matters only where both may be taken
choose-same : {A : Type 0} (a b c d : Bool) (x y : A) → (a ≡ true → b ≡ true → c ≡ d) → choose a b c x y ≡ choose a b d x y
choose-same true true c d x y e = ap (λ z. choose true true z x y) (e refl refl)
choose-same true false c d x y e = refl
choose-same false true c d x y e = refl
choose-same false false c d x y e = refl

weighed-is : (np nq : ℕ) (g : Diagonal) (b : Band) (P : List Float) (labels w : List ℕ) (best : Choice) (p : Point) (x : Bool)
    → (stay_around np nq g b.field (length_of b) p P labels w g.a && stay_around np nq g b.field (length_of b) p P labels w g.c) ≡ x
    → weighed_of np nq g b.field (length_of b) p P labels w best
    ≡ cond x (better_of best (record { gain = sum_before np (start_in np nq w) (take nq labels) g.a g.b g.c g.d - sum_after np (start_in np nq w) (take nq labels) g.a g.b g.c g.d; a = g.a; c = g.c; to = p })) best
unfolding weighed_of gain_of
weighed-is np nq g b P labels w best p x e = rw e refl

module _ (np nq : ℕ) (b : Band) (P : List Float) (labels w : List ℕ) (G : StartHolds np nq w) (M : Masked np nq (take nq labels) w) (long : nq ≤ length labels)
    (S : List Slot) (k : ℕ) where
  pub may-is : (f a e c d : ℕ) → a < np → c < np
      → (allowed_in np nq f a e c d w && merge_fits b (start_sheet np nq labels w) (points_of np P) S f a c) ≡ may_merge np (start_in np nq w) (take nq labels) (fits_in b np nq labels w) (position_in b np nq labels w) (record { slots = S; used = used_of np (used_in np nq w); points = points_of np P; count = k }) f a e c d
  unfolding allowed_in worth_it meet_only
  may-is f a e c d ha hc = rw (mask_at np nq (take nq labels) w a M ha, mask_at np nq (take nq labels) w c M hc, masks-join np (start_in np nq w) (take nq labels) a c, gain-enough np (start_in np nq w) (take nq labels) a e c d)
      (arrange (masks_join np (start_in np nq w) (take nq labels) a c) (leb 4 (valence (start_in np nq w) e)) (leb 4 (valence (start_in np nq w) d)) (share_only np (start_in np nq w) no_labels a e c d) (no_further np (start_in np nq w) no_labels f a c)
      (near_free np (start_in np nq w) no_labels (used_of np (used_in np nq w)) a c) (leb (sum_after np (start_in np nq w) no_labels a e c d) (sum_before np (start_in np nq w) no_labels a e c d)) (merge_fits b (start_sheet np nq labels w) (points_of np P) S f a c))

  -- an allowed diagonal lands where the rule projects to
  lands : (g : Diagonal) → g.a < np → g.c < np → allowed_in np nq g.face g.a g.b g.c g.d w ≡ true
      → landing_of g b (length_of b) P w ≡ moved_to b (start_sheet np nq labels w) (points_of np P) g.a g.c
  unfolding landing_of
  lands g ha hc e = moved-to b (start_sheet np nq labels w) np P g.a g.c (max (get_or w g.a 0) (get_or w g.c 0)) ha hc
      (rw (mask_at np nq (take nq labels) w g.a M ha, mask_at np nq (take nq labels) w g.c M hc) (sym (joined-max np (start_in np nq w) (take nq labels) g.a g.c (joins g.face g.a g.b g.c g.d ha hc e))))
    where
      joins : (f a e c d : ℕ) → a < np → c < np → allowed_in np nq f a e c d w ≡ true → masks_join np (start_in np nq w) (take nq labels) a c ≡ true
      joins f a e c d ha hc h = sym (masks-join np (start_in np nq w) (take nq labels) a c) ∙ (ap (λ m. masks_joined m (mask_of (start_in np nq w) (take nq labels) c)) (sym (mask_at np nq (take nq labels) w a M ha))
          ∙ (ap (λ m. masks_joined (get_or w a 0) m) (sym (mask_at np nq (take nq labels) w c M hc)) ∙ allowed-joins np nq f a e c d w h))

  -- the candidate that the rule has
  abbrev pub rule_candidate : Diagonal → Candidate
  rule_candidate g = record {
    gain = sum_before np (start_in np nq w) (take nq labels) g.a g.b g.c g.d - sum_after np (start_in np nq w) (take nq labels) g.a g.b g.c g.d;
    a = g.a;
    c = g.c;
    to = merge_position b (start_sheet np nq labels w) (points_of np P) g.a g.c;
  }

  abbrev pub may_at : Diagonal → Bool
  may_at g = may_merge np (start_in np nq w) (take nq labels) (fits_in b np nq labels w) (position_in b np nq labels w) (record { slots = S; used = used_of np (used_in np nq w); points = points_of np P; count = k }) g.face g.a g.b g.c g.d

  -- the gain of a diagonal; of two that may be merged it tells the better as the differences of the sums do
  abbrev gain_at : Diagonal → ℤ
  gain_at g = merge_gain np (start_in np nq w) (take nq labels) g.a g.b g.c g.d

  gains : (g : Diagonal) → g.a < np → g.c < np → may_at g ≡ true → sum_after np (start_in np nq w) (take nq labels) g.a g.b g.c g.d ≤ sum_before np (start_in np nq w) (take nq labels) g.a g.b g.c g.d
  unfolding gain_of
  gains g ha hc y = allowed-gains np nq g.face g.a g.b g.c g.d w
      (and_left _ (merge_fits b (start_sheet np nq labels w) (points_of np P) S g.face g.a g.c) (may-is g.face g.a g.b g.c g.d ha hc ∙ y))

  higher : (g h : Diagonal) → g.a < np → g.c < np → h.a < np → h.c < np → may_at g ≡ true → may_at h ≡ true → lt_z (gain_at g) (gain_at h) ≡ ltb (rule_candidate g).gain (rule_candidate h).gain
  higher g h ga gc ha hc p q = gain-higher np (start_in np nq w) (take nq labels) g.a g.b g.c g.d h.a h.b h.c h.d (gains g ga gc p) (gains h ha hc q)

  diagonal-is : (g : Diagonal) (best : Choice) → g.a < np → g.c < np
      → after_diagonal np nq g b (length_of b) P labels w best ≡ cond (may_at g) (better_of best (rule_candidate g)) best
  unfolding after_diagonal
  diagonal-is g best ha hc = go (allowed_in np nq g.face g.a g.b g.c g.d w) refl
    where
      may : (allowed_in np nq g.face g.a g.b g.c g.d w && merge_fits b (start_sheet np nq labels w) (points_of np P) S g.face g.a g.c) ≡ may_at g
      may = may-is g.face g.a g.b g.c g.d ha hc

      passed : may_at g ≡ false → best ≡ cond (may_at g) (better_of best (rule_candidate g)) best
      passed m = sym (ap (λ x. cond x (better_of best (rule_candidate g)) best) m)

      taken : (p : Point) → allowed_in np nq g.face g.a g.b g.c g.d w ≡ true → moved_to b (start_sheet np nq labels w) (points_of np P) g.a g.c ≡ Some p
          → weighed_of np nq g b.field (length_of b) p P labels w best ≡ cond (may_at g) (better_of best (rule_candidate g)) best
      taken p e h = weighed-is np nq g b P labels w best p (merge_fits b (start_sheet np nq labels w) (points_of np P) S g.face g.a g.c)
          (merge-onto b np nq nq P (was_in np nq w) labels (start_sheet np nq labels w) S g.face g.a g.c p G.map.points.sheet (omega arith) refl refl h)
          ∙ (ap (λ x. cond x (better_of best (record { gain = sum_before np (start_in np nq w) (take nq labels) g.a g.b g.c g.d - sum_after np (start_in np nq w) (take nq labels) g.a g.b g.c g.d; a = g.a; c = g.c; to = p })) best)
          (sym (ap (λ x. x && merge_fits b (start_sheet np nq labels w) (points_of np P) S g.face g.a g.c) e) ∙ may)
          ∙ ap (λ q. cond (may_at g) (better_of best (record { gain = sum_before np (start_in np nq w) (take nq labels) g.a g.b g.c g.d - sum_after np (start_in np nq w) (take nq labels) g.a g.b g.c g.d; a = g.a; c = g.c; to = q })) best)
          (sym (position-onto b (start_sheet np nq labels w) (points_of np P) g.a g.c p h)))

      moved : (m : Landing Point) → allowed_in np nq g.face g.a g.b g.c g.d w ≡ true → moved_to b (start_sheet np nq labels w) (points_of np P) g.a g.c ≡ m
          → after_landing np nq g b.field (length_of b) P labels w best (landing_of g b (length_of b) P w) ≡ cond (may_at g) (better_of best (rule_candidate g)) best
      moved None e h = ap (after_landing np nq g b.field (length_of b) P labels w best) (lands g ha hc e ∙ h) ∙ passed (sym may ∙ rw (e, merge-refused b (start_sheet np nq labels w) (points_of np P) S g.face g.a g.c h) refl)
      moved (Some p) e h = ap (after_landing np nq g b.field (length_of b) P labels w best) (lands g ha hc e ∙ h) ∙ taken p e h

      go : (x : Bool) → allowed_in np nq g.face g.a g.b g.c g.d w ≡ x
          → cond x (after_landing np nq g b.field (length_of b) P labels w best (landing_of g b (length_of b) P w)) best ≡ cond (may_at g) (better_of best (rule_candidate g)) best
      go false e = passed (sym may ∙ rw e refl)
      go true e = moved (moved_to b (start_sheet np nq labels w) (points_of np P) g.a g.c) e refl

  -- the state that a choice leads to
  abbrev pub applied : ℕ → MergeState → Choice → Option MergeState
  applied f st None = none
  applied f st (Some x) = some (merged_state np (start_in np nq w) (take nq labels) (fits_in b np nq labels w) (position_in b np nq labels w) st f x.a x.c)

  -- the choice of the rule is what was found
  chosen_is : (f : ℕ) (st : MergeState) (m n : Bool) (x y : Candidate) → applied f st (cond n (better_of (cond m (better_of None x) None) y) (cond m (better_of None x) None))
      ≡ choose m n (ltb x.gain y.gain) (merged_state np (start_in np nq w) (take nq labels) (fits_in b np nq labels w) (position_in b np nq labels w) st f x.a x.c)
      (merged_state np (start_in np nq w) (take nq labels) (fits_in b np nq labels w) (position_in b np nq labels w) st f y.a y.c)
  unfolding better_of
  chosen_is f st true true x y = go (ltb x.gain y.gain)
    where
      go : (z : Bool) → applied f st (cond z (Some y) (Some x)) ≡ choose true true z (merged_state np (start_in np nq w) (take nq labels) (fits_in b np nq labels w) (position_in b np nq labels w) st f x.a x.c)
          (merged_state np (start_in np nq w) (take nq labels) (fits_in b np nq labels w) (position_in b np nq labels w) st f y.a y.c)
      go true = refl
      go false = refl
  chosen_is f st true false x y = refl
  chosen_is f st false true x y = refl
  chosen_is f st false false x y = refl

  -- what is found after both diagonals
  pub found-is : (Q : List ℕ) (f : ℕ) → corner Q f 0 < np → corner Q f 1 < np → corner Q f 2 < np → corner Q f 3 < np
      → found_to np nq b (length_of b) P Q labels w f 2
      ≡ cond (may_at (diagonal_of Q f 1)) (better_of (cond (may_at (diagonal_of Q f 0)) (better_of None (rule_candidate (diagonal_of Q f 0))) None) (rule_candidate (diagonal_of Q f 1)))
      (cond (may_at (diagonal_of Q f 0)) (better_of None (rule_candidate (diagonal_of Q f 0))) None)
  unfolding found_to diagonal_of
  found-is Q f h0 h1 h2 h3 =
      diagonal-is (diagonal_of Q f 1) (after_diagonal np nq (diagonal_of Q f 0) b (length_of b) P labels w None) h1 h3
      ∙ ap (λ best. cond (may_at (diagonal_of Q f 1)) (better_of best (rule_candidate (diagonal_of Q f 1))) best) (diagonal-is (diagonal_of Q f 0) None h0 h2)

  not-used : (v : ℕ) → v < np → not (get_or (used_of np (used_in np nq w)) v true) ≡ unmarked (used_in np nq w) v
  not-used v h = ap not (used-get np (used_in np nq w) v h) ∙ not-not (unmarked (used_in np nq w) v)
    where
      not-not : (x : Bool) → not (not x) ≡ x
      not-not true = refl
      not-not false = refl

  -- the rule's test of the corners
  free-same : (Q : List ℕ) (f : ℕ) → corner Q f 0 < np → corner Q f 1 < np → corner Q f 2 < np → corner Q f 3 < np
      → (not (get_or (used_of np (used_in np nq w)) (corner Q f 0) true) && not (get_or (used_of np (used_in np nq w)) (corner Q f 1) true) && not (get_or (used_of np (used_in np nq w)) (corner Q f 2) true) && not (get_or (used_of np (used_in np nq w)) (corner Q f 3) true))
      ≡ quad_free Q (used_in np nq w) f
  unfolding quad_free
  free-same Q f h0 h1 h2 h3 = rw (not-used (corner Q f 0) h0, not-used (corner Q f 1) h1, not-used (corner Q f 2) h2, not-used (corner Q f 3) h3) refl

  -- so the rule takes it in a free quad
  pub face-is : (Q : List ℕ) (f : ℕ) → corner Q f 0 < np → corner Q f 1 < np → corner Q f 2 < np → corner Q f 3 < np → quad_free Q (used_in np nq w) f ≡ true
      → try_face np (start_in np nq w) (take nq labels) (fits_in b np nq labels w) (position_in b np nq labels w) (record { slots = S; used = used_of np (used_in np nq w); points = points_of np P; count = k }) f (slot (quad_at Q f))
      ≡ applied f (record { slots = S; used = used_of np (used_in np nq w); points = points_of np P; count = k }) (found_to np nq b (length_of b) P Q labels w f 2)
  unfolding diagonal_of
  face-is Q f h0 h1 h2 h3 e =
      ap (λ x. cond x (choose (may_at (diagonal_of Q f 0)) (may_at (diagonal_of Q f 1)) (lt_z (gain_at (diagonal_of Q f 0)) (gain_at (diagonal_of Q f 1)))
      (merged_state np (start_in np nq w) (take nq labels) (fits_in b np nq labels w) (position_in b np nq labels w) st f (corner Q f 0) (corner Q f 2))
      (merged_state np (start_in np nq w) (take nq labels) (fits_in b np nq labels w) (position_in b np nq labels w) st f (corner Q f 1) (corner Q f 3))) none) (free-same Q f h0 h1 h2 h3 ∙ e)
      ∙ (choose-same (may_at (diagonal_of Q f 0)) (may_at (diagonal_of Q f 1)) (lt_z (gain_at (diagonal_of Q f 0)) (gain_at (diagonal_of Q f 1))) (ltb (rule_candidate (diagonal_of Q f 0)).gain (rule_candidate (diagonal_of Q f 1)).gain) _ _
      (higher (diagonal_of Q f 0) (diagonal_of Q f 1) h0 h2 h1 h3)
      ∙ sym (chosen_is f st (may_at (diagonal_of Q f 0)) (may_at (diagonal_of Q f 1)) (rule_candidate (diagonal_of Q f 0)) (rule_candidate (diagonal_of Q f 1)))
      ∙ ap (applied f st) (sym (found-is Q f h0 h1 h2 h3)))
    where
      st : MergeState
      st = record { slots = S; used = used_of np (used_in np nq w); points = points_of np P; count = k }

  -- a quad with a barred corner is not tried
  pub face-barred : (Q : List ℕ) (f : ℕ) → corner Q f 0 < np → corner Q f 1 < np → corner Q f 2 < np → corner Q f 3 < np → quad_free Q (used_in np nq w) f ≡ false
      → try_face np (start_in np nq w) (take nq labels) (fits_in b np nq labels w) (position_in b np nq labels w) (record { slots = S; used = used_of np (used_in np nq w); points = points_of np P; count = k }) f (slot (quad_at Q f)) ≡ none
  face-barred Q f h0 h1 h2 h3 e = ap (λ x. cond x (choose (may_at (diagonal_of' 0)) (may_at (diagonal_of' 1)) (lt_z (gain_at (diagonal_of' 0)) (gain_at (diagonal_of' 1)))
      (merged_state np (start_in np nq w) (take nq labels) (fits_in b np nq labels w) (position_in b np nq labels w) st f (corner Q f 0) (corner Q f 2))
      (merged_state np (start_in np nq w) (take nq labels) (fits_in b np nq labels w) (position_in b np nq labels w) st f (corner Q f 1) (corner Q f 3))) none) (free-same Q f h0 h1 h2 h3 ∙ e)
    where
      st : MergeState
      st = record { slots = S; used = used_of np (used_in np nq w); points = points_of np P; count = k }

      diagonal_of' : ℕ → Diagonal
      diagonal_of' j = record { face = f; a = corner Q f j; b = corner Q f (j + 1); c = corner Q f (j + 2); d = corner Q f ((j + 3) % 4) }

-- The passes of the rule are passes of merges. Assumes nothing.
use mathlib.Core.Path.{◌≡◌, refl, ap, sym, ◌∙◌, subst}
use mathlib.Core.Logic.{◌⊎◌, inl, inr, ◌≢◌}
use mathlib.Core.Option.{Option, none, some}
use mathlib.Core.Bool.{Bool, true, false, ◌&&◌, ◌||◌, not, cond}
use Prim.Native.Nat.{ℕ, zero, suc, ◌+◌, ◌*◌, ◌≤◌, ◌<◌}
use mathlib.Core.List.{List, [], ◌∷◌, map}
use native.Mathlib.Omega.{arith}
use native.Mathlib.Decide.{dec_lt}
use lib.Dec.{eqb, leb, ltb}
use lib.IntN.{pos}
use lib.ListN.{length, get_or, replicate}
use lib.Signed.{le_z, lt_z}
use borrow.Author.Tests.{lt-ltb, eqb-true, leb-true, ne_eqb}
use Rattle.rule_sheet.specs.Quads.{uses, is_edge, has_label, Quad, quad, is, sum, corners, at, valence, side, touches}
use Rattle.rule_sheet.specs.Sheet.{Sheet}
use Rattle.rule_sheet.specs.Claims.{Low, Below, Differ}
use Rattle.rule_passes.specs.Choices.{choose, take_or, none_quad}
use Rattle.rule_sheet.specs.Quads.{turn}
use Rattle.rule_sheet.specs.Claims.{Has}
use Rattle.rule_sheet.proofs.Sums.{sum-at}
use Rattle.rule_sheet.proofs.Weigh.{no_edge}
use Rattle.rule_passes.proofs.Choices.{choose-some, none-some, cond-some, not-true, and-true}
use Rattle.rule_sheet.proofs.Weigh.{at-point-le, is_le, side-at-end}
use Rattle.rule_coarsen.specs.Coarse.{MergeFits, Position, share_only, no_further, near_free, fresh_merge, merged_state, has_corner, MergeState, mark, near, masks_join, merge_gain, may_merge, try_face, visit, merge_pass}
use Rattle.rule_coarsen.specs.Merges.{Slot, out, slot, merged}
use Rattle.rule_coarsen.specs.Invariants.{MInv, Used}
use Rattle.rule_coarsen.proofs.MergePass.{merge-kept, minv-more}
use Rattle.rule_coarsen.proofs.Gains.{gain-enough}
use Rattle.rule_coarsen.proofs.Joins.{Mergeable, BarPoints, Merges, done, merge}
use Rattle.lists.proofs.Every.{or_split, every-at, and_left}

has-corner : (q : Quad) (v : ℕ) → Has q v → has_corner q v ≡ true
has-corner q v h = lt-ltb 0 (uses v q) h

-- no label above 7
pub high-none : (v l : ℕ) (S : List Quad) (labels : List ℕ) → Low labels → 7 < l → touches S labels v l ≡ 0
unfolding Low
high-none v l [] labels h k = refl
high-none v l (q ∷ S) [] h k = refl
high-none v l (q ∷ S) (x ∷ labels) (p, h) k = omega (arith, ap (λ b. cond b (corners (at v (λ p n. 1)) q) 0) (ne_eqb x l (λ e. omega arith)), high-none v l S labels h k)

mark-more : (us : List Bool) (f : ℕ → Bool) (i v : ℕ) → (Used us v) ⊎ (f (i + v) ≡ true) → Used (mark us f i) v
unfolding Used
mark-more [] f i v h = refl
mark-more (b ∷ us) f i zero h = go b (f i) (shift h)
  where
    shift : (b ≡ true) ⊎ (f (i + 0) ≡ true) → (b ≡ true) ⊎ (f i ≡ true)
    shift (inl h) = inl h
    shift (inr h) = inr (ap f (omega arith) ∙ h)

    go : (x y : Bool) → (x ≡ true) ⊎ (y ≡ true) → (x || y) ≡ true
    go true y h = refl
    go false true h = refl
    go false false (inl h) = h
    go false false (inr h) = h
mark-more (b ∷ us) f i (suc v) h = mark-more us f (suc i) v (shift h)
  where
    shift : (get_or us v true ≡ true) ⊎ (f (i + suc v) ≡ true) → (get_or us v true ≡ true) ⊎ (f (suc i + v) ≡ true)
    shift (inl h) = inl h
    shift (inr h) = inr (ap f (omega arith) ∙ h)

-- a corner of a quad at a or c is near
pub near_of : (S : List Quad) (a c v j : ℕ) → j < length S → Has (get_or S j none_quad) a ⊎ Has (get_or S j none_quad) c → Has (get_or S j none_quad) v → near S a c v ≡ true
near_of S a c v j l h hv = lt-ltb 0 (sum (λ q. cond (has_corner q a || has_corner q c) (uses v q) 0) S) (omega (arith, sum-at (λ q. cond (has_corner q a || has_corner q c) (uses v q) 0) S j none_quad l, ap (λ b. cond b (uses v (get_or S j none_quad)) 0) (at-either h), hv))
  where
    at-either : Has (get_or S j none_quad) a ⊎ Has (get_or S j none_quad) c → (has_corner (get_or S j none_quad) a || has_corner (get_or S j none_quad) c) ≡ true
    at-either (inl x) = rw (has-corner (get_or S j none_quad) a x) refl
    at-either (inr x) = rw (has-corner (get_or S j none_quad) c x) (go (has_corner (get_or S j none_quad) a))
      where
        go : (b : Bool) → (b || true) ≡ true
        go true = refl
        go false = refl

and8 : (a b c d e f g h : Bool) → (a && b && c && d && e && f && g && h) ≡ true → (a ≡ true) × (b ≡ true) × (c ≡ true) × (d ≡ true) × (e ≡ true) × (f ≡ true) × (g ≡ true) × (h ≡ true)
and8 a b c d e f g h k =
    let x7 = and-true (a && b && c && d && e && f && g) h k in
    let x6 = and-true (a && b && c && d && e && f) g x7.0 in
    let x5 = and-true (a && b && c && d && e) f x6.0 in
    let x4 = and-true (a && b && c && d) e x5.0 in
    let x3 = and-true (a && b && c) d x4.0 in
    let x2 = and-true (a && b) c x3.0 in
    let x1 = and-true a b x2.0 in
    (x1.0, x1.1, x2.1, x3.1, x4.1, x5.1, x6.1, x7.1)

and4 : (a b c d : Bool) → (a && b && c && d) ≡ true → (a ≡ true) × (b ≡ true) × (c ≡ true) × (d ≡ true)
and4 a b c d k =
    let x3 = and-true (a && b && c) d k in
    let x2 = and-true (a && b) c x3.0 in
    let x1 = and-true a b x2.0 in
    (x1.0, x1.1, x2.1, x3.1)

not-both : (a b : Bool) → not (a && b) ≡ true → a ≡ true → b ≡ true → ⊥
not-both a b e p q = not-true (a && b) e (rw (p, q) refl)

module _ (n : ℕ) (S0 : List Quad) (labels : List ℕ) (fits : MergeFits) (position : Position) (low : Low labels) (below : Below n S0) where
  no-far : (u x : ℕ) → n ≤ x → side S0 u x + side S0 x u ≡ 0
  unfolding Below
  no-far u x l = go (dec_lt 0 (valence S0 x))
    where
      go : Dec (0 < valence S0 x) → side S0 u x + side S0 x u ≡ 0
      go (yes h) = absurd (omega (arith, below x h))
      go (no h) = omega (arith, side-at-end S0 u x, at-point-le S0 x (λ p n. is u p) (λ p n. 1) (λ p n. is_le u p), at-point-le S0 x (λ p n. is u n) (λ p n. 1) (λ p n. is_le u n))

  mergeable : (st : MergeState) (f a b c d : ℕ) (face : Quad) (from : ℕ) → get_or st.slots f out ≡ slot face → turn from face ≡ quad a b c d
      → not (get_or st.used a true) ≡ true → not (get_or st.used b true) ≡ true → not (get_or st.used c true) ≡ true → not (get_or st.used d true) ≡ true
      → may_merge n S0 labels fits position st f a b c d ≡ true → Mergeable S0 labels st.slots (Used st.used) f a b c d
  unfolding Used
  mergeable st f a b c d face from e t ua ub uc ud y = go (and8 _ _ _ _ _ _ _ _ y)
    where
      go : (masks_join n S0 labels a c ≡ true) × (leb 4 (valence S0 b) ≡ true) × (leb 4 (valence S0 d) ≡ true) × (share_only n S0 labels a b c d ≡ true)
          × (no_further n S0 labels f a c ≡ true) × (near_free n S0 labels st.used a c ≡ true)
          × (le_z (pos 0) (merge_gain n S0 labels a b c d) ≡ true) × (fits st.points st.slots f a c ≡ true)
          → Mergeable S0 labels st.slots (λ v. get_or st.used v true ≡ true) f a b c d
      go (mj, fb, fd, sh, nm, un, ga, fi) = record {
        face = face;
        from = from;
        stands = e;
        corners_are = t;
        free_a = not-true (get_or st.used a true) ua;
        free_b = not-true (get_or st.used b true) ub;
        free_c = not-true (get_or st.used c true) uc;
        free_d = not-true (get_or st.used d true) ud;
        four_b = leb-true 4 (valence S0 b) fb;
        four_d = leb-true 4 (valence S0 d) fd;
        share = λ x nb nd. shared x nb nd (dec_lt x n);
        no_more = λ j l ne ha hc. no_more j l ne ha hc;
        masks = λ j h. joined j h (dec_lt j 4);
        gain = leb-true _ _ (sym (gain-enough n S0 labels a b c d) ∙ ga);
      }
        where
          shared : (x : ℕ) → x ≢ b → x ≢ d → Dec (x < n) → (side S0 a x + side S0 x a ≡ 0) ⊎ (side S0 c x + side S0 x c ≡ 0)
          shared x nb nd (no l) = inl (no-far a x (omega arith))
          shared x nb nd (yes l) = first (or_split (eqb x b || eqb x d || not (is_edge S0 a x)) (not (is_edge S0 c x)) (every-at (λ x. eqb x b || eqb x d || not (is_edge S0 a x) || not (is_edge S0 c x)) n x sh l))
            where
              third : (eqb x b ≡ true) ⊎ (eqb x d ≡ true) → (side S0 a x + side S0 x a ≡ 0) ⊎ (side S0 c x + side S0 x c ≡ 0)
              third (inl h) = absurd (nb (eqb-true x b h))
              third (inr h) = absurd (nd (eqb-true x d h))

              second : ((eqb x b || eqb x d) ≡ true) ⊎ (not (is_edge S0 a x) ≡ true) → (side S0 a x + side S0 x a ≡ 0) ⊎ (side S0 c x + side S0 x c ≡ 0)
              second (inr h) = inl (no_edge S0 a x h)
              second (inl h) = third (or_split (eqb x b) (eqb x d) h)

              first : ((eqb x b || eqb x d || not (is_edge S0 a x)) ≡ true) ⊎ (not (is_edge S0 c x) ≡ true) → (side S0 a x + side S0 x a ≡ 0) ⊎ (side S0 c x + side S0 x c ≡ 0)
              first (inr h) = inr (no_edge S0 c x h)
              first (inl h) = second (or_split (eqb x b || eqb x d) (not (is_edge S0 a x)) h)

          no_more : (j : ℕ) → j < length S0 → j ≢ f → Has (get_or S0 j none_quad) a → Has (get_or S0 j none_quad) c → ⊥
          no_more j l ne ha hc = two (or_split (eqb j f) (not (has_corner (get_or S0 j none_quad) a && has_corner (get_or S0 j none_quad) c)) (every-at (λ j. eqb j f || not (has_corner (get_or S0 j none_quad) a && has_corner (get_or S0 j none_quad) c)) (length S0) j nm l))
            where
              two : (eqb j f ≡ true) ⊎ (not (has_corner (get_or S0 j none_quad) a && has_corner (get_or S0 j none_quad) c) ≡ true) → ⊥
              two (inl h) = ne (eqb-true j f h)
              two (inr h) = not-both (has_corner (get_or S0 j none_quad) a) (has_corner (get_or S0 j none_quad) c) h (has-corner (get_or S0 j none_quad) a ha) (has-corner (get_or S0 j none_quad) c hc)

          joined : (j : ℕ) → 0 < touches S0 labels a (2 * j) + touches S0 labels c (2 * j) → Dec (j < 4) → touches S0 labels a (2 * j + 1) + touches S0 labels c (2 * j + 1) ≡ 0
          joined j h (no l) = omega (arith, high-none a (2 * j + 1) S0 labels low (omega arith), high-none c (2 * j + 1) S0 labels low (omega arith))
          joined j h (yes l) = sums (dec_lt 0 (touches S0 labels a (2 * j + 1) + touches S0 labels c (2 * j + 1)))
            where
              either : (x y : ℕ) → 0 < x + y → (ltb 0 x || ltb 0 y) ≡ true
              either zero y k = rw (lt-ltb 0 y (omega arith)) refl
              either (suc x) y k = rw (lt-ltb 0 (suc x) (omega arith)) refl

              apart : (j : ℕ) → Bool
              apart j = not ((has_label S0 labels a (2 * j) || has_label S0 labels c (2 * j)) && (has_label S0 labels a (2 * j + 1) || has_label S0 labels c (2 * j + 1)))

              sums : Dec (0 < touches S0 labels a (2 * j + 1) + touches S0 labels c (2 * j + 1)) → touches S0 labels a (2 * j + 1) + touches S0 labels c (2 * j + 1) ≡ 0
              sums (no k) = omega arith
              sums (yes k) = absurd (not-both _ _ (every-at apart 4 j (and_left _ _ mj) l)
                  (either (touches S0 labels a (2 * j)) (touches S0 labels c (2 * j)) h) (either (touches S0 labels a (2 * j + 1)) (touches S0 labels c (2 * j + 1)) k))

  -- a step of a pass, as Merges has it
  pub record MStep (st t : MergeState) : Type 1 where
    pub counted : t.count ≡ suc st.count
    pub keeps : ((j : ℕ) → j < length S0 → Differ (get_or S0 j none_quad)) → MInv S0 st.slots (Used st.used) → MInv S0 t.slots (Used t.used)
    pub before_it : (S' : List Slot) (c : ℕ) → Merges S0 labels t.slots (Used t.used) S' c → Merges S0 labels st.slots (Used st.used) S' (suc c)

  take-merge : (st : MergeState) (f a b c d : ℕ) (face : Quad) (from : ℕ) → get_or st.slots f out ≡ slot face → turn from face ≡ quad a b c d
      → not (get_or st.used a true) ≡ true → not (get_or st.used b true) ≡ true → not (get_or st.used c true) ≡ true → not (get_or st.used d true) ≡ true
      → may_merge n S0 labels fits position st f a b c d ≡ true → MStep st (merged_state n S0 labels fits position st f a c)
  take-merge st f a b c d face from e t ua ub uc ud y = record {
    counted = refl;
    keeps = λ fine i. minv-more S0 (merged st.slots f a c) (BarPoints S0 (Used st.used) a c) (Used (mark st.used (near S0 a c) 0)) more
        (merge-kept labels S0 st.slots (Used st.used) i fine f a b c d (mergeable st f a b c d face from e t ua ub uc ud y)).inv;
    before_it = λ S' x rest. merge f a b c d (mergeable st f a b c d face from e t ua ub uc ud y) more rest;
  }
    where
      more : (v : ℕ) → BarPoints S0 (Used st.used) a c v → Used (mark st.used (near S0 a c) 0) v
      more v (inl h) = mark-more st.used (near S0 a c) 0 v (inl h)
      more v (inr (j, l, h, hv)) = mark-more st.used (near S0 a c) 0 v (inr (ap (near S0 a c) (omega arith) ∙ near_of S0 a c v j l h hv))

  pub face-step : (st t : MergeState) (f : ℕ) (s : Slot) → get_or st.slots f out ≡ s → try_face n S0 labels fits position st f s ≡ some t → MStep st t
  face-step st t f out q e = absurd (none-some e)
  face-step st t f (slot (quad q0 q1 q2 q3)) q e = tested (cond-some _ _ e)
    where
      b1 : Bool
      b1 = may_merge n S0 labels fits position st f q0 q1 q2 q3

      b2 : Bool
      b2 = may_merge n S0 labels fits position st f q1 q2 q3 q0

      x1 : MergeState
      x1 = merged_state n S0 labels fits position st f q0 q2

      x2 : MergeState
      x2 = merged_state n S0 labels fits position st f q1 q3

      tested : ((not (get_or st.used q0 true) && not (get_or st.used q1 true) && not (get_or st.used q2 true) && not (get_or st.used q3 true)) ≡ true)
          × (choose b1 b2 (lt_z (merge_gain n S0 labels q0 q1 q2 q3) (merge_gain n S0 labels q1 q2 q3 q0)) x1 x2 ≡ some t) → MStep st t
      tested (a, c) = free (and4 _ _ _ _ a)
        where
          free : (not (get_or st.used q0 true) ≡ true) × (not (get_or st.used q1 true) ≡ true) × (not (get_or st.used q2 true) ≡ true) × (not (get_or st.used q3 true) ≡ true) → MStep st t
          free (u0, u1, u2, u3) = chosen (choose-some b1 b2 (lt_z (merge_gain n S0 labels q0 q1 q2 q3) (merge_gain n S0 labels q1 q2 q3 q0)) x1 x2 t c)
            where
              chosen : ((b1 ≡ true) × (x1 ≡ t)) ⊎ ((b2 ≡ true) × (x2 ≡ t)) → MStep st t
              chosen (inl (y, p)) = subst (λ u. MStep st u) p (take-merge st f q0 q1 q2 q3 (quad q0 q1 q2 q3) 0 q refl u0 u1 u2 u3 y)
              chosen (inr (y, p)) = subst (λ u. MStep st u) p (take-merge st f q1 q2 q3 q0 (quad q0 q1 q2 q3) 1 q refl u1 u2 u3 u0 y)

  -- the visits make merges, as many as they count
  pub record Visited (st t : MergeState) : Type 1 where
    pub number : ℕ
    pub counts : t.count ≡ st.count + number
    pub made : Merges S0 labels st.slots (Used st.used) t.slots number

  pub visit-merges : (k f : ℕ) (st : MergeState) → Visited st (visit n S0 labels fits position k f st)
  visit-merges zero f st = record { number = 0; counts = omega arith; made = done }
  visit-merges (suc k) f st = go (try_face n S0 labels fits position st f (get_or st.slots f out)) refl (λ t. visit-merges k (suc f) t)
    where
      go : (o : Option MergeState) → try_face n S0 labels fits position st f (get_or st.slots f out) ≡ o → ((t : MergeState) → Visited t (visit n S0 labels fits position k (suc f) t))
          → Visited st (visit n S0 labels fits position k (suc f) (take_or st o))
      go none q ih = ih st
      go (some t) q ih =
          let h : Visited t (visit n S0 labels fits position k (suc f) t) = ih t in
          let m : MStep st t = face-step st t f (get_or st.slots f out) refl q in
          record { number = suc h.number; counts = omega (arith, h.counts, m.counted); made = m.before_it _ h.number h.made }

-- A pass of the rule makes as many merges as it counts.
pub pass-merges : (fits : Sheet → MergeFits) (position : Sheet → Position) (s : Sheet) → Low s.labels → Below (length s.points) s.quads
    → Merges s.quads s.labels (map slot s.quads) (Used (replicate (length s.points) false)) (merge_pass fits position s).slots (merge_pass fits position s).count
unfolding merge_pass
pass-merges fits position s low below =
    go (visit-merges (length s.points) s.quads s.labels (fits s) (position s) low below (length s.quads) 0 (fresh_merge s))
  where
    T : MergeState
    T = visit (length s.points) s.quads s.labels (fits s) (position s) (length s.quads) 0 (fresh_merge s)

    go : Visited (length s.points) s.quads s.labels (fits s) (position s) low below (fresh_merge s) T
        → Merges s.quads s.labels (map slot s.quads) (Used (replicate (length s.points) false)) T.slots T.count
    go h = subst (λ c. Merges s.quads s.labels (map slot s.quads) (Used (replicate (length s.points) false)) T.slots c) (omega (arith, h.counts)) h.made

-- A merge of the slices is a merge of the state that they have. Assumes nothing.
use mathlib.Core.Path.{◌≡◌, refl, sym, ap, ◌∙◌, subst}
use mathlib.Core.Logic.{◌⊎◌, inl, inr, ⊎_elim}
use mathlib.Core.Bool.{Bool, true, false, cond, not, ◌||◌, or-true, false≢true}
use Prim.Native.Nat.{ℕ, zero, suc, ◌+◌, ◌*◌, ◌≤◌, ◌<◌}
use mathlib.Core.List.{List, [], ◌∷◌, map}
use native.Mathlib.Omega.{arith}
use native.Mathlib.Numerals.{add-one}
use lib.Dec.{eqb}
use lib.Ieee.{Float, nan}
use lib.ListN.{length, get_or, set, length-set, length-map, get_or-map}
use lib.Seq.{get_or-set_same, get_or-set_other}
use borrow.Author.Tests.{eq-eqb, eqb-true, lt-ltb, ltb-true}
use Rattle.lists.specs.Every.{some}
use Rattle.lists.specs.Sort.{tabulate, itself}
use Rattle.lists.proofs.Every.{bool_iff, or_split, some_at, some-find, and_left, and_right}
use Rattle.lists.proofs.Laws.{eq-or-ne, length-tab, get_or-tab, is-table, tab-set}
use Rattle.lists.proofs.Order.{bucket-key, in-bucket}
use Rattle.lists.proofs.Regions.{part_of, part-len}
use Rattle.points.specs.declared.Point.{Point}
use Rattle.points.specs.Points.{point_at}
use Rattle.points.specs.Steps.{with_point}
use Rattle.rule_sheet.specs.Quads.{Quad, quad, uses}
use Rattle.rule_sheet.specs.Flat.{corner, quad_at, quads_of}
use Rattle.sheet.specs.Flat.{from}
use Rattle.sheet.specs.Edges.{all_corners, point_corners}
use Rattle.rule_sheet.specs.Sheet.{points_of}
use Rattle.sheet.proofs.Flat.{length-quads}
use Rattle.incidence.proofs.Marks.{uses-at}
use Rattle.rule_passes.specs.Choices.{none_quad}
use Rattle.rule_coarsen.specs.Merges.{Slot, out, slot, rename, rename_quad, rename_slot, merged}
use Rattle.rule_coarsen.specs.Coarse.{has_corner, near, mark, MergeState, MergeFits, Position, merged_state}
use Rattle.rule_coarsen.specs.Invariants.{MInv, Used, weigh, slot_at, slots_of}
use Rattle.rule_coarsen.proofs.MergePass.{slot-inj}
use Rattle.rule_coarsen.proofs.Visits.{near_of}
use Rattle.coarsen_merge.specs.Steps.{unmarked, is_marked, used_of, state_of}
use Rattle.coarsen_bars.specs.Steps.{is_at, joins, marked_near, marked_both, renamed_at, renamed_quads}
use Rattle.rule_coarsen.proofs.Slots.{slot-get}
use Rattle.pass_map.specs.Regions.{was_in, start_in}
use Rattle.coarsen_merge.specs.Regions.{used_in, removed_in, removed_at}
use Rattle.coarsen_merge.specs.Conditions.{StartHolds}
use Rattle.coarsen_bars.specs.Conditions.{MergeAsks, MergeLeaves}
use Rattle.coarsen_merge.proofs.Around.{quad-get, used-get, near-find}

-- ---- points

put_same : (P : List Float) (a : ℕ) (p : Point) → a * 3 + 3 ≤ length P → point_at (with_point P a p) a ≡ p
unfolding point_at with_point
put_same P a p h = go _ _ _
    (get_or-set_other (set (set P (a * 3) p.x) (a * 3 + 1) p.y) (a * 3 + 2) (a * 3) p.z nan (λ e. omega arith)
    ∙ get_or-set_other (set P (a * 3) p.x) (a * 3 + 1) (a * 3) p.y nan (λ e. omega arith) ∙ get_or-set_same P (a * 3) p.x nan (omega arith))
    (get_or-set_other (set (set P (a * 3) p.x) (a * 3 + 1) p.y) (a * 3 + 2) (a * 3 + 1) p.z nan (λ e. omega arith)
    ∙ get_or-set_same (set P (a * 3) p.x) (a * 3 + 1) p.y nan (rw length-set (omega arith)))
    (get_or-set_same (set (set P (a * 3) p.x) (a * 3 + 1) p.y) (a * 3 + 2) p.z nan (rw (length-set, length-set) (omega arith)))
  where
    go : (x y z : Float) → x ≡ p.x → y ≡ p.y → z ≡ p.z → ◌≡◌ {A = Point} (record { x = x; y = y; z = z }) p
    go x y z e f g = rw (e, f, g) refl

put_other : (P : List Float) (a v : ℕ) (p : Point) → (v ≡ a → ⊥) → point_at (with_point P a p) v ≡ point_at P v
unfolding point_at with_point
put_other P a v p n = rw (apart (v * 3) (λ e. n (omega arith)) (λ e. omega arith) (λ e. omega arith), apart (v * 3 + 1) (λ e. omega arith) (λ e. n (omega arith)) (λ e. omega arith), apart (v * 3 + 2) (λ e. omega arith) (λ e. omega arith) (λ e. n (omega arith))) refl
  where
    apart : (i : ℕ) → (i ≡ a * 3 → ⊥) → (i ≡ a * 3 + 1 → ⊥) → (i ≡ a * 3 + 2 → ⊥) → get_or (set (set (set P (a * 3) p.x) (a * 3 + 1) p.y) (a * 3 + 2) p.z) i nan ≡ get_or P i nan
    apart i f g h = get_or-set_other (set (set P (a * 3) p.x) (a * 3 + 1) p.y) (a * 3 + 2) i p.z nan h ∙ get_or-set_other (set P (a * 3) p.x) (a * 3 + 1) i p.y nan g ∙ get_or-set_other P (a * 3) i p.x nan f

pub points-put : (np : ℕ) (P : List Float) (a : ℕ) (p : Point) → a < np → 3 * np ≤ length P → points_of np (with_point P a p) ≡ set (points_of np P) a p
unfolding points_of
points-put np P a p h l = sym (tab-set (point_at P) (point_at (with_point P a p)) np a p h (put_same P a p (omega arith)) (λ v _ n. put_other P a v p n))

-- ---- marks

mark-get : (us : List Bool) (f : ℕ → Bool) (i v : ℕ) → v < length us → get_or (mark us f i) v true ≡ (get_or us v true || f (i + v))
mark-get [] f i v h = absurd (omega arith)
mark-get (b ∷ us) f i zero h = ap (λ (k : ℕ). b || f k) (omega arith)
mark-get (b ∷ us) f i (suc v) h = mark-get us f (suc i) v (omega arith) ∙ ap (λ (k : ℕ). get_or us v true || f k) (omega arith)

length-mark : (us : List Bool) (f : ℕ → Bool) (i : ℕ) → length (mark us f i) ≡ length us
length-mark [] f i = refl
length-mark (b ∷ us) f i = ap suc (length-mark us f (suc i))

near-is : (np nq : ℕ) (Q : List ℕ) (a c v : ℕ) → near (quads_of nq Q) a c v ≡ (some (joins Q a v) nq || some (joins Q c v) nq)
near-is np nq Q a c v = bool_iff _ _ there back
  where
    there : near (quads_of nq Q) a c v ≡ true → (some (joins Q a v) nq || some (joins Q c v) nq) ≡ true
    there e =
        let N = near-find Q nq a c v e in
        let k : has_corner (quad_at Q N.q) v ≡ true = lt-ltb 0 _ N.has in
        ⊎_elim
        (λ (x : has_corner (quad_at Q N.q) a ≡ true). rw (some_at (joins Q a v) nq N.q N.q< (rw (x, k) refl)) refl)
        (λ (x : has_corner (quad_at Q N.q) c ≡ true). rw (some_at (joins Q c v) nq N.q N.q< (rw (x, k) refl)) (or-true (some (joins Q a v) nq)))
        (or_split (has_corner (quad_at Q N.q) a) (has_corner (quad_at Q N.q) c) N.ends)

    at-quad : (x q : ℕ) → q < nq → joins Q x v q ≡ true → (0 < uses x (quad_at Q q) → (0 < uses a (quad_at Q q)) ⊎ (0 < uses c (quad_at Q q))) → near (quads_of nq Q) a c v ≡ true
    at-quad x q l e which = let g = quad-get nq Q q l in near_of (quads_of nq Q) a c v q (rw (length-quads nq Q) l)
        (rw g (which (ltb-true 0 _ (and_left (has_corner (quad_at Q q) x) _ e)))) (rw g (ltb-true 0 _ (and_right (has_corner (quad_at Q q) x) (has_corner (quad_at Q q) v) e)))

    back : (some (joins Q a v) nq || some (joins Q c v) nq) ≡ true → near (quads_of nq Q) a c v ≡ true
    back e = ⊎_elim
        (λ (x : some (joins Q a v) nq ≡ true). let H = some-find (joins Q a v) nq x in at-quad a H.i H.i< H.yes (λ h. inl h))
        (λ (x : some (joins Q c v) nq ≡ true). let H = some-find (joins Q c v) nq x in at-quad c H.i H.i< H.yes (λ h. inr h))
        (or_split (some (joins Q a v) nq) (some (joins Q c v) nq) e)

pub used-both : (np nq : ℕ) (Q U : List ℕ) (a c : ℕ) → used_of np (marked_both Q U np nq a c) ≡ mark (used_of np U) (near (quads_of nq Q) a c) 0
unfolding used_of
used-both np nq Q U a c = sym (is-table true (mark (tabulate (is_marked U) np) (near (quads_of nq Q) a c) 0) (is_marked (marked_both Q U np nq a c)) np
    (length-mark (tabulate (is_marked U) np) (near (quads_of nq Q) a c) 0 ∙ length-tab (is_marked U) np)
    (λ v h. mark-get (tabulate (is_marked U) np) (near (quads_of nq Q) a c) 0 v (rw length-tab h)
    ∙ rw (get_or-tab (is_marked U) np v true h, zero-add v, near-is np nq Q a c v) (sym (at-v v h))))
  where
    zero-add : (v : ℕ) → 0 + v ≡ v
    zero-add v = omega arith

    one : (s : Bool) (m : ℕ) → not (eqb (cond s 1 m) 0) ≡ (not (eqb m 0) || s)
    one true m = sym (or-true (not (eqb m 0)))
    one false m = sym (or-none (not (eqb m 0)))
      where
        or-none : (b : Bool) → (b || false) ≡ b
        or-none true = refl
        or-none false = refl

    assoc : (x y z : Bool) → ((x || y) || z) ≡ (x || (y || z))
    assoc true y z = refl
    assoc false y z = refl

    at-v : (v : ℕ) → v < np → is_marked (marked_both Q U np nq a c) v ≡ (is_marked U v || (some (joins Q a v) nq || some (joins Q c v) nq))
    at-v v h = rw (get_or-tab (marked_near Q (tabulate (marked_near Q U nq a) np) nq c) np v 0 h, get_or-tab (marked_near Q U nq a) np v 0 h)
        (one (some (joins Q c v) nq) (marked_near Q U nq a v) ∙ (ap (λ b. b || some (joins Q c v) nq) (one (some (joins Q a v) nq) (get_or U v 0)) ∙ assoc (is_marked U v) (some (joins Q a v) nq) (some (joins Q c v) nq)))

-- ---- quads

-- corner i of a quad
nth : ℕ → Quad → ℕ
nth zero (quad a b c d) = a
nth (suc zero) (quad a b c d) = b
nth (suc (suc zero)) (quad a b c d) = c
nth (suc (suc (suc i))) (quad a b c d) = d

nth-corner : (Q : List ℕ) (j i : ℕ) → i < 4 → nth i (quad_at Q j) ≡ corner Q j i
unfolding nth
nth-corner Q j zero h = refl
nth-corner Q j (suc zero) h = refl
nth-corner Q j (suc (suc zero)) h = refl
nth-corner Q j (suc (suc (suc zero))) h = refl
nth-corner Q j (suc (suc (suc (suc i)))) h = absurd (omega arith)

-- equal quads have equal corners
pub corner-same : (Q R : List ℕ) (j i : ℕ) → i < 4 → quad_at Q j ≡ quad_at R j → corner Q j i ≡ corner R j i
corner-same Q R j i h e = sym (nth-corner Q j i h) ∙ (ap (nth i) e ∙ nth-corner R j i h)

pub not-used : (np : ℕ) (U : List ℕ) (v : ℕ) → v < np → unmarked U v ≡ true → ¬ Used (used_of np U) v
unfolding Used
not-used np U v h e k = false≢true (sym (ap not e) ∙ (sym (used-get np U v h) ∙ k))

-- a quad that is here and has, or had, an unbarred corner is that of the start
pub stands : (np nq : ℕ) (Q0 Q R U : List ℕ) (v j : ℕ) → MInv (quads_of nq Q0) (slots_of nq Q R) (Used (used_of np U)) → v < np → unmarked U v ≡ true → j < nq → unmarked R j ≡ true
    → (0 < uses v (quad_at Q j)) ⊎ (0 < uses v (quad_at Q0 j)) → quad_at Q j ≡ quad_at Q0 j
stands np nq Q0 Q R U v j I h e l r w =
    let g : get_or (slots_of nq Q R) j out ≡ slot (quad_at Q j) = slot-get nq Q R j l ∙ ap (λ b. cond b (slot (quad_at Q j)) out) r in
    let k : get_or (quads_of nq Q0) j none_quad ≡ quad_at Q0 j = quad-get nq Q0 j l in
    let s = I.same v (not-used np U v h e) j (rw (length-quads nq Q0) l) (⊎_elim (λ (x : 0 < uses v (quad_at Q j)). inl (subst (λ q. 0 < weigh (uses v) q) (sym g) x)) (λ (x : 0 < uses v (quad_at Q0 j)). inr (subst (λ q. 0 < uses v q) (sym k) x)) w) in
    slot-inj (quad_at Q j) (quad_at Q0 j) (sym g ∙ (s ∙ ap slot k))

module _ (np nq : ℕ) (Q0 Q R U : List ℕ) (f a c : ℕ) (long : 4 * nq ≤ length Q) (many : length R ≡ nq) (f< : f < nq) (c< : c < np) (free : unmarked U c ≡ true)
    (I : MInv (quads_of nq Q0) (slots_of nq Q R) (Used (used_of np U))) where
  abbrev B : List ℕ
  B = point_corners Q0 nq c

  -- the corners of c are those where the start has c
  listed-is : (x : ℕ) → x < 4 * nq → some (is_at B x) (length B) ≡ eqb (get_or Q0 x 0) c
  listed-is x h = bool_iff _ _
      (λ e. let H = some-find (is_at B x) (length B) e in
      let k : from Q0 (get_or B H.i 0) ≡ c = bucket-key (from Q0) 0 c (all_corners nq) H.i H.i< in
      let r : get_or B H.i 0 ≡ x = eqb-true (get_or B H.i 0) x H.yes in
      eq-eqb (get_or Q0 x 0) c (ap (λ (y : ℕ). get_or Q0 y 0) (sym r) ∙ k))
      (λ e. let g : get_or (all_corners nq) x 0 ≡ x = get_or-tab itself (4 * nq) x 0 h in
      let J = in-bucket (from Q0) 0 c (all_corners nq) x (rw length-tab h) (ap (from Q0) g ∙ eqb-true (get_or Q0 x 0) c e) in
      some_at (is_at B x) (length B) J.t J.t< (eq-eqb (get_or B J.t 0) x (J.at ∙ g)))

  -- which is where c stands now, in a quad that is here
  now-is : (j i : ℕ) → j < nq → i < 4 → unmarked R j ≡ true → eqb (corner Q0 j i) c ≡ eqb (corner Q j i) c
  now-is j i h l r = bool_iff _ _
      (λ e. let k : corner Q0 j i ≡ c = eqb-true (corner Q0 j i) c e in
      eq-eqb (corner Q j i) c (corner-same Q Q0 j i l (stands np nq Q0 Q R U c j I c< free h r (inr (uses-at Q0 j c i l k))) ∙ k))
      (λ e. let k : corner Q j i ≡ c = eqb-true (corner Q j i) c e in
      eq-eqb (corner Q0 j i) c (sym (corner-same Q Q0 j i l (stands np nq Q0 Q R U c j I c< free h r (inl (uses-at Q j c i l k)))) ∙ k))

  renamed-corner : (j i : ℕ) → j < nq → i < 4 → unmarked R j ≡ true → corner (renamed_quads Q0 nq c a Q) j i ≡ rename c a (corner Q j i)
  unfolding renamed_quads
  renamed-corner j i h l r =
      get_or-tab (renamed_at (point_corners Q0 nq c) Q a (length (point_corners Q0 nq c))) (length Q) (4 * j + i) 0 (omega arith)
      ∙ ap (λ b. cond b a (corner Q j i)) (listed-is (4 * j + i) (omega arith) ∙ now-is j i h l r)

  renamed-quad : (j : ℕ) → j < nq → unmarked R j ≡ true → quad_at (renamed_quads Q0 nq c a Q) j ≡ rename_quad (rename c a) (quad_at Q j)
  renamed-quad j h r = go _ _ _ _ (renamed-corner j 0 h (omega arith) r) (renamed-corner j 1 h (omega arith) r) (renamed-corner j 2 h (omega arith) r) (renamed-corner j 3 h (omega arith) r)
    where
      go : {x' y' z' w' : ℕ} (x y z w : ℕ) → x' ≡ x → y' ≡ y → z' ≡ z → w' ≡ w → quad x' y' z' w' ≡ quad x y z w
      go x y z w p q r s = rw (p, q, r, s) refl

  pub slots-merged : slots_of nq (renamed_quads Q0 nq c a Q) (set R f 1) ≡ merged (slots_of nq Q R) f a c
  unfolding slots_of
  slots-merged = sym (is-table out (merged (tabulate (slot_at Q R) nq) f a c) (slot_at (renamed_quads Q0 nq c a Q) (set R f 1)) nq
      (length-set (map (rename_slot (rename c a)) (tabulate (slot_at Q R) nq)) f out ∙ (length-map (tabulate (slot_at Q R) nq) (rename_slot (rename c a)) ∙ length-tab (slot_at Q R) nq))
      (λ j h. ⊎_elim (λ (e : j ≡ f). rw e (gone f<)) (λ (n : j ≡ f → ⊥). other j h n (unmarked R j) refl) (eq-or-ne j f)))
    where
      S : List Slot
      S = map (rename_slot (rename c a)) (tabulate (slot_at Q R) nq)

      gone : f < nq → get_or (set S f out) f out ≡ slot_at (renamed_quads Q0 nq c a Q) (set R f 1) f
      gone h = get_or-set_same S f out out (rw (length-map, length-tab) h) ∙ sym (rw (get_or-set_same R f 1 0 (rw many h)) refl)

      other : (j : ℕ) → j < nq → (j ≡ f → ⊥) → (b : Bool) → unmarked R j ≡ b → get_or (set S f out) j out ≡ slot_at (renamed_quads Q0 nq c a Q) (set R f 1) j
      other j h n b e = get_or-set_other S f j out out n ∙ (get_or-map (rename_slot (rename c a)) (tabulate (slot_at Q R) nq) j out
          ∙ (ap (rename_slot (rename c a)) (get_or-tab (slot_at Q R) nq j out h) ∙ same b e))
        where
          same : (b : Bool) → unmarked R j ≡ b → rename_slot (rename c a) (slot_at Q R j) ≡ slot_at (renamed_quads Q0 nq c a Q) (set R f 1) j
          same true e = rw (get_or-set_other R f j 1 0 n, e) (sym (ap slot (renamed-quad j h e)))
          same false e = rw (get_or-set_other R f j 1 0 n, e) refl

-- the state after a merge
pub state-merged : (np nq f a c k : ℕ) (P P' : List Float) (Q w Q' w' : List ℕ) (labels : List ℕ) (fits : MergeFits) (position : Position) (p : Point)
    → StartHolds np nq w → MergeAsks np nq f a c (length P) (length Q) → MInv (start_in np nq w) (slots_of nq Q (removed_in np nq w)) (Used (used_of np (used_in np nq w)))
    → unmarked (used_in np nq w) c ≡ true → position (points_of np P) a c ≡ p → P' ≡ with_point P a p → MergeLeaves np nq f a c Q w Q' w'
    → state_of np nq P' Q' (removed_in np nq w') (used_in np nq w') (k + 1) ≡ merged_state np (start_in np nq w) labels fits position (state_of np nq P Q (removed_in np nq w) (used_in np nq w) k) f a c
unfolding state_of
state-merged np nq f a c k P P' Q w Q' w' labels fits position p G M I u e d N =
    let R = removed_in np nq w in
    let U = used_in np nq w in
    let many = part-len (part_of (removed_at np nq) nq w (omega (arith, G.map.work.long))) in
    same (rw (N.quads, N.removed) (slots-merged np nq (was_in np nq w) Q R U f a c M.quads many M.f< M.c< u I))
    (rw N.used (used-both np nq (was_in np nq w) U a c))
    (rw (d, e) (points-put np P a p M.a< M.points))
  where
    same : {S T : List Slot} {X Y : List Bool} {ps qs : List Point} → S ≡ T → X ≡ Y → ps ≡ qs
        → ◌≡◌ {A = MergeState} (record { slots = S; used = X; points = ps; count = k + 1 }) (record { slots = T; used = Y; points = qs; count = suc k })
    same x y z = rw (x, y, z, add-one k) refl

-- The steps over the corners in the order of their edges are the sweep over the edges. Assumes nothing.
use Prim.Native.Nat.{ℕ, zero, suc, ◌+◌, ◌≤◌, ◌<◌, min, max}
use mathlib.Core.Path.{◌≡◌, refl, sym, ap, ap₂, ◌∙◌}
use mathlib.Core.Bool.{Bool, true, false, cond}
use mathlib.Core.Logic.{◌⊎◌, inl, inr, ⊎_elim}
use mathlib.Core.List.{List, [], ◌∷◌, ◌++◌, map}
use native.Mathlib.Omega.{arith}
use native.Mathlib.Nat.{zero-add}
use native.Mathlib.Numerals.{add-one}
use lib.Dec.{eqb}
use lib.ListN.{length, get_or}
use borrow.Author.Tests.{le-leb, lt-leb, lt-ltb, ltb-false, ne_eqb}
use Rattle.lists.specs.Sort.{cons_if, bucket}
use Rattle.lists.specs.Steps.{start}
use Rattle.lists.proofs.Laws.{lt-or-le, start-zero, start-suc}
use Rattle.rule_sheet.specs.Quads.{Quad, side, is_edge}
use Rattle.sheet.specs.Flat.{from}
use Rattle.rule_sheet.specs.Flat.{quads_of}
use Rattle.rule_sheet.specs.Edges.{Pair, pair, join_to, edge_if, edges_from, edges_of}
use Rattle.sheet.specs.Edges.{smaller, larger, all_corners}
use Rattle.incidence.specs.Corners.{edge_order}
use Rattle.edges.specs.declared.EdgeKind.{EdgeKind}
use Rattle.edges.specs.declared.EdgeKind.TheVariants.{Nonmanifold}
use Rattle.edges.specs.Steps.{is_two, kind_at, pair_at}
use Rattle.edges.proofs.Blocks.{block, off, off-suc, by_larger, row-length, at_off}
use Rattle.edges.proofs.EdgeKinds.{kind, kind-first, kind-later}
use Rattle.edges.proofs.Sides.{length-block, length-loop, length_none}
use Rattle.rule_regularize.specs.Swaps.{Place, State, Fits, try_places, try_edge, sweep}
use Rattle.rule_passes.specs.Choices.{take_or}
use Rattle.regularize_swap.specs.Steps.{place_of, try_pair, step_at, steps_from}
use Rattle.regularize_swap.proofs.Places.{corners-places}

-- ---- steps

module _ {A : Type 0} (step : A → ℕ → A) where
  pub steps-zero : (o : ℕ) (st : A) → steps_from step o 0 st ≡ st
  unfolding steps_from
  steps-zero o st = refl

  pub steps-suc : (o k : ℕ) (st : A) → steps_from step o (k + 1) st ≡ step (steps_from step o k st) (o + k)
  unfolding steps_from
  steps-suc o k st = rw (add-one k)

  -- k steps, and then n
  steps-add : (o k n : ℕ) (st : A) → steps_from step o (k + n) st ≡ steps_from step (o + k) n (steps_from step o k st)
  unfolding steps_from
  steps-add o k zero st = let e : k + 0 ≡ k = omega arith in rw e
  steps-add o k (suc n) st =
      let e : k + suc n ≡ suc (k + n) = omega arith in
      let f : o + (k + n) ≡ o + k + n = omega arith in
      rw (e, f, steps-add o k n st)

  -- only the first step does something
  steps_first : (o k : ℕ) (st : A) → ((t : ℕ) (s : A) → suc t < k → step s (o + suc t) ≡ s) → 0 < k → steps_from step o k st ≡ step st o
  unfolding steps_from
  steps_first o zero st h p = absurd (omega arith)
  steps_first o (suc zero) st h p = let e : o + 0 ≡ o = omega arith in rw e
  steps_first o (suc (suc k)) st h p = h k (steps_from step o (suc k) st) (omega arith) ∙ steps_first o (suc k) st (λ t s l. h t s (omega arith)) (omega arith)

module _ (S0 : List Quad) (labels : List ℕ) (m : ℕ) (fits : Fits) where
  sweep-append : (l r : List Pair) (st : State) → sweep S0 labels m fits st (l ++ r) ≡ sweep S0 labels m fits (sweep S0 labels m fits st l) r
  sweep-append [] r st = refl
  sweep-append (p ∷ l) r st = sweep-append l r (take_or st (try_edge S0 labels m fits st p))

  -- the step at the first of the corners B of an edge
  first_step : (B : List ℕ) (k : EdgeKind) (c d : ℕ) (s : Bool) (st : State) → 0 < length B → k ≡ kind (length B) s → c ≡ get_or B 0 0 → (1 < length B → d ≡ get_or B 1 0)
      → cond (is_two k) (try_pair S0 labels m fits c d st) st ≡ take_or st (try_places S0 labels m fits st (map place_of B))
  first_step [] k c d s st h e ec ed = absurd (omega arith)
  first_step (x ∷ []) k c d s st h e ec ed = rw e
  first_step (x ∷ y ∷ []) k c d s st h e ec ed = rw (e, ec, ed (omega arith)) (go s)
    where
      go : (s : Bool) → cond (is_two (kind 2 s)) (try_pair S0 labels m fits x y st) st ≡ try_pair S0 labels m fits x y st
      go true = refl
      go false = refl
  first_step (x ∷ y ∷ z ∷ l) k c d s st h e ec ed =
      let more : k ≡ Nonmanifold = e ∙ rw (ne_eqb (length (x ∷ y ∷ z ∷ l)) 0 (λ z. omega arith), lt-ltb 1 (length (x ∷ y ∷ z ∷ l)) (omega arith), lt-ltb 2 (length (x ∷ y ∷ z ∷ l)) (omega arith)) in
      rw more

module _ (np nq : ℕ) (Q : List ℕ) (labels : List ℕ) (m : ℕ) (fits : Fits) where
  abbrev S0 : List Quad
  S0 = quads_of nq Q

  abbrev E : List ℕ
  E = edge_order np nq Q

  abbrev step : State → ℕ → State
  step = step_at S0 labels m fits Q (length E) E

  no-corner : (a b : ℕ) → is_edge S0 a b ≡ false → a ≤ b → length (block nq Q a b) ≡ 0
  no-corner a b e h =
      let z = ltb-false 0 (side S0 a b + side S0 b a) e in
      ⊎_elim
      (λ (l : a < b). length-block nq Q a b l ∙ omega arith)
      (λ (l : b ≤ a). let q : a ≡ b = omega arith in rw q (length-loop nq Q b ∙ omega (arith, rw q at z)))
      (lt-or-le a b)

  no_place : (B : List ℕ) (st : State) → length B ≡ 0 → take_or st (try_places S0 labels m fits st (map place_of B)) ≡ st
  no_place [] st e = refl
  no_place (x ∷ l) st e = absurd (omega arith)

  -- an edge is swept as its corners are tried
  edge-sweep : (a b : ℕ) (st : State) → sweep S0 labels m fits st (edge_if S0 a b) ≡ take_or st (try_places S0 labels m fits st (map place_of (block nq Q a b)))
  edge-sweep a b st = ⊎_elim
      (λ (h : a ≤ b). rw (le-leb a b h) (go h (is_edge S0 a b) refl))
      (λ (h : b < a). rw (lt-leb a b h) (sym (no_place (block nq Q a b) st (length_none nq Q a b h))))
      (le-or-lt a b)
    where
      le-or-lt : (a b : ℕ) → (a ≤ b) ⊎ (b < a)
      le-or-lt a b = ⊎_elim (λ (h : b < a). inr h) (λ (h : a ≤ b). inl h) (lt-or-le b a)

      go : a ≤ b → (e : Bool) → is_edge S0 a b ≡ e → sweep S0 labels m fits st (cons_if e (pair a b) []) ≡ take_or st (try_places S0 labels m fits st (map place_of (block nq Q a b)))
      go h true e =
          let lo : min a b ≡ a = omega arith in
          let hi : max a b ≡ b = omega arith in
          ap (λ (l : List Place). take_or st (try_places S0 labels m fits st l))
          (sym (corners-places Q (pair a b) nq) ∙ ap₂ (λ (x y : ℕ). map place_of (block nq Q x y)) lo hi)
      go h false e = sym (no_place (block nq Q a b) st (no-corner a b e h))

  block-steps : (a b : ℕ) (st : State) → a < np → b < np → steps_from step (off np nq Q a b) (length (block nq Q a b)) st ≡ sweep S0 labels m fits st (edge_if S0 a b)
  unfolding step_at pair_at
  block-steps a b st ha hb = ⊎_elim
      (λ (pos : 0 < length (block nq Q a b)).
      let z : off np nq Q a b ≡ off np nq Q a b + 0 = omega arith in
      steps_first step (off np nq Q a b) (length (block nq Q a b)) st (λ t s l. rw (kind-later np nq Q a b ha hb t l)) pos
      ∙ first_step S0 labels m fits (block nq Q a b) (kind_at Q (length E) E (off np nq Q a b)) (get_or E (off np nq Q a b) 0) (get_or E (off np nq Q a b + 1) 0)
      (eqb (from Q (get_or (block nq Q a b) 0 0)) (from Q (get_or (block nq Q a b) 1 0))) st pos
      (kind-first np nq Q a b ha hb pos)
      (ap (λ (x : ℕ). get_or E x 0) z ∙ at_off np nq Q a b 0 ha hb pos)
      (λ h. at_off np nq Q a b 1 ha hb h)
      ∙ sym (edge-sweep a b st))
      (λ (h : length (block nq Q a b) ≤ 0).
      let e : length (block nq Q a b) ≡ 0 = omega arith in
      ap (λ (k : ℕ). steps_from step (off np nq Q a b) k st) e ∙ steps-zero step (off np nq Q a b) st ∙ sym (edge-sweep a b st ∙ no_place (block nq Q a b) st e))
      (lt-or-le 0 (length (block nq Q a b)))

  row-steps : (a b : ℕ) (st : State) → a < np → b ≤ np
      → steps_from step 0 (off np nq Q a b) st ≡ sweep S0 labels m fits (steps_from step 0 (off np nq Q a 0) st) (join_to (edge_if S0 a) b)
  unfolding join_to
  row-steps a zero st ha hb = refl
  row-steps a (suc b) st ha hb =
      ap (λ (k : ℕ). steps_from step 0 k st) (off-suc np nq Q a b)
      ∙ steps-add step 0 (off np nq Q a b) (length (block nq Q a b)) st
      ∙ ap (λ (o : ℕ). steps_from step o (length (block nq Q a b)) (steps_from step 0 (off np nq Q a b) st)) (zero-add (off np nq Q a b))
      ∙ block-steps a b (steps_from step 0 (off np nq Q a b) st) ha (omega arith)
      ∙ ap (λ (s : State). sweep S0 labels m fits s (edge_if S0 a b)) (row-steps a b st ha (omega arith))
      ∙ sym (sweep-append S0 labels m fits (join_to (edge_if S0 a) b) (edge_if S0 a b) (steps_from step 0 (off np nq Q a 0) st))

  rows-steps : (a : ℕ) (st : State) → a ≤ np → steps_from step 0 (start (smaller Q) (by_larger np nq Q) a) st ≡ sweep S0 labels m fits st (join_to (edges_from np S0) a)
  unfolding join_to steps_from
  rows-steps zero st h = rw (start-zero (smaller Q) (by_larger np nq Q)) refl
  rows-steps (suc a) st h =
      let z = start-zero (larger Q) (bucket (smaller Q) a (all_corners nq)) in
      let o : off np nq Q a 0 ≡ start (smaller Q) (by_larger np nq Q) a = omega arith in
      let e : start (smaller Q) (by_larger np nq Q) (suc a) ≡ off np nq Q a np = rw (← add-one a) (start-suc (smaller Q) (by_larger np nq Q) a ∙ omega (arith, row-length np nq Q a)) in
      ap (λ (k : ℕ). steps_from step 0 k st) e
      ∙ row-steps a np st (omega arith) (omega arith)
      ∙ ap (λ (s : State). sweep S0 labels m fits s (edges_from np S0 a)) (ap (λ (k : ℕ). steps_from step 0 k st) o ∙ rows-steps a st (omega arith))
      ∙ sym (sweep-append S0 labels m fits (join_to (edges_from np S0) a) (edges_from np S0 a) st)

  -- all places one after the other are all edges one after the other
  pub steps-sweep : (st : State) → steps_from step 0 (length E) st ≡ sweep S0 labels m fits st (edges_of np S0)
  unfolding edge_order edges_of
  steps-sweep st = rows-steps np st (omega arith)

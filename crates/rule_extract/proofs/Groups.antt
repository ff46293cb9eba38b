-- Two edges of a cell have the same group exactly where a chain of joins leads from one to the other: by induction over
-- the pairs that are joined one after the other. Assumes nothing.
use Prim.Native.Nat.{ℕ, zero, suc, ◌<◌, ◌≤◌}
use mathlib.Core.Path.{◌≡◌, refl, sym, ap, ◌∙◌}
use mathlib.Core.Bool.{Bool, true, false, cond}
use mathlib.Core.Logic.{◌⊎◌, inl, inr, ⊎_elim, ⊎_swap}
use mathlib.Core.List.{List, [], ◌∷◌, ◌++◌, map, foldl}
use native.Mathlib.Omega.{arith}
use native.Mathlib.Nat.{not-suc-le-zero}
use lib.Dec.{eqb}
use lib.ListN.{get_or, length}
use borrow.Author.Tests.{eqb-true, eq-eqb}
use Rattle.lists.specs.Sort.{tabulate, itself, cons_if, keep}
use Rattle.lists.proofs.Laws.{get_or-tab, eq-or-ne}
use Rattle.rule_extract.specs.Cells.{Pair, pair, edges_on, crossings_on, four_on, pairs_in, parted, pairs_of}
use Rattle.rule_extract.specs.Cells.{renamed_of, merged_at, merged, groups_to, groups_of}
use Rattle.rule_extract.specs.Chains.{IsIn, Joined, Chain, empty, join, SameGroup}

-- ---- elements of lists

module _ {A : Type 0} where
  in-append : (l m : List A) (x : A) → IsIn x (l ++ m) → IsIn x l ⊎ IsIn x m
  in-append [] m x h = inr h
  in-append (y ∷ l) m x (inl e) = inl (inl e)
  in-append (y ∷ l) m x (inr h) = ⊎_elim
      (λ (i : IsIn x l). inl (inr i))
      (λ (i : IsIn x m). inr i)
      (in-append l m x h)

  in-cons-if : (b : Bool) (y : A) (l : List A) (x : A) → IsIn x (cons_if b y l) → (x ≡ y) ⊎ IsIn x l
  in-cons-if true y l x h = h
  in-cons-if false y l x h = inr h

  in-keep : (p : A → Bool) (l : List A) (x : A) → IsIn x (keep p l) → IsIn x l
  in-keep p [] x h = h
  in-keep p (y ∷ l) x h = ⊎_elim
      (λ (e : x ≡ y). inl e)
      (λ (i : IsIn x (keep p l)). inr (in-keep p l x i))
      (in-cons-if (p y) y (keep p l) x h)

in_table : (n x : ℕ) → IsIn x (tabulate itself n) → x < n
unfolding tabulate
in_table zero x h = absurd h
in_table (suc n) x h = ⊎_elim
    (λ (i : IsIn x (tabulate itself n)). let l = in_table n x i in omega arith)
    (⊎_elim (λ (e : x ≡ n). omega arith) (λ (i : ⊥). absurd i))
    (in-append (tabulate itself n) (n ∷ []) x h)

-- ---- the edges of a pair are two of the twelve

abbrev Small : Pair → Type 0
Small p = (p.first < 12) × (p.second < 12)

in_map : (y : ℕ) (l : List ℕ) (p : Pair) → IsIn p (map (pair y) l) → (p.first ≡ y) × IsIn p.second l
in_map y [] p h = absurd h
in_map y (z ∷ l) p (inl e) = (ap (λ (q : Pair). q.first) e, inl (ap (λ (q : Pair). q.second) e))
in_map y (z ∷ l) p (inr h) = let r = in_map y l p h in (r.0, inr r.1)

in_pairs : (l : List ℕ) (p : Pair) → IsIn p (pairs_in l) → IsIn p.first l × IsIn p.second l
unfolding pairs_in
in_pairs [] p h = absurd h
in_pairs (y ∷ l) p h = ⊎_elim
    (λ (i : IsIn p (map (pair y) l)). let r = in_map y l p i in (inl r.0, inr r.1))
    (λ (i : IsIn p (pairs_in l)). let r = in_pairs l p i in (inr r.0, inr r.1))
    (in-append (map (pair y) l) (pairs_in l) p h)

edge-small : (f e : ℕ) → IsIn e (edges_on f) → e < 12
unfolding edges_on
edge-small f e h = in_table 12 e (in-keep _ (tabulate itself 12) e h)

pair_small : (f : ℕ) (p : Pair) → IsIn p (pairs_in (edges_on f)) → Small p
pair_small f p h = let r = in_pairs (edges_on f) p h in (edge-small f p.first r.0, edge-small f p.second r.1)

crossing-small : (sign : ℕ → Bool) (f : ℕ) (p : Pair) → IsIn p (pairs_in (crossings_on sign f)) → Small p
unfolding crossings_on
crossing-small sign f p h =
    let r = in_pairs (crossings_on sign f) p h in (
      edge-small f p.first (in-keep _ (edges_on f) p.first r.0),
      edge-small f p.second (in-keep _ (edges_on f) p.second r.1),
    )

small_by : (sign : ℕ → Bool) (c : Bool) (f : ℕ) (p : Pair) (two four : Bool)
    → IsIn p (cond two (pairs_in (crossings_on sign f)) (cond four (keep (parted sign c) (pairs_in (edges_on f))) []))
    → Small p
small_by sign c f p true four h = crossing-small sign f p h
small_by sign c f p false true h = pair_small f p (in-keep (parted sign c) (pairs_in (edges_on f)) p h)
small_by sign c f p false false h = absurd h

joined_small : (sign : ℕ → Bool) (c : Bool) (f : ℕ) (p : Pair) → IsIn p (pairs_of sign c f) → Small p
unfolding pairs_of
joined_small sign c f p h = small_by sign c f p (eqb (length (crossings_on sign f)) 2) (four_on sign f) h

-- ---- a pair is joined

-- two edges are in one group
abbrev Same : List ℕ → ℕ → ℕ → Type 0
Same G a b = get_or G a 0 ≡ get_or G b 0

group_at : (G : List ℕ) (p : Pair) (e : ℕ) → e < 12 → get_or (merged G p) e 0 ≡ merged_at G p e
unfolding merged
group_at G p e h = get_or-tab (merged_at G p) 12 e 0 h

-- two edges of one group stay in one
same_kept : (G : List ℕ) (p : Pair) (a b : ℕ) → a < 12 → b < 12 → Same G a b → Same (merged G p) a b
same_kept G p a b h k e =
    group_at G p a h ∙ ap (renamed_of (get_or G p.second 0) (get_or G p.first 0)) e ∙ sym (group_at G p b k)

renamed-new : (new : ℕ) (b : Bool) → cond b new new ≡ new
renamed-new new true = refl
renamed-new new false = refl

renamed_both : (old new : ℕ) → renamed_of old new new ≡ renamed_of old new old
renamed_both old new = renamed-new new (eqb new old) ∙ sym (rw (eq-eqb old old refl) refl)

-- the two edges of the pair are in one group
pair_same : (G : List ℕ) (p : Pair) → Small p → Same (merged G p) p.first p.second
pair_same G p s =
    group_at G p p.first s.0
    ∙ renamed_both (get_or G p.second 0) (get_or G p.first 0)
    ∙ sym (group_at G p p.second s.1)

fold-kept : (l : List Pair) (G : List ℕ) (a b : ℕ) → a < 12 → b < 12 → Same G a b → Same (foldl merged G l) a b
fold-kept [] G a b h k e = e
fold-kept (p ∷ l) G a b h k e = fold-kept l (merged G p) a b h k (same_kept G p a b h k e)

fold_same : (l : List Pair) (G : List ℕ) (p : Pair) → Small p → IsIn p l
    → Same (foldl merged G l) p.first p.second
fold_same [] G p s h = absurd h
fold_same (q ∷ l) G p s (inl e) =
    fold-kept l (merged G q) p.first p.second s.0 s.1 (rw (← e) (pair_same G p s))
fold_same (q ∷ l) G p s (inr h) = fold_same l (merged G q) p s h

-- ---- a chain stays in one group

module _ (sign centre : ℕ → Bool) where
  listed-to : (n f : ℕ) (p : Pair) → f < n → Small p → IsIn p (pairs_of sign (centre f) f)
      → Same (groups_to sign centre n) p.first p.second
  unfolding groups_to
  listed-to zero f p h s i = absurd (not-suc-le-zero h)
  listed-to (suc n) f p h s i = ⊎_elim
      (λ (e : f ≡ n). fold_same (pairs_of sign (centre n) n) (groups_to sign centre n) p s (rw e at i))
      (λ (ne : f ≡ n → ⊥).
      fold-kept (pairs_of sign (centre n) n) (groups_to sign centre n) p.first p.second s.0 s.1
      (listed-to n f p (omega arith) s i))
      (eq-or-ne f n)

  listed_same : (f : ℕ) (p : Pair) → f < 6 → IsIn p (pairs_of sign (centre f) f)
      → Same (groups_of sign centre) p.first p.second
  unfolding groups_of
  listed_same f p h i = listed-to 6 f p h (joined_small sign (centre f) f p i) i

  joined_same : (a b : ℕ) → Joined sign centre a b → Same (groups_of sign centre) a b
  joined_same a b j = ⊎_elim
      (λ i. listed_same j.face (pair a b) j.face< i)
      (λ i. sym (listed_same j.face (pair b a) j.face< i))
      j.listed

  chain_same : {a b : ℕ} → Chain sign centre a b → Same (groups_of sign centre) a b
  chain_same empty = refl
  chain_same (join {b} {c} k j) = chain_same k ∙ joined_same b c j

  -- ---- a group is one chain

  after : {a b c : ℕ} → Chain sign centre a b → Chain sign centre b c → Chain sign centre a c
  after k empty = k
  after k (join l j) = join (after k l) j

  join-back : {a b : ℕ} → Joined sign centre a b → Joined sign centre b a
  join-back j = record { face = j.face; face< = j.face<; listed = ⊎_swap j.listed }

  back : {a b : ℕ} → Chain sign centre a b → Chain sign centre b a
  back empty = empty
  back (join k j) = after (join empty (join-back j)) (back k)

  -- edges of one group are chained
  abbrev Chained : List ℕ → Type 0
  Chained G = (a b : ℕ) → a < 12 → b < 12 → Same G a b → Chain sign centre a b

  module _ (G : List ℕ) (p : Pair) (s : Small p) (j : Joined sign centre p.first p.second) (C : Chained G)
      (a b : ℕ) (h : a < 12) (k : b < 12) where
    chained-by : (x y : Bool)
        → eqb (get_or G a 0) (get_or G p.second 0) ≡ x
        → eqb (get_or G b 0) (get_or G p.second 0) ≡ y
        → cond x (get_or G p.first 0) (get_or G a 0) ≡ cond y (get_or G p.first 0) (get_or G b 0)
        → Chain sign centre a b
    chained-by true true u v e =
        after (C a p.second h s.1 (eqb-true _ _ u)) (C p.second b s.1 k (sym (eqb-true _ _ v)))
    chained-by true false u v e =
        after (C a p.second h s.1 (eqb-true _ _ u)) (after (join empty (join-back j)) (C p.first b s.0 k e))
    chained-by false true u v e =
        after (C a p.first h s.0 e) (after (join empty j) (C p.second b s.1 k (sym (eqb-true _ _ v))))
    chained-by false false u v e = C a b h k e

  chained-merged : (G : List ℕ) (p : Pair) → Small p → Joined sign centre p.first p.second → Chained G
      → Chained (merged G p)
  chained-merged G p s j C a b h k e =
      chained-by G p s j C a b h k _ _ refl refl (sym (group_at G p a h) ∙ e ∙ group_at G p b k)

  chained-fold : (l : List Pair) (G : List ℕ)
      → ((p : Pair) → IsIn p l → Small p × Joined sign centre p.first p.second)
      → Chained G
      → Chained (foldl merged G l)
  chained-fold [] G t C = C
  chained-fold (p ∷ l) G t C =
      let r = t p (inl refl) in
      chained-fold l (merged G p) (λ q i. t q (inr i)) (chained-merged G p r.0 r.1 C)

  chained-to : (n : ℕ) → n ≤ 6 → Chained (groups_to sign centre n)
  unfolding groups_to
  chained-to zero l = λ a b h k e.
      let q : a ≡ b = sym (get_or-tab itself 12 a 0 h) ∙ e ∙ get_or-tab itself 12 b 0 k in
      rw q empty
  chained-to (suc n) l = chained-fold (pairs_of sign (centre n) n) (groups_to sign centre n)
      (λ p i. (joined_small sign (centre n) n p i, record { face = n; face< = omega arith; listed = inl i }))
      (chained-to n (omega arith))

  pub same-group : (a b : ℕ) → a < 12 → b < 12 → SameGroup sign centre a b
  unfolding groups_of
  same-group a b h k = record { chained = chained-to 6 (omega arith) a b h k; grouped = chain_same }

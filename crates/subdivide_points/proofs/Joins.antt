-- Lists joined one after the other: where most are empty, where each has two elements, and the points that have an edge with one point. Assumes nothing.
use Prim.Native.Nat.{ℕ, zero, suc, ◌+◌, ◌-◌, ◌*◌, ◌≤◌, ◌<◌, min, max}
use mathlib.Core.Path.{◌≡◌, refl, sym, ap, ◌∙◌}
use mathlib.Core.Bool.{Bool, true, false, ◌&&◌}
use mathlib.Core.Logic.{⊎_elim}
use mathlib.Core.List.{List, [], ◌∷◌, ◌++◌, append-nil, append_assoc}
use native.Mathlib.Omega.{arith}
use lib.ListN.{length, get_or, length-append, get_or-append}
use lib.Seq.{get_or-append-add}
use lib.Dec.{eqb, leb, ltb}
use borrow.Author.Tests.{eq-eqb, ne_eqb, lt-ltb, le-ltb, le-leb, lt-leb}
use Rattle.lists.specs.Sort.{tabulate, cons_if}
use Rattle.lists.proofs.Laws.{eq-or-ne, lt-or-le}
use Rattle.lists.proofs.Regions.{element_of, tab-own}
use Rattle.rule_sheet.specs.Quads.{Quad, all, side, is_edge}
use Rattle.rule_sheet.specs.Edges.{Pair, pair, join_to, join_of, edge_if, edges_from, edges_of}
use Rattle.rule_sheet.specs.Tests.{proper}
use Rattle.sheet.proofs.Edges.{join-append, join-to, join-ext}
use Rattle.edges.proofs.Sides.{no_loop}
use Rattle.rule_finer.specs.Smoothed.{those}

-- ---- joins with empty lists

pub join-none : {A : Type 0} (f : ℕ → List A) (n : ℕ) → ((i : ℕ) → i < n → f i ≡ []) → join_to f n ≡ []
unfolding join_to
join-none f zero h = refl
join-none f (suc n) h = rw (join-none f n (λ i l. h i (omega arith)), h n (omega arith))

-- all but one are empty
pub join_one : {A : Type 0} (f : ℕ → List A) (n k : ℕ) → k < n → ((i : ℕ) → i < n → (i ≡ k → ⊥) → f i ≡ []) → join_to f n ≡ f k
unfolding join_to
join_one f zero k l h = absurd (omega arith)
join_one f (suc n) k l h = ⊎_elim
    (λ (e : k ≡ n). rw (join-none f n (λ i b. h i (omega arith) (λ q. omega arith)), e))
    (λ (ne : k ≡ n → ⊥). rw (join_one f n k (omega arith) (λ i b q. h i (omega arith) q), h n (omega arith) (λ q. ne (sym q)), append-nil))
    (eq-or-ne k n)

-- ---- a join over a list, by its elements

join-tab : {A B : Type 0} (f : A → List B) (g : ℕ → A) (n : ℕ) → join_of f (tabulate g n) ≡ join_to (λ i. f (g i)) n
unfolding join_to tabulate join_of
join-tab f g zero = refl
join-tab f g (suc n) = join-append f (tabulate g n) (g n ∷ []) ∙ rw (join-tab f g n, append-nil)

pub join-list : {A B : Type 0} (d : A) (f : A → List B) (l : List A) → join_of f l ≡ join_to (λ i. f (get_or l i d)) (length l)
join-list d f l = ap (join_of f) (sym (tab-own d l (length l) refl)) ∙ join-tab f (element_of d l) (length l)

-- ---- each list has two elements

module _ {A B : Type 0} (d : A) (x : B) (f : A → List B) where
  abbrev pub Twos : List A → Type 0
  Twos l = (j : ℕ) → j < length l → length (f (get_or l j d)) ≡ 2

  pub length-twos : (l : List A) → Twos l → length (join_of f l) ≡ 2 * length l
  unfolding join_of
  length-twos [] h = refl
  length-twos (y ∷ l) h = length-append (f y) (join_of f l) ∙ omega (arith, h 0 (omega arith), length-twos l (λ j b. h (suc j) (omega arith)))

  pub twos-at : (l : List A) → Twos l → (j t : ℕ) → j < length l → t < 2 → get_or (join_of f l) (2 * j + t) x ≡ get_or (f (get_or l j d)) t x
  unfolding join_of
  twos-at [] h j t b c = absurd (omega arith)
  twos-at (y ∷ l) h zero t b c =
      let e : 2 * 0 + t ≡ t = omega arith in
      rw e (get_or-append (f y) (join_of f l) x t (omega (arith, h 0 (omega arith))))
  twos-at (y ∷ l) h (suc j) t b c =
      let e : 2 * suc j + t ≡ length (f y) + (2 * j + t) = omega (arith, h 0 (omega arith)) in
      rw e (get_or-append-add (f y) (join_of f l) (2 * j + t) x ∙ twos-at l (λ i a. h (suc i) (omega arith)) j t (omega arith) c)

-- ---- the numbers that pass a test, below and above one that fails

-- the number b alone where it is above v and passes, else nothing
abbrev above : (ℕ → Bool) → ℕ → ℕ → List ℕ
above p v b = cons_if (ltb v b && p b) b []

above-is : (p : ℕ → Bool) (v b : ℕ) → p v ≡ false → v ≤ b → above p v b ≡ cons_if (p b) b []
above-is p v b h l = ⊎_elim
    (λ (e : b ≡ v). rw (e, h, le-ltb v v (omega arith)))
    (λ (ne : b ≡ v → ⊥). rw (lt-ltb v b (omega arith)))
    (eq-or-ne b v)

those-split : (p : ℕ → Bool) (v k : ℕ) → p v ≡ false → those p (v + k) ≡ those p v ++ join_to (above p v) (v + k)
unfolding those join_to
those-split p v zero h =
    let e : v + 0 ≡ v = omega arith in
    rw (e, join-none (above p v) v (λ i l. rw (le-ltb v i (omega arith))), append-nil)
those-split p v (suc k) h =
    let e : v + suc k ≡ suc (v + k) = omega arith in
    rw (e, those-split p v k h, above-is p v (v + k) h (omega arith)) (append_assoc (those p v) (join_to (above p v) (v + k)) (cons_if (p (v + k)) (v + k) []))

-- ---- the points that an edge leads to from v, of all edges that pass a test

and_no : (b : Bool) → (b && false) ≡ false
and_no true = refl
and_no false = refl

-- where the edge e leads from v, if it has v and passes
abbrev pub others : (Pair → Bool) → ℕ → Pair → List ℕ
others t v e = cons_if (eqb e.low v && t e) e.high (cons_if (eqb e.high v && t e) e.low [])

pub edge-swap : (S : List Quad) (u v : ℕ) → is_edge S u v ≡ is_edge S v u
edge-swap S u v = let e : side S u v + side S v u ≡ side S v u + side S u v = omega arith in rw e

pub pair-swap : (u v : ℕ) → pair u v ≡ pair v u
pair-swap u v =
    let lo : min u v ≡ min v u = omega arith in
    let hi : max u v ≡ max v u = omega arith in
    rw (lo, hi)

module _ (np : ℕ) (S : List Quad) (t : Pair → Bool) (v : ℕ) (good : all (proper np) S ≡ true) (hv : v < np) where
  -- x has an edge with v that passes
  abbrev pub meets : ℕ → Bool
  meets x = is_edge S v x && t (pair v x)

  abbrev cell : ℕ → ℕ → List ℕ
  cell a b = join_of (others t v) (edge_if S a b)

  no_edge : (a : ℕ) → is_edge S a a ≡ false
  no_edge a = rw (no_loop np S a good)

  not-self : meets v ≡ false
  not-self = rw (no_loop np S v good)

  cell-none : (a b : ℕ) → b ≤ a → cell a b ≡ []
  unfolding join_of
  cell-none a b h = ⊎_elim
      (λ (e : b ≡ a). rw (e, no_edge a, and_no (leb a a)))
      (λ (ne : b ≡ a → ⊥). rw (lt-leb a b (omega arith)))
      (eq-or-ne b a)

  cell-up : (a b : ℕ) → a < b → cell a b ≡ cons_if (is_edge S a b && (eqb a v && t (pair a b))) b (cons_if (is_edge S a b && (eqb b v && t (pair a b))) a [])
  unfolding join_of
  cell-up a b h =
      let lo : min a b ≡ a = omega arith in
      let hi : max a b ≡ b = omega arith in
      rw (le-leb a b (omega arith), lo, hi) (go (is_edge S a b))
    where
      e : Pair
      e = record { low = a; high = b }

      go : (s : Bool) → join_of (others t v) (cons_if s e []) ≡ cons_if (s && (eqb a v && t e)) b (cons_if (s && (eqb b v && t e)) a [])
      go true = append-nil (others t v e)
      go false = refl

  at_low : (b : ℕ) → v < b → cell v b ≡ cons_if (meets b) b []
  at_low b h = cell-up v b h ∙ rw (eq-eqb v v refl, ne_eqb b v (λ e. omega arith), and_no (is_edge S v b))

  at_high : (a : ℕ) → a < v → cell a v ≡ cons_if (meets a) a []
  at_high a h = cell-up a v h ∙ rw (eq-eqb v v refl, ne_eqb a v (λ e. omega arith), and_no (is_edge S a v), edge-swap S a v, pair-swap a v)

  elsewhere : (a b : ℕ) → a < b → (a ≡ v → ⊥) → (b ≡ v → ⊥) → cell a b ≡ []
  elsewhere a b h p q = cell-up a b h ∙ rw (ne_eqb a v p, ne_eqb b v q, and_no (is_edge S a b))

  row_low : (a : ℕ) → a < v → join_to (cell a) np ≡ cons_if (meets a) a []
  row_low a h =
      join_one (cell a) np v hv (λ b l ne. ⊎_elim
      (λ (k : a < b). elsewhere a b k (λ e. omega arith) ne)
      (λ (k : b ≤ a). cell-none a b k)
      (lt-or-le a b))
      ∙ at_high a h

  row-high : (a : ℕ) → v < a → join_to (cell a) np ≡ []
  row-high a h = join-none (cell a) np (λ b l. ⊎_elim
      (λ (k : a < b). elsewhere a b k (λ e. omega arith) (λ e. omega arith))
      (λ (k : b ≤ a). cell-none a b k)
      (lt-or-le a b))

  row_at : join_to (cell v) np ≡ join_to (above meets v) np
  row_at = join-ext (cell v) (above meets v) np (λ b l. ⊎_elim
      (λ (k : v < b). at_low b k ∙ sym (above-is meets v b not-self (omega arith)))
      (λ (k : b ≤ v). cell-none v b k ∙ rw (le-ltb v b k))
      (lt-or-le v b))

  rows : (k : ℕ) → join_to (λ a. join_to (cell a) np) (suc v + k) ≡ those meets v ++ join_to (above meets v) np
  unfolding join_to those
  rows zero =
      let e : suc v + 0 ≡ suc v = omega arith in
      rw (e, join-ext (λ a. join_to (cell a) np) (λ i. cons_if (meets i) i []) v (λ i l. row_low i l), row_at)
  rows (suc k) =
      let e : suc v + suc k ≡ suc (suc v + k) = omega arith in
      rw (e, rows k, row-high (suc v + k) (omega arith), append-nil)

  -- the points that v has such an edge with, ascending
  pub others-ascend : join_of (others t v) (edges_of np S) ≡ those meets np
  unfolding edges_of
  others-ascend =
      let n : suc v + (np - suc v) ≡ np = omega arith in
      let m : v + (np - v) ≡ np = omega arith in
      join-to (others t v) (edges_from np S) np
      ∙ join-ext _ (λ a. join_to (cell a) np) np (λ a _. join-to (others t v) (edge_if S a) np)
      ∙ ap (join_to (λ a. join_to (cell a) np)) (sym n)
      ∙ rows (np - suc v)
      ∙ ap (λ (k : ℕ). those meets v ++ join_to (above meets v) k) (sym m)
      ∙ sym (those-split meets v (np - v) not-self)
      ∙ ap (those meets) m

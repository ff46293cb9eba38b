-- The laws of a test of all elements of a list. Assumes nothing.
use Prim.Native.Nat.{ℕ, zero, suc, ◌<◌}
use mathlib.Core.Path.{◌≡◌, refl, sym, ◌∙◌}
use mathlib.Core.Bool.{Bool, true, false, ◌&&◌, and_assoc}
use mathlib.Core.List.{List, [], ◌∷◌, ◌++◌, map}
use native.Mathlib.Omega.{arith}
use lib.ListN.{length, get_or}
use Rattle.lists.specs.Sort.{cons_if}
use Rattle.lists.specs.Every.{every}
use Rattle.lists.proofs.Every.{and_left, and_right, every-zero, every-on}
use Rattle.lists.proofs.Order.{Each}
use Rattle.rule_sheet.specs.Quads.{all}
use Rattle.rule_sheet.specs.Edges.{join_to}

module _ {A : Type 0} (p : A → Bool) where
  pub all_append : (l m : List A) → all p (l ++ m) ≡ (all p l && all p m)
  all_append [] m = refl
  all_append (x ∷ l) m = rw (all_append l m) (sym (and_assoc (p x) (all p l) (all p m)))

  -- each element passes
  pub all-get : (l : List A) (i : ℕ) (d : A) → all p l ≡ true → i < length l → p (get_or l i d) ≡ true
  all-get [] i d e h = absurd (omega arith)
  all-get (x ∷ l) zero d e h = and_left (p x) (all p l) e
  all-get (x ∷ l) (suc i) d e h = all-get l i d (and_right (p x) (all p l) e) (omega arith)

  pub all-each : (d : A) (l : List A) → Each d (λ x. p x ≡ true) l → all p l ≡ true
  all-each d [] h = refl
  all-each d (x ∷ l) h = rw (h 0 (omega arith), all-each d l (λ i k. h (suc i) (omega arith)))

  -- one element, if a test holds
  pub all-if : (x : A) (b : Bool) → (b ≡ true → p x ≡ true) → all p (cons_if b x []) ≡ true
  all-if x true h = rw (h refl)
  all-if x false h = refl

  -- lists one after the other
  pub all_join : (f : ℕ → List A) (n : ℕ) → all p (join_to f n) ≡ every (λ i. all p (f i)) n
  unfolding join_to every
  all_join f zero = refl
  all_join f (suc n) = all_append (join_to f n) (f n) ∙ rw (all_join f n)

  pub all-joined : (f : ℕ → List A) (n : ℕ) → ((i : ℕ) → i < n → all p (f i) ≡ true) → all p (join_to f n) ≡ true
  all-joined f n h = all_join f n ∙ every-on (λ i. all p (f i)) 0 n (every-zero (λ i. all p (f i))) (omega arith) (λ i z l. h i l)

pub all_map : {A B : Type 0} (p : B → Bool) (f : A → B) (l : List A) → all p (map f l) ≡ all (λ x. p (f x)) l
all_map p f [] = refl
all_map p f (x ∷ l) = rw (all_map p f l)

-- what passes a test passes a weaker one
pub all_weaker : {A : Type 0} (p q : A → Bool) (l : List A) → ((x : A) → p x ≡ true → q x ≡ true) → all p l ≡ true → all q l ≡ true
all_weaker p q [] h e = refl
all_weaker p q (x ∷ l) h e = rw (h x (and_left (p x) (all p l) e), all_weaker p q l h (and_right (p x) (all p l) e))

-- Tests that all edges of a sheet pass, and counts of those that pass. Assumes nothing.
use Prim.Native.Nat.{ℕ, ◌+◌, ◌≤◌, ◌<◌}
use mathlib.Core.Path.{◌≡◌, refl, sym, ap, ◌∙◌}
use mathlib.Core.Bool.{Bool, true, false, not, ◌&&◌}
use mathlib.Core.List.{List, [], ◌∷◌}
use native.Mathlib.Omega.{arith}
use lib.Dec.{eqb, leb}
use borrow.Author.Tests.{ltb-true, leb-true, ne_eqb, lt-ltb, le-leb}
use Rattle.lists.specs.Sort.{cons_if}
use Rattle.lists.specs.Every.{every}
use Rattle.lists.proofs.Every.{and_left, and_right, every-at, every-ext, every-each}
use Rattle.rule_sheet.specs.Quads.{Quad, num, all, side, is_edge}
use Rattle.rule_sheet.specs.Edges.{Pair, pair, edge_if, edges_from, edges_of, count}
use Rattle.rule_sheet.proofs.All.{all_join, all-if}

all_edges : (p : Pair → Bool) (n : ℕ) (S : List Quad) → all p (edges_of n S) ≡ every (λ a. every (λ b. all p (edge_if S a b)) n) n
unfolding edges_of
all_edges p n S = all_join p (edges_from n S) n ∙ every-ext _ _ n (λ a _. all_join p (edge_if S a) n)

if-all : {A : Type 0} (p : A → Bool) (x : A) (b : Bool) → b ≡ true → all p (cons_if b x []) ≡ true → p x ≡ true
if-all p x true e h = and_left _ _ h
if-all p x false e h = absurd (let z : ◌≡◌ {A = ℕ} 0 1 = ap num e in omega arith)

pub pair-low : (a b : ℕ) → a ≤ b → (pair a b).low ≡ a
pair-low a b h = omega arith

pub pair-high : (a b : ℕ) → a ≤ b → (pair a b).high ≡ b
pair-high a b h = omega arith

module _ (n : ℕ) (S : List Quad) (p : Pair → Bool) where
  -- a test that all edges pass
  pub edges-pass : ((a b : ℕ) → a ≤ b → a < n → b < n → 0 < side S a b + side S b a → p (pair a b) ≡ true) → all p (edges_of n S) ≡ true
  edges-pass h = all_edges p n S ∙ every-each _ n (λ a k. every-each _ n (λ b l. all-if p (pair a b) (leb a b && is_edge S a b) (λ e.
      h a b (leb-true a b (and_left (leb a b) (is_edge S a b) e)) k l (ltb-true 0 _ (and_right (leb a b) (is_edge S a b) e)))))

  -- what each edge passes where all do
  pub edge-passes : all p (edges_of n S) ≡ true → (a b : ℕ) → a ≤ b → a < n → b < n → 0 < side S a b + side S b a → p (pair a b) ≡ true
  edge-passes h a b le k l pos =
      let t = every-at _ n b (every-at _ n a (sym (all_edges p n S) ∙ h) k) l in
      if-all p (pair a b) (leb a b && is_edge S a b) (both (leb a b) (is_edge S a b) (le-leb a b le) (lt-ltb 0 _ pos)) t
    where
      both : (x y : Bool) → x ≡ true → y ≡ true → (x && y) ≡ true
      both x y e f = rw (e, f)

-- ---- tests of the elements of a list

pub all-and : {A : Type 0} (p q : A → Bool) (l : List A) → all (λ x. p x && q x) l ≡ (all p l && all q l)
all-and p q [] = refl
all-and p q (x ∷ l) = rw (all-and p q l) (swap (p x) (q x) (all p l) (all q l))
  where
    swap : (a b c d : Bool) → ((a && b) && (c && d)) ≡ ((a && c) && (b && d))
    swap true true c d = refl
    swap true false true d = refl
    swap true false false d = refl
    swap false b c d = refl

-- all fail a test where none is counted
pub all_none : {A : Type 0} (p : A → Bool) (l : List A) → all (λ x. not (p x)) l ≡ eqb (count p l) 0
all_none p [] = refl
all_none p (x ∷ l) = go (p x) (all_none p l)
  where
    go : (b : Bool) → all (λ x. not (p x)) l ≡ eqb (count p l) 0 → (not b && all (λ x. not (p x)) l) ≡ eqb (num b + count p l) 0
    go true e = sym (ne_eqb (1 + count p l) 0 (λ z. omega arith))
    go false e = let z : 0 + count p l ≡ count p l = omega arith in rw z e

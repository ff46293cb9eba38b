-- A closed sheet has twice as many edges as quads. Assumes nothing.
use mathlib.Core.Path.{◌≡◌, refl, ap, sym, ◌∙◌}
use mathlib.Core.Logic.{◌⊎◌, inl, inr}
use Prim.Native.Nat.{ℕ, zero, suc, ◌+◌, ◌*◌, ◌≤◌, ◌<◌}
use mathlib.Core.List.{List, [], ◌∷◌}
use mathlib.Core.Bool.{Bool, true, false, cond, ◌&&◌}
use native.Mathlib.Omega.{arith}
use lib.Dec.{eqb, leb, ltb}
use lib.ListN.{length, get_or, length-append}
use borrow.Author.Tests.{lt-ltb, le-leb, lt-leb}
use Rattle.lists.specs.Sort.{cons_if}
use Rattle.lists.proofs.Laws.{lt-or-le}
use Rattle.rule_sheet.specs.Quads.{Quad, quad, num, is, corners, at, valence, side, is_edge}
use Rattle.rule_sheet.specs.Edges.{pair, join_to, edge_if, edges_from, edges_of}
use Rattle.rule_sheet.specs.Closed.{at_point, Closed}
use Rattle.rule_sheet.proofs.Sums.{upto, upto-ext}
use Rattle.rule_sheet.proofs.FirstUse.{is_same, is-other}
use Rattle.rule_sheet.specs.Claims.{Below, Differ, All}
use Rattle.rule_passes.specs.Choices.{none_quad}
use Rattle.rule_sheet.proofs.Rings.{zero_or}
use Rattle.rule_sheet.proofs.Weigh.{at_same, side-at-end}
use Rattle.rule_coarsen.proofs.MergePass.{sum-zero, no_loop}
use Rattle.rule_coarsen.proofs.Renumber.{upto_add, upto_zero}
use Rattle.safety_rules.proofs.Finer.{handshake, all-at}

-- ---- the length of the list of edges

pub length-if : {A : Type 0} (b : Bool) (x : A) → length (cons_if b x []) ≡ num b
length-if true x = refl
length-if false x = refl

pub length-join : {A : Type 0} (f : ℕ → List A) (n : ℕ) → length (join_to f n) ≡ upto n (λ i. length (f i))
unfolding join_to
length-join f zero = refl
length-join f (suc n) = omega (arith, length-append (join_to f n) (f n), length-join f n)

pub length-edges : (n : ℕ) (S : List Quad) → length (edges_of n S) ≡ upto n (λ a. upto n (λ b. num (leb a b && is_edge S a b)))
unfolding edges_of
length-edges n S =
    length-join (edges_from n S) n
    ∙ upto-ext _ (λ a. upto n (λ b. num (leb a b && is_edge S a b))) n (λ a l.
    length-join (edge_if S a) n ∙ upto-ext _ (λ b. num (leb a b && is_edge S a b)) n (λ b k. length-if (leb a b && is_edge S a b) (pair a b)))

-- ---- half of a sum over pairs

-- the weight of the pairs that do not fall
abbrev upper : (ℕ → ℕ → ℕ) → ℕ → ℕ → ℕ
upper f a b = cond (leb a b) (f a b) 0

half : (f : ℕ → ℕ → ℕ) → ((a b : ℕ) → f a b ≡ f b a) → ((a : ℕ) → f a a ≡ 0) → (n : ℕ) → upto n (λ a. upto n (f a)) ≡ 2 * upto n (λ a. upto n (upper f a))
half f s z zero = refl
half f s z (suc n) = omega (
  arith,
  half f s z n,
  z n,
  upto_add n (λ a. f a n) (λ a. upto n (f a)),
  upto_add n (λ a. upper f a n) (λ a. upto n (upper f a)),
  upto-ext (f n) (λ a. f a n) n (λ a l. s n a),
  upto-ext (upper f n) (λ a. 0) n (λ a l. ap (λ x. cond x (f n a) 0) (lt-leb n a l)),
  upto_zero n,
  upto-ext (λ a. upper f a n) (λ a. f a n) n (λ a l. ap (λ x. cond x (f a n) 0) (le-leb a n (omega arith))),
  ap (λ x. cond x (f n n) 0) (le-leb n n (omega arith)),
)

-- ---- the sides at a point

-- each corner at a has one side that leads from a to a point below n
one_side : (n a p m k : ℕ) → k < n → upto n (λ b. at a (λ p n. is b n) p m k) ≡ at a (λ p n. 1) p m k
one_side n a p m k l = go (eqb m a)
  where
    single : (n : ℕ) → k < n → upto n (λ b. is b k) ≡ 1
    single zero h = absurd (omega arith)
    single (suc i) h = last (lt-or-le k i) (single i)
      where
        none : (j : ℕ) → j ≤ k → upto j (λ b. is b k) ≡ 0
        none zero g = refl
        none (suc j) g = omega (arith, none j (omega arith), is-other j k (λ e. omega arith))

        last : (k < i) ⊎ (i ≤ k) → (k < i → upto i (λ b. is b k) ≡ 1) → is i k + upto i (λ b. is b k) ≡ 1
        last (inl g) ih = omega (arith, ih g, is-other i k (λ e. omega arith))
        last (inr g) ih = let e : i ≡ k = omega arith in omega (arith, none i g, is_same i k e)

    go : (t : Bool) → upto n (λ b. cond t (is b k) 0) ≡ cond t 1 0
    go true = single n l
    go false = upto_zero n

pub sides-at : (n : ℕ) (S : List Quad) → Below n S → (a : ℕ) → upto n (λ b. side S a b) ≡ valence S a
unfolding Below
sides-at n [] h a = upto_zero n
sides-at n (quad w x y z ∷ S) h a = omega (
  arith,
  upto_add n (λ b. at a (λ p n. is b n) z w x + (at a (λ p n. is b n) w x y + (at a (λ p n. is b n) x y z + at a (λ p n. is b n) y z w))) (λ b. side S a b),
  upto_add n (λ b. at a (λ p n. is b n) z w x) (λ b. at a (λ p n. is b n) w x y + (at a (λ p n. is b n) x y z + at a (λ p n. is b n) y z w)),
  upto_add n (λ b. at a (λ p n. is b n) w x y) (λ b. at a (λ p n. is b n) x y z + at a (λ p n. is b n) y z w),
  upto_add n (λ b. at a (λ p n. is b n) x y z) (λ b. at a (λ p n. is b n) y z w),
  one_side n a z w x (h x (omega (arith, at_same x (λ p n. 1) w y))),
  one_side n a w x y (h y (omega (arith, at_same y (λ p n. 1) x z))),
  one_side n a x y z (h z (omega (arith, at_same z (λ p n. 1) y w))),
  one_side n a y z w (h w (omega (arith, at_same w (λ p n. 1) z x))),
  sides-at n S (λ v k. h v (omega arith)) a,
)

-- and each has one that leads to a
pub sides-to : (n : ℕ) (S : List Quad) → Below n S → (a : ℕ) → upto n (λ b. side S b a) ≡ valence S a
unfolding Below
sides-to n S h a = upto-ext (λ b. side S b a) (λ b. at_point S a (λ p n. is b p)) n (λ b l. side-at-end S b a) ∙ before_at n S h a
  where
    before_at : (n : ℕ) (S : List Quad) → Below n S → (a : ℕ) → upto n (λ b. at_point S a (λ p n. is b p)) ≡ valence S a
    before_at n [] h a = upto_zero n
    before_at n (quad w x y z ∷ S) h a = omega (
      arith,
      upto_add n (λ b. at a (λ p n. is b p) z w x + (at a (λ p n. is b p) w x y + (at a (λ p n. is b p) x y z + at a (λ p n. is b p) y z w))) (λ b. at_point S a (λ p n. is b p)),
      upto_add n (λ b. at a (λ p n. is b p) z w x) (λ b. at a (λ p n. is b p) w x y + (at a (λ p n. is b p) x y z + at a (λ p n. is b p) y z w)),
      upto_add n (λ b. at a (λ p n. is b p) w x y) (λ b. at a (λ p n. is b p) x y z + at a (λ p n. is b p) y z w),
      upto_add n (λ b. at a (λ p n. is b p) x y z) (λ b. at a (λ p n. is b p) y z w),
      one_side n a x w z (h z (omega (arith, at_same z (λ p n. 1) y w))),
      one_side n a y x w (h w (omega (arith, at_same w (λ p n. 1) z x))),
      one_side n a z y x (h x (omega (arith, at_same x (λ p n. 1) w y))),
      one_side n a w z y (h y (omega (arith, at_same y (λ p n. 1) x z))),
      before_at n S (λ v k. h v (omega arith)) a,
    )

-- ---- closed sheets

module _ (S : List Quad) (differ : All Differ S) (closed : Closed S) where
  -- a closed sheet has as many sides one way as the other
  side-sym : (a b : ℕ) → side S a b ≡ side S b a
  unfolding Closed
  side-sym a b = go (zero_or (side S a b + side S b a))
    where
      go : (side S a b + side S b a ≡ 0) ⊎ (0 < side S a b + side S b a) → side S a b ≡ side S b a
      go (inl e) = omega arith
      go (inr h) = (closed a b h).0 ∙ sym (closed a b h).1

  no-loops : (a : ℕ) → side S a a ≡ 0
  no-loops a = sum-zero (corners (at a (λ p n. is a n))) none_quad S (λ j l. no_loop (get_or S j none_quad) (all-at S differ j l) a)

  -- and each edge once
  edge-side : (a b : ℕ) → num (leb a b && is_edge S a b) ≡ upper (side S) a b
  unfolding Closed
  edge-side a b = go (leb a b) (zero_or (side S a b + side S b a))
    where
      go : (t : Bool) → (side S a b + side S b a ≡ 0) ⊎ (0 < side S a b + side S b a) → num (t && is_edge S a b) ≡ cond t (side S a b) 0
      go false e = refl
      go true (inl e) = ap (λ k. num (ltb 0 k)) e ∙ (let z : side S a b ≡ 0 = omega arith in sym z)
      go true (inr h) = ap num (lt-ltb 0 (side S a b + side S b a) h) ∙ sym (closed a b h).0

  pub edges-closed : (n : ℕ) → Below n S → length (edges_of n S) ≡ 2 * length S
  edges-closed n below = omega (
    arith,
    length-edges n S,
    upto-ext (λ a. upto n (λ b. num (leb a b && is_edge S a b))) (λ a. upto n (upper (side S) a)) n (λ a l. upto-ext _ (upper (side S) a) n (λ b k. edge-side a b)),
    half (side S) side-sym no-loops n,
    upto-ext (λ a. upto n (λ b. side S a b)) (λ a. valence S a) n (λ a l. sides-at n S below a),
    handshake n S below,
  )

-- Sums over the quads of one label. Assumes nothing.
use mathlib.Core.Path.{◌≡◌, refl, ap, ap₂}
use Prim.Native.Nat.{ℕ, zero, suc, ◌+◌, ◌*◌, ◌-◌, ◌≤◌, ◌<◌}
use mathlib.Core.List.{List, [], ◌∷◌, map}
use mathlib.Core.Bool.{Bool, true, false, cond}
use native.Mathlib.Omega.{arith}
use native.Mathlib.Decide.{ℕ_discrete}
use lib.Dec.{eqb}
use lib.ListN.{length, set, get_or}
use Rattle.rule_sheet.specs.Quads.{Quad, label_sum, touches}
use Rattle.rule_sheet.specs.Claims.{NoClash}

module _ {A : Type 0} where
  pub label-sum-set : (f : A → ℕ) (l : ℕ) (s : List A) (labels : List ℕ) (i : ℕ) (a d : A) → i < length s → length labels ≡ length s
      → label_sum f l (set s i a) labels + cond (eqb (get_or labels i 8) l) (f (get_or s i d)) 0 ≡ label_sum f l s labels + cond (eqb (get_or labels i 8) l) (f a) 0
  label-sum-set f l [] labels i a d h e = absurd (omega arith)
  label-sum-set f l (x ∷ s) [] i a d h e = absurd (omega arith)
  label-sum-set f l (x ∷ s) (k ∷ labels) zero a d h e = omega arith
  label-sum-set f l (x ∷ s) (k ∷ labels) (suc i) a d h e = omega (arith, label-sum-set f l s labels i a d (omega arith) (omega arith))

  pub label-sum-at : (f : A → ℕ) (l : ℕ) (s : List A) (labels : List ℕ) (i : ℕ) (d : A) → i < length s → length labels ≡ length s → cond (eqb (get_or labels i 8) l) (f (get_or s i d)) 0 ≤ label_sum f l s labels
  label-sum-at f l [] labels i d h e = absurd (omega arith)
  label-sum-at f l (x ∷ s) [] i d h e = absurd (omega arith)
  label-sum-at f l (x ∷ s) (k ∷ labels) zero d h e = omega arith
  label-sum-at f l (x ∷ s) (k ∷ labels) (suc i) d h e = omega (arith, label-sum-at f l s labels i d (omega arith) (omega arith))

  pub label-sum-le : (f g : A → ℕ) → ((x : A) → f x ≤ g x) → (l : ℕ) (s : List A) (labels : List ℕ) → label_sum f l s labels ≤ label_sum g l s labels
  label-sum-le f g h l [] labels = omega arith
  label-sum-le f g h l (x ∷ s) [] = omega arith
  label-sum-le f g h l (x ∷ s) (k ∷ labels) = omega (arith, one (eqb k l), label-sum-le f g h l s labels)
    where
      one : (b : Bool) → cond b (f x) 0 ≤ cond b (g x) 0
      one true = h x
      one false = omega arith

  pub label-sum-add : (f g : A → ℕ) (l : ℕ) (s : List A) (labels : List ℕ) → label_sum (λ x. f x + g x) l s labels ≡ label_sum f l s labels + label_sum g l s labels
  label-sum-add f g l [] labels = refl
  label-sum-add f g l (x ∷ s) [] = refl
  label-sum-add f g l (x ∷ s) (k ∷ labels) = omega (arith, one (eqb k l), label-sum-add f g l s labels)
    where
      one : (b : Bool) → cond b (f x + g x) 0 ≡ cond b (f x) 0 + cond b (g x) 0
      one true = refl
      one false = refl

pub label-sum-same : {A B : Type 0} (f : A → ℕ) (g : B → ℕ) (x : A) (y : B) (l : ℕ) (s : List A) (t : List B) (labels : List ℕ) → length s ≡ length t → ((j : ℕ) → j < length t → f (get_or s j x) ≡ g (get_or t j y)) → label_sum f l s labels ≡ label_sum g l t labels
label-sum-same f g x y l [] [] labels e h = refl
label-sum-same f g x y l [] (b ∷ t) labels e h = absurd (omega arith)
label-sum-same f g x y l (a ∷ s) [] labels e h = absurd (omega arith)
label-sum-same f g x y l (a ∷ s) (b ∷ t) [] e h = refl
label-sum-same f g x y l (a ∷ s) (b ∷ t) (k ∷ labels) e h = ap₂ (λ m n. cond (eqb k l) m 0 + n) (h 0 (omega arith)) (label-sum-same f g x y l s t labels (omega arith) (λ j i. h (suc j) (omega arith)))

pub label-sum-map : {A B : Type 0} (f : A → B) (g : B → ℕ) (l : ℕ) (s : List A) (labels : List ℕ) → label_sum g l (map f s) labels ≡ label_sum (λ x. g (f x)) l s labels
label-sum-map f g l [] labels = refl
label-sum-map f g l (x ∷ s) [] = refl
label-sum-map f g l (x ∷ s) (k ∷ labels) = ap (λ n. cond (eqb k l) (g (f x)) 0 + n) (label-sum-map f g l s labels)

-- Fewer touches, fewer clashes.
pub no-new-clash : (S S' : List Quad) (labels labels' : List ℕ) → ((v l : ℕ) → touches S labels v l ≡ 0 → touches S' labels' v l ≡ 0) → NoClash S labels → NoClash S' labels'
unfolding NoClash
no-new-clash S S' labels labels' h c v j k = go (ℕ_discrete (touches S labels v (2 * j)) 0)
  where
    go : Dec (touches S labels v (2 * j) ≡ 0) → touches S' labels' v (2 * j + 1) ≡ 0
    go (yes e) = absurd (omega (arith, k, h v (2 * j) e))
    go (no n) = h v (2 * j + 1) (c v j (omega arith))

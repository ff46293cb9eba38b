-- Splitting each quad into four keeps rings; new points have four quads. Assumes nothing.
use mathlib.Core.Path.{◌≡◌, refl, ap, ap₂, sym, ◌∙◌, subst}
use mathlib.Core.Logic.{◌⊎◌, inl, inr, ◌≢◌}
use Prim.Native.Nat.{ℕ, zero, suc, ◌+◌, ◌*◌, ◌≤◌, ◌<◌}
use mathlib.Core.List.{List, [], ◌∷◌}
use mathlib.Core.Bool.{Bool, true, false, cond}
use native.Mathlib.Omega.{arith}
use native.Mathlib.Nat.{add-zero, add-suc, zero-mul, suc-mul, mul-zero}
use native.Mathlib.Decide.{ℕ_discrete, dec_lt}
use lib.Dec.{eqb}
use lib.ListN.{length, get_or}
use borrow.Author.Tests.{ne_eqb}
use Rattle.rule_sheet.specs.Closed.{at_point, Ring, Rings, Closed}
use Rattle.rule_sheet.specs.Flat.{flat_quads}
use Rattle.rule_sheet.specs.Quads.{Quad, quad, num, is, sum, corners, total, at, valence, side, label_sum, touches}
use Rattle.rule_sheet.proofs.FirstUse.{is-other}
use Rattle.rule_sheet.proofs.Sums.{sum-tab, upto, upto-ext}
use Rattle.rule_finer.specs.Finer.{split, four_labels}
use Rattle.rule_sheet.specs.Squared.{sq, squared}
use Rattle.rule_sheet.specs.Claims.{Below, Differ, All, NoClash}
use Rattle.rule_passes.specs.Choices.{none_quad}
use Rattle.rule_sheet.proofs.Base.{eqb-self, is-self, pos-split, cyc-from, cyc-to}
use Rattle.rule_sheet.proofs.Rings.{zero_or, renamed, ring-same}
use Rattle.rule_sheet.proofs.Sums.{sum-at}
use Rattle.rule_sheet.proofs.FirstUse.{is_pos}
use Rattle.rule_sheet.proofs.Weigh.{at_same, at-diff, is_le, is-sym, side-at-end, rings-closed, at-point-le}
use Rattle.rule_coarsen.proofs.OneMerge.{total-zero}
use Rattle.rule_coarsen.proofs.MergePass.{sum-zero, no_loop}
use Rattle.rule_coarsen.proofs.Renumber.{valence-list, sum-by-point}
use Rattle.lists.specs.Sort.{itself}

-- The sum over all corners of a weight that also sees the quad's place.
abbrev pub index_total : (ℕ → ℕ → ℕ → ℕ → ℕ) → ℕ → List Quad → ℕ
index_total f i [] = 0
index_total f i (q ∷ S) = corners (f i) q + index_total f (suc i) S

index-total-plain : (f : ℕ → ℕ → ℕ → ℕ) (i : ℕ) (S : List Quad) → index_total (λ i. f) i S ≡ total f S
index-total-plain f i [] = refl
index-total-plain f i (q ∷ S) = ap (λ k. corners f q + k) (index-total-plain f (suc i) S)

-- A property of every corner and the quad's place; what it gives for sums.
abbrev Each : (ℕ → ℕ → ℕ → ℕ → Type 0) → ℕ → List Quad → Type 0
Each P i [] = Unit {0}
Each P i (quad a b c d ∷ S) = (P i d a b × P i a b c × P i b c d × P i c d a) × Each P (suc i) S

index-total-ext : (f g : ℕ → ℕ → ℕ → ℕ → ℕ) (i : ℕ) (S : List Quad) → Each (λ i p m n. f i p m n ≡ g i p m n) i S → index_total f i S ≡ index_total g i S
index-total-ext f g i [] e = refl
index-total-ext f g i (quad a b c d ∷ S) ((p, q, r, s), e) = omega (arith, index-total-ext f g (suc i) S e)

index-total-add : (f g : ℕ → ℕ → ℕ → ℕ → ℕ) (i : ℕ) (S : List Quad) → index_total (λ i p m n. f i p m n + g i p m n) i S ≡ index_total f i S + index_total g i S
index-total-add f g i [] = refl
index-total-add f g i (quad a b c d ∷ S) = omega (arith, index-total-add f g (suc i) S)

-- The sides from u to v, with a weight of the quad's place.
abbrev pub along : ℕ → ℕ → ℕ → ℕ → ℕ → ℕ
along u v k a b = cond (eqb a u) (cond (eqb b v) k 0) 0

abbrev pub along_both : Bool → Bool → ℕ → ℕ
along_both x y k = cond x (cond y k 0) 0

abbrev pub along_quad : ℕ → ℕ → ℕ → Quad → ℕ
along_quad u v k (quad a b c d) = along u v k a b + (along u v k b c + (along u v k c d + along u v k d a))

along-cases : (u v k a b : ℕ) → ((along u v 1 a b ≡ 0) × (along u v k a b ≡ 0)) ⊎ ((along u v 1 a b ≡ 1) × (along u v k a b ≡ k))
along-cases u v k a b = go (eqb a u) (eqb b v)
  where
    go : (x y : Bool) → ((along_both x y 1 ≡ 0) × (along_both x y k ≡ 0)) ⊎ ((along_both x y 1 ≡ 1) × (along_both x y k ≡ k))
    go true true = inr (refl, refl)
    go true false = inl (refl, refl)
    go false y = inl (refl, refl)

along-quad-cases : (u v k : ℕ) (q : Quad) → along_quad u v 1 q ≤ 1 → ((along_quad u v 1 q ≡ 0) × (along_quad u v k q ≡ 0)) ⊎ ((along_quad u v 1 q ≡ 1) × (along_quad u v k q ≡ k))
along-quad-cases u v k (quad a b c d) h = go (along-cases u v k a b) (along-cases u v k b c) (along-cases u v k c d) (along-cases u v k d a)
  where
    Two : ℕ → ℕ → Type 0
    Two x y = ((x ≡ 0) × (y ≡ 0)) ⊎ ((x ≡ 1) × (y ≡ k))

    go : Two (along u v 1 a b) (along u v k a b) → Two (along u v 1 b c) (along u v k b c) → Two (along u v 1 c d) (along u v k c d) → Two (along u v 1 d a) (along u v k d a) → Two (along_quad u v 1 (quad a b c d)) (along_quad u v k (quad a b c d))
    go (inl (p, p')) (inl (q, q')) (inl (r, r')) (inl (t, t')) = inl (omega arith, omega arith)
    go (inl (p, p')) (inl (q, q')) (inl (r, r')) (inr (t, t')) = inr (omega arith, omega arith)
    go (inl (p, p')) (inl (q, q')) (inr (r, r')) (inl (t, t')) = inr (omega arith, omega arith)
    go (inl (p, p')) (inl (q, q')) (inr (r, r')) (inr (t, t')) = absurd (omega arith)
    go (inl (p, p')) (inr (q, q')) (inl (r, r')) (inl (t, t')) = inr (omega arith, omega arith)
    go (inl (p, p')) (inr (q, q')) (inl (r, r')) (inr (t, t')) = absurd (omega arith)
    go (inl (p, p')) (inr (q, q')) (inr (r, r')) z = absurd (omega arith)
    go (inr (p, p')) (inl (q, q')) (inl (r, r')) (inl (t, t')) = inr (omega arith, omega arith)
    go (inr (p, p')) (inl (q, q')) (inl (r, r')) (inr (t, t')) = absurd (omega arith)
    go (inr (p, p')) (inl (q, q')) (inr (r, r')) z = absurd (omega arith)
    go (inr (p, p')) (inr (q, q')) y z = absurd (omega arith)

abbrev pub sides_of : ℕ → ℕ → (ℕ → ℕ) → ℕ → List Quad → ℕ
sides_of u v h i [] = 0
sides_of u v h i (q ∷ S) = along_quad u v (h i) q + sides_of u v h (suc i) S

-- No side, no weight; one side, the weight of its quad.
none_of : (u v : ℕ) (h : ℕ → ℕ) (i : ℕ) (S : List Quad) → sides_of u v (λ i. 1) i S ≡ 0 → sides_of u v h i S ≡ 0
none_of u v h i [] e = refl
none_of u v h i (q ∷ S) e = go (along-quad-cases u v (h i) q (omega arith)) (none_of u v h (suc i) S (omega arith))
  where
    go : ((along_quad u v 1 q ≡ 0) × (along_quad u v (h i) q ≡ 0)) ⊎ ((along_quad u v 1 q ≡ 1) × (along_quad u v (h i) q ≡ h i)) → sides_of u v h (suc i) S ≡ 0 → along_quad u v (h i) q + sides_of u v h (suc i) S ≡ 0
    go (inl (p, r)) z = omega arith
    go (inr (p, r)) z = absurd (omega arith)

-- The quad with the side from u to v.
record Only (u v i : ℕ) (S : List Quad) : Type 0 where
  at_place : ℕ
  inside : at_place < length S
  there : along_quad u v 1 (get_or S at_place none_quad) ≡ 1
  weight : (h : ℕ → ℕ) → sides_of u v h i S ≡ h (i + at_place)

only : (u v i : ℕ) (S : List Quad) → sides_of u v (λ i. 1) i S ≡ 1 → Only u v i S
only u v i [] e = absurd (omega arith)
only u v i (q ∷ S) e = go (along-quad-cases u v 1 q (omega arith)) (only u v (suc i) S)
  where
    go : ((along_quad u v 1 q ≡ 0) × (along_quad u v 1 q ≡ 0)) ⊎ ((along_quad u v 1 q ≡ 1) × (along_quad u v 1 q ≡ 1)) → (sides_of u v (λ i. 1) (suc i) S ≡ 1 → Only u v (suc i) S) → Only u v i (q ∷ S)
    go (inr (p, p')) f = record {
      at_place = 0;
      inside = omega arith;
      there = p;
      weight = λ h. omega (arith, pos (along-quad-cases u v (h i) q (omega arith)), none_of u v h (suc i) S (omega arith), ap h (add-zero' i));
    }
      where
        add-zero' : (i : ℕ) → i + 0 ≡ i
        add-zero' i = omega arith

        pos : {k : ℕ} → ((along_quad u v 1 q ≡ 0) × (along_quad u v k q ≡ 0)) ⊎ ((along_quad u v 1 q ≡ 1) × (along_quad u v k q ≡ k)) → along_quad u v k q ≡ k
        pos (inl (z, _)) = absurd (omega arith)
        pos (inr (_, z)) = z
    go (inl (p, p')) f = later (f (omega arith))
      where
        later : Only u v (suc i) S → Only u v i (q ∷ S)
        later o = record {
          at_place = suc o.at_place;
          inside = omega (arith, o.inside);
          there = o.there;
          weight = λ h. omega (arith, zero-q h (along-quad-cases u v (h i) q (omega arith)), o.weight h, ap h (shift i o.at_place));
        }
          where
            shift : (i j : ℕ) → suc i + j ≡ i + suc j
            shift i j = omega arith

            zero-q : (h : ℕ → ℕ) → ((along_quad u v 1 q ≡ 0) × (along_quad u v (h i) q ≡ 0)) ⊎ ((along_quad u v 1 q ≡ 1) × (along_quad u v (h i) q ≡ h i)) → along_quad u v (h i) q ≡ 0
            zero-q h (inl (_, z)) = z
            zero-q h (inr (z, _)) = absurd (omega arith)

-- as the sums over corners have it: at the side's start, or at its end
sides-from : (u v : ℕ) (h : ℕ → ℕ) (i : ℕ) (S : List Quad) → index_total (λ i p m x. along u v (h i) m x) i S ≡ sides_of u v h i S
sides-from u v h i [] = refl
sides-from u v h i (quad a b c d ∷ S) = omega (arith, sides-from u v h (suc i) S)

sides-to : (u v : ℕ) (h : ℕ → ℕ) (i : ℕ) (S : List Quad) → index_total (λ i p m x. along u v (h i) p m) i S ≡ sides_of u v h i S
sides-to u v h i [] = refl
sides-to u v h i (quad a b c d ∷ S) = omega (arith, sides-to u v h (suc i) S)

pub side-one : (u v i : ℕ) (S : List Quad) → side S u v ≡ sides_of u v (λ i. 1) i S
side-one u v i [] = refl
side-one u v i (quad a b c d ∷ S) = omega (arith, one a b, one b c, one c d, one d a, side-one u v (suc i) S)
  where
    one : (a b : ℕ) → cond (eqb a u) (is v b) 0 ≡ along u v 1 a b
    one a b = ap (λ k. cond (eqb a u) k 0) (is-sym v b ∙ np (eqb b v))
      where
        np : (x : Bool) → num x ≡ cond x 1 0
        np true = refl
        np false = refl

pub along-pos : (u v a b : ℕ) → 0 < along u v 1 a b → (a ≡ u) × (b ≡ v)
along-pos u v a b h = go (ℕ_discrete a u) (ℕ_discrete b v)
  where
    zero-sd : (a ≢ u) ⊎ (b ≢ v) → along u v 1 a b ≡ 0
    zero-sd (inl n) = rw (ne_eqb a u n) refl
    zero-sd (inr n) = rw (ne_eqb b v n) (nothing (eqb a u))
      where
        nothing : (x : Bool) → cond {A = ℕ} x 0 0 ≡ 0
        nothing true = refl
        nothing false = refl

    go : Dec (a ≡ u) → Dec (b ≡ v) → (a ≡ u) × (b ≡ v)
    go (yes p) (yes q) = (p, q)
    go (yes p) (no n) = absurd (omega (arith, zero-sd (inr n)))
    go (no n) q = absurd (omega (arith, zero-sd (inl n)))

pub along-hit : (u v k : ℕ) → along u v k u v ≡ k
along-hit u v k = rw (eqb-self u, eqb-self v) refl

sd-miss : (u v k a b : ℕ) → (a ≡ u → b ≡ v → ⊥) → along u v k a b ≡ 0
sd-miss u v k a b h = go (ℕ_discrete a u)
  where
    go : Dec (a ≡ u) → along u v k a b ≡ 0
    go (yes p) = rw (p, eqb-self u, ne_eqb b v (h p)) refl
    go (no n) = rw (ne_eqb a u n) refl

four-apart : (a b c d : ℕ) → a ≢ b → a ≢ c → a ≢ d → b ≢ c → b ≢ d → c ≢ d → (x : ℕ) → is x a + (is x b + (is x c + (is x d + 0))) ≤ 1
four-apart a b c d ab ac ad bc bd cd x = go (zero_or (is x a)) (zero_or (is x b)) (zero_or (is x c))
  where
    off : (y z : ℕ) → y ≢ z → 0 < is x y → is x z ≡ 0
    off y z n h = is-other x z (λ e. n (sym (is_pos x y h) ∙ e))

    go : (is x a ≡ 0) ⊎ (0 < is x a) → (is x b ≡ 0) ⊎ (0 < is x b) → (is x c ≡ 0) ⊎ (0 < is x c) → is x a + (is x b + (is x c + (is x d + 0))) ≤ 1
    go (inr h) _ _ = omega (arith, is_le x a, off a b ab h, off a c ac h, off a d ad h)
    go (inl z) (inr h) _ = omega (arith, is_le x b, off b c bc h, off b d bd h)
    go (inl z) (inl y) (inr h) = omega (arith, is_le x c, off c d cd h)
    go (inl z) (inl y) (inl w) = omega (arith, is_le x d)

-- different numbers that get different names: each name once
sum-once : (f : ℕ → ℕ) (x : ℕ) (w : List ℕ) → ((k : ℕ) → sum (is k) w ≤ 1) → ((y z : ℕ) → 0 < sum (is y) w → 0 < sum (is z) w → f y ≡ f z → y ≡ z) → sum (λ y. is x (f y)) w ≤ 1
sum-once f x [] a i = omega arith
sum-once f x (y ∷ w) a i = go (zero_or (is x (f y))) (sum-once f x w (λ k. omega (arith, a k)) (λ u v hu hv. i u v (omega arith) (omega arith)))
  where
    rest : (w : List ℕ) → sum (is y) w ≡ 0 → x ≡ f y → ((z : ℕ) → 0 < sum (is z) w → f y ≡ f z → y ≡ z) → sum (λ z. is x (f z)) w ≡ 0
    rest [] n e j = refl
    rest (z ∷ w) n e j = omega (arith, is-other x (f z) (λ q. omega (arith, n, is-self y, ap (is y) (j z (omega (arith, is-self z)) (sym e ∙ q)))), rest w (omega arith) e (λ v h. j v (omega arith)))

    go : (is x (f y) ≡ 0) ⊎ (0 < is x (f y)) → sum (λ y. is x (f y)) w ≤ 1 → is x (f y) + sum (λ y. is x (f y)) w ≤ 1
    go (inl z) ih = omega arith
    go (inr h) ih = omega (arith, is_le x (f y), rest w (omega (arith, a y, is-self y)) (is_pos x (f y) h) (λ z k e. i y z (omega (arith, is-self y)) (omega arith) e))

unfoldable pub Side4 : ℕ → ℕ → ℕ → ℕ → ℕ → ℕ → Type 0
Side4 u v a b c d = ((a ≡ u) × (b ≡ v)) ⊎ (((b ≡ u) × (c ≡ v)) ⊎ (((c ≡ u) × (d ≡ v)) ⊎ ((d ≡ u) × (a ≡ v))))

pub which : (u v a b c d : ℕ) → 0 < along_quad u v 1 (quad a b c d) → Side4 u v a b c d
unfolding Side4
which u v a b c d h = go (pos-split (along u v 1 a b) _ h)
  where
    last : (0 < along u v 1 c d) ⊎ (0 < along u v 1 d a) → ((c ≡ u) × (d ≡ v)) ⊎ ((d ≡ u) × (a ≡ v))
    last (inl k) = inl (along-pos u v c d k)
    last (inr k) = inr (along-pos u v d a k)

    more : (0 < along u v 1 b c) ⊎ (0 < along u v 1 c d + along u v 1 d a) → ((b ≡ u) × (c ≡ v)) ⊎ (((c ≡ u) × (d ≡ v)) ⊎ ((d ≡ u) × (a ≡ v)))
    more (inl k) = inl (along-pos u v b c k)
    more (inr k) = inr (last (pos-split (along u v 1 c d) (along u v 1 d a) k))

    go : (0 < along u v 1 a b) ⊎ (0 < along u v 1 b c + (along u v 1 c d + along u v 1 d a)) → Side4 u v a b c d
    go (inl k) = inl (along-pos u v a b k)
    go (inr k) = inr (more (pos-split (along u v 1 b c) (along u v 1 c d + along u v 1 d a) k))

-- A quad of different corners goes along an edge one way only.
both_ways : (u v : ℕ) (q : Quad) → Differ q → 0 < along_quad u v 1 q → 0 < along_quad v u 1 q → ⊥
unfolding Side4
both_ways u v (quad a b c d) (ab, ac, ad, bc, bd, cd) h k = go (which u v a b c d h) (which v u a b c d k)
  where
    go : Side4 u v a b c d → Side4 v u a b c d → ⊥
    go (inl (p, q)) (inl (r, t)) = ab (p ∙ sym t)
    go (inl (p, q)) (inr (inl (r, t))) = ac (p ∙ sym t)
    go (inl (p, q)) (inr (inr (inl (r, t)))) = ad (p ∙ sym t)
    go (inl (p, q)) (inr (inr (inr (r, t)))) = bd (q ∙ sym r)
    go (inr (inl (p, q))) (inl (r, t)) = ac (sym (q ∙ sym r))
    go (inr (inl (p, q))) (inr (inl (r, t))) = bc (p ∙ sym t)
    go (inr (inl (p, q))) (inr (inr (inl (r, t)))) = bd (p ∙ sym t)
    go (inr (inl (p, q))) (inr (inr (inr (r, t)))) = ab (sym (p ∙ sym t))
    go (inr (inr (inl (p, q)))) (inl (r, t)) = bc (sym (p ∙ sym t))
    go (inr (inr (inl (p, q)))) (inr (inl (r, t))) = bd (sym (q ∙ sym r))
    go (inr (inr (inl (p, q)))) (inr (inr (inl (r, t)))) = cd (p ∙ sym t)
    go (inr (inr (inl (p, q)))) (inr (inr (inr (r, t)))) = ac (sym (p ∙ sym t))
    go (inr (inr (inr (p, q)))) (inl (r, t)) = bd (sym (p ∙ sym t))
    go (inr (inr (inr (p, q)))) (inr (inl (r, t))) = cd (sym (p ∙ sym t))
    go (inr (inr (inr (p, q)))) (inr (inr (inl (r, t)))) = ac (q ∙ sym r)
    go (inr (inr (inr (p, q)))) (inr (inr (inr (r, t)))) = ad (sym (p ∙ sym t))

-- one place of a list of proper quads
pub all-at : (S : List Quad) → All Differ S → (j : ℕ) → j < length S → Differ (get_or S j none_quad)
unfolding All
all-at [] a j l = absurd (omega arith)
all-at (q ∷ S) (p, a) zero l = p
all-at (q ∷ S) (p, a) (suc j) l = all-at S a j (omega arith)

each_map : (P Q : ℕ → ℕ → ℕ → ℕ → Type 0) → ((i p m x : ℕ) → P i p m x → Q i p m x) → (i : ℕ) (S : List Quad) → Each P i S → Each Q i S
each_map P Q f i [] e = tt
each_map P Q f i (quad a b c d ∷ S) ((p, q, r, s), e) = ((f i d a b p, f i a b c q, f i b c d r, f i c d a s), each_map P Q f (suc i) S e)

-- The weight of one place.
index-total-miss : (h : ℕ → ℕ → ℕ → ℕ) (k i : ℕ) (S : List Quad) → k < i → index_total (λ i p m x. cond (eqb i k) (h p m x) 0) i S ≡ 0
index-total-miss h k i [] l = refl
index-total-miss h k i (quad a b c d ∷ S) l = omega (arith, z (h d a b), z (h a b c), z (h b c d), z (h c d a), index-total-miss h k (suc i) S (omega arith))
  where
    z : (y : ℕ) → cond (eqb i k) y 0 ≡ 0
    z y = rw (ne_eqb i k (λ e. omega arith)) refl

index-total-at : (h : ℕ → ℕ → ℕ → ℕ) (k i j : ℕ) (S : List Quad) → k ≡ i + j → j < length S → index_total (λ i p m x. cond (eqb i k) (h p m x) 0) i S ≡ corners h (get_or S j none_quad)
index-total-at h k i j [] e l = absurd (omega arith)
index-total-at h k i zero (quad a b c d ∷ S) e l = omega (arith, z (h d a b), z (h a b c), z (h b c d), z (h c d a), index-total-miss h k (suc i) S (omega arith))
  where
    ki : i ≡ k
    ki = omega arith

    z : (y : ℕ) → cond (eqb i k) y 0 ≡ y
    z y = rw (ki, eqb-self k) refl
index-total-at h k i (suc j) (quad a b c d ∷ S) e l = omega (arith, z (h d a b), z (h a b c), z (h b c d), z (h c d a), index-total-at h k (suc i) j S (omega arith) (omega arith))
  where
    z : (y : ℕ) → cond (eqb i k) y 0 ≡ 0
    z y = rw (ne_eqb i k (λ q. omega arith)) refl

-- Sums over the quads of one label that see the quad's place.
abbrev ilsum : (ℕ → ℕ → ℕ → ℕ → ℕ) → ℕ → ℕ → List Quad → List ℕ → ℕ
ilsum f l i [] labels = 0
ilsum f l i (q ∷ S) [] = 0
ilsum f l i (q ∷ S) (k ∷ labels) = cond (eqb k l) (corners (f i) q) 0 + ilsum f l (suc i) S labels

abbrev EachQ : (ℕ → Quad → Type 0) → ℕ → List Quad → Type 0
EachQ P i [] = Unit {0}
EachQ P i (q ∷ S) = P i q × EachQ P (suc i) S

ilsum-plain : (f : ℕ → ℕ → ℕ → ℕ → ℕ) (g : ℕ → ℕ → ℕ → ℕ) (l i : ℕ) (S : List Quad) (labels : List ℕ) → ((i : ℕ) (q : Quad) → corners (f i) q ≡ corners g q) → ilsum f l i S labels ≡ label_sum (corners g) l S labels
ilsum-plain f g l i [] labels h = refl
ilsum-plain f g l i (q ∷ S) [] h = refl
ilsum-plain f g l i (q ∷ S) (k ∷ labels) h = ap₂ (λ m n. cond (eqb k l) m 0 + n) (h i q) (ilsum-plain f g l (suc i) S labels h)

ilsum-four : (f : ℕ → ℕ → ℕ → ℕ → ℕ) (g : ℕ → ℕ → ℕ → ℕ) (l i : ℕ) (S : List Quad) (labels : List ℕ) → EachQ (λ i q. corners (f i) q ≤ 4 * corners g q) i S → ilsum f l i S labels ≤ 4 * label_sum (corners g) l S labels
ilsum-four f g l i [] labels h = omega arith
ilsum-four f g l i (q ∷ S) [] h = omega arith
ilsum-four f g l i (q ∷ S) (k ∷ labels) (e, h) = omega (arith, one (eqb k l), ilsum-four f g l (suc i) S labels h)
  where
    one : (b : Bool) → cond b (corners (f i) q) 0 ≤ 4 * cond b (corners g q) 0
    one true = e
    one false = omega arith

ilsum-miss : (f : ℕ → ℕ → ℕ → ℕ → ℕ) (l k i : ℕ) (S : List Quad) (labels : List ℕ) → k < i → EachQ (λ i q. corners (f i) q ≡ cond (eqb i k) 4 0) i S → ilsum f l i S labels ≡ 0
ilsum-miss f l k i [] labels h e = refl
ilsum-miss f l k i (q ∷ S) [] h e = refl
ilsum-miss f l k i (q ∷ S) (x ∷ labels) h (e, es) = omega (arith, none (eqb x l), ilsum-miss f l k (suc i) S labels (omega arith) es)
  where
    zero-q : corners (f i) q ≡ 0
    zero-q = e ∙ ap {B = ℕ} (λ b. cond b 4 0) (ne_eqb i k (λ p. omega arith))

    none : (b : Bool) → cond b (corners (f i) q) 0 ≡ 0
    none true = zero-q
    none false = refl

ilsum-at : (f : ℕ → ℕ → ℕ → ℕ → ℕ) (l k i j : ℕ) (S : List Quad) (labels : List ℕ) → length labels ≡ length S → k ≡ i + j → j < length S → EachQ (λ i q. corners (f i) q ≡ cond (eqb i k) 4 0) i S → ilsum f l i S labels ≡ cond (eqb (get_or labels j 8) l) 4 0
ilsum-at f l k i j [] labels h p b e = absurd (omega arith)
ilsum-at f l k i j (q ∷ S) [] h p b e = absurd (omega arith)
ilsum-at f l k i zero (q ∷ S) (x ∷ labels) h p b (e, es) = omega (arith, ap (λ m. cond (eqb x l) m 0) four, ilsum-miss f l k (suc i) S labels (omega arith) es)
  where
    ki : i ≡ k
    ki = omega arith

    four : corners (f i) q ≡ 4
    four = e ∙ ap {B = ℕ} (λ b. cond b 4 0) (ap (λ m. eqb m k) ki ∙ eqb-self k)
ilsum-at f l k i (suc j) (q ∷ S) (x ∷ labels) h p b (e, es) = omega (arith, none (eqb x l), ilsum-at f l k (suc i) j S labels (omega arith) (omega arith) (omega arith) es)
  where
    zero-q : corners (f i) q ≡ 0
    zero-q = e ∙ ap {B = ℕ} (λ b. cond b 4 0) (ne_eqb i k (λ r. omega arith))

    none : (b : Bool) → cond b (corners (f i) q) 0 ≡ 0
    none true = zero-q
    none false = refl

-- a label's part is part of the whole
pub label-sum-sum : (f : Quad → ℕ) (l : ℕ) (S : List Quad) (labels : List ℕ) → label_sum f l S labels ≤ sum f S
label-sum-sum f l [] labels = omega arith
label-sum-sum f l (q ∷ S) [] = omega arith
label-sum-sum f l (q ∷ S) (k ∷ labels) = omega (arith, one (eqb k l), label-sum-sum f l S labels)
  where
    one : (b : Bool) → cond b (f q) 0 ≤ f q
    one true = omega arith
    one false = omega arith

pub split-length : (mid : ℕ → ℕ → ℕ) (cen : ℕ → ℕ) (i : ℕ) (S : List Quad) → length (split mid cen i S) ≡ 4 * length S
split-length mid cen i [] = refl
split-length mid cen i (quad a b c d ∷ S) = omega (arith, split-length mid cen (suc i) S)

-- a sum that is the same number c at each of the last k points
upto-plain : (n k : ℕ) (f : ℕ → ℕ) (c : ℕ) → ((w : ℕ) → n ≤ w → w < n + k → f w ≡ c) → upto (n + k) f ≡ k * c + upto n f
upto-plain n zero f c h = rw add-zero (omega (arith, zero-mul c))
upto-plain n (suc k) f c h = rw add-suc (omega (arith, h (n + k) (omega arith) (omega arith), suc-mul k c, upto-plain n k f c (λ w l m. h w l (omega arith))))

-- Every quad has four corners.
pub handshake : (n : ℕ) (S : List Quad) → Below n S → upto n (λ v. valence S v) ≡ 4 * length S
unfolding Below flat_quads
handshake n S b = upto-ext (λ v. valence S v) (λ v. sum (λ x. cond (eqb v x) 1 0) (flat_quads S)) n (λ v l. valence-list v S ∙ same v (flat_quads S))
    ∙ (sym (sum-by-point n (λ v. 1) (flat_quads S) (λ x h. b x (omega (arith, valence-list x S)))) ∙ count S)
  where
    same : (v : ℕ) (l : List ℕ) → sum (is v) l ≡ sum {A = ℕ} (λ x. cond (eqb v x) 1 0) l
    same v [] = refl
    same v (x ∷ l) = ap₂ (λ p q. p + q) (np (eqb v x)) (same v l)
      where
        np : (x : Bool) → num x ≡ cond x 1 0
        np true = refl
        np false = refl

    count : (S : List Quad) → sum (λ x. 1) (flat_quads S) ≡ 4 * length S
    count [] = refl
    count (quad a b c d ∷ S) = omega (arith, count S)

module _ (mid : ℕ → ℕ → ℕ) (cen : ℕ → ℕ) where
  -- the four corners that come from one
  new : (ℕ → ℕ → ℕ → ℕ) → ℕ → ℕ → ℕ → ℕ → ℕ
  new f i p v x = f (mid p v) v (mid v x) + (f v (mid v x) (cen i) + (f (mid v x) (cen i) (mid p v) + f (cen i) (mid p v) v))

  total-split : (f : ℕ → ℕ → ℕ → ℕ) (i : ℕ) (S : List Quad) → total f (split mid cen i S) ≡ index_total (new f) i S
  unfolding new
  total-split f i [] = refl
  total-split f i (quad a b c d ∷ S) = omega (arith, total-split f (suc i) S)

  touches-split : (w l i : ℕ) (S : List Quad) (labels : List ℕ) → touches (split mid cen i S) (four_labels labels) w l ≡ ilsum (new (at w (λ p n. 1))) l i S labels
  unfolding new
  touches-split w l i [] labels = refl
  touches-split w l i (quad a b c d ∷ S) [] = refl
  touches-split w l i (quad a b c d ∷ S) (k ∷ labels) = go (eqb k l) (touches-split w l (suc i) S labels)
    where
      go : (x : Bool) → touches (split mid cen (suc i) S) (four_labels labels) w l ≡ ilsum (new (at w (λ p n. 1))) l (suc i) S labels
          → cond x (corners (at w (λ p n. 1)) (quad a (mid a b) (cen i) (mid d a))) 0 + (cond x (corners (at w (λ p n. 1)) (quad b (mid b c) (cen i) (mid a b))) 0 + (cond x (corners (at w (λ p n. 1)) (quad c (mid c d) (cen i) (mid b c))) 0 + (cond x (corners (at w (λ p n. 1)) (quad d (mid d a) (cen i) (mid c d))) 0 + touches (split mid cen (suc i) S) (four_labels labels) w l)))
          ≡ cond x (corners (new (at w (λ p n. 1)) i) (quad a b c d)) 0 + ilsum (new (at w (λ p n. 1))) l (suc i) S labels
      go true e = omega (arith, e)
      go false e = omega (arith, e)

  module _ (n : ℕ) (mid-high : (u v : ℕ) → n ≤ mid u v) (cen-high : (i : ℕ) → n ≤ cen i) (mid-sym : (u v : ℕ) → mid u v ≡ mid v u) where
    -- what a corner gives to an old point
    old-corner : (v : ℕ) → v < n → (g : ℕ → ℕ → ℕ) (i p m x : ℕ) → new (at v g) i p m x ≡ at v (λ p x. g (mid v p) (mid v x)) p m x
    unfolding new
    old-corner v l g i p m x = omega (arith, at-diff v g m (mid m x) (cen i) (λ e. omega (arith, mid-high m x)), at-diff v g (mid m x) (cen i) (mid p m) (λ e. omega (arith, cen-high i)), at-diff v g (cen i) (mid p m) m (λ e. omega (arith, mid-high p m)), first (ℕ_discrete m v))
      where
        first : Dec (m ≡ v) → at v g (mid p m) m (mid m x) ≡ at v (λ p x. g (mid v p) (mid v x)) p m x
        first (yes e) = rw (e, eqb-self v, mid-sym p v) refl
        first (no k) = rw (ne_eqb m v k) refl

    at_old : (v : ℕ) → v < n → (g : ℕ → ℕ → ℕ) (i : ℕ) (S : List Quad) → total (at v g) (split mid cen i S) ≡ at_point S v (λ p x. g (mid v p) (mid v x))
    at_old v l g i S = total-split (at v g) i S ∙ (index-total-ext (new (at v g)) (λ i. at v (λ p x. g (mid v p) (mid v x))) i S (all i S) ∙ index-total-plain (at v (λ p x. g (mid v p) (mid v x))) i S)
      where
        all : (i : ℕ) (S : List Quad) → Each (λ i p m x. new (at v g) i p m x ≡ at v (λ p x. g (mid v p) (mid v x)) p m x) i S
        all i [] = tt
        all i (quad a b c d ∷ S) = ((old-corner v l g i d a b, old-corner v l g i a b c, old-corner v l g i b c d, old-corner v l g i c d a), all (suc i) S)

-- What each corner of a sheet is: in a quad of it, at an old point, between two sides.
abbrev Fact : ℕ → List Quad → ℕ → ℕ → ℕ → ℕ → Type 0
Fact n S i p v x = (i < length S) × (v < n) × (0 < side S p v) × (0 < side S v x)

facts-of : (n : ℕ) (S : List Quad) → Below n S → (i : ℕ) (Q : List Quad) → i + length Q ≤ length S → ((u v : ℕ) → side Q u v ≤ side S u v) → ((v : ℕ) → valence Q v ≤ valence S v) → Each (Fact n S) i Q
unfolding Below
facts-of n S b i [] l s w = tt
facts-of n S b i (quad x y z t ∷ Q) l s w =
    (((omega arith, low_x, da, ab), (omega arith, low-y, ab, bc), (omega arith, low-z, bc, cd), (omega arith, low-t, cd, da)), facts-of n S b (suc i) Q (omega arith) (λ u v. omega (arith, s u v)) (λ v. omega (arith, w v)))
  where
    low_x : x < n
    low_x = b x (omega (arith, w x, at_same x (λ p n. 1) t y))

    low-y : y < n
    low-y = b y (omega (arith, w y, at_same y (λ p n. 1) x z))

    low-z : z < n
    low-z = b z (omega (arith, w z, at_same z (λ p n. 1) y t))

    low-t : t < n
    low-t = b t (omega (arith, w t, at_same t (λ p n. 1) z x))

    ab : 0 < side S x y
    ab = omega (arith, s x y, at_same x (λ p n. is y n) t y, is-self y)

    bc : 0 < side S y z
    bc = omega (arith, s y z, at_same y (λ p n. is z n) x z, is-self z)

    cd : 0 < side S z t
    cd = omega (arith, s z t, at_same z (λ p n. is t n) y t, is-self t)

    da : 0 < side S t x
    da = omega (arith, s t x, at_same t (λ p n. is x n) z x, is-self x)

module _ (mid : ℕ → ℕ → ℕ) (cen : ℕ → ℕ) (n : ℕ) (mid-high : (u v : ℕ) → n ≤ mid u v) (cen-high : (i : ℕ) → n ≤ cen i) (mid-sym : (u v : ℕ) → mid u v ≡ mid v u)
    (S : List Quad) (below : Below n S) (pr : All Differ S)
    (mid-inj : (u v u' v' : ℕ) → 0 < side S u v → 0 < side S u' v' → mid u v ≡ mid u' v' → ((u ≡ u') × (v ≡ v')) ⊎ ((u ≡ v') × (v ≡ u')))
    (cen-inj : (i j : ℕ) → i < length S → j < length S → cen i ≡ cen j → i ≡ j)
    (mid-cen : (u v i : ℕ) → 0 < side S u v → i < length S → mid u v ≢ cen i) where
  S' : List Quad
  S' = split mid cen 0 S

  facts : Each (Fact n S) 0 S
  facts = facts-of n S below 0 S (omega arith) (λ u v. omega arith) (λ v. omega arith)

  -- what a corner gives to a centre
  centre-corner : (k : ℕ) → k < length S → (g : ℕ → ℕ → ℕ) (i p v x : ℕ) → Fact n S i p v x → new mid cen (at (cen k) g) i p v x ≡ cond (eqb i k) (g (mid v x) (mid p v)) 0
  unfolding new
  centre-corner k l g i p v x (li, lv, pv, vx) = omega (arith, at-diff (cen k) g (mid p v) v (mid v x) (λ e. omega (arith, cen-high k)), at-diff (cen k) g v (mid v x) (cen i) (mid-cen v x k vx l), at-diff (cen k) g (cen i) (mid p v) v (mid-cen p v k pv l), here (ℕ_discrete i k))
    where
      here : Dec (i ≡ k) → at (cen k) g (mid v x) (cen i) (mid p v) ≡ cond (eqb i k) (g (mid v x) (mid p v)) 0
      here (yes e) = rw (e, eqb-self (cen k), eqb-self k) refl
      here (no m) = rw (ne_eqb (cen i) (cen k) (λ e. m (cen-inj i k li l e)), ne_eqb i k m) refl

  -- the corners there
  at-centre : (k : ℕ) → k < length S → (g : ℕ → ℕ → ℕ) → total (at (cen k) g) (split mid cen 0 S) ≡ corners (λ p v x. g (mid v x) (mid p v)) (get_or S k none_quad)
  at-centre k l g = total-split mid cen (at (cen k) g) 0 S
      ∙ (index-total-ext (new mid cen (at (cen k) g)) (λ i p v x. cond (eqb i k) (g (mid v x) (mid p v)) 0) 0 S (each_map (Fact n S) _ (centre-corner k l g) 0 S facts) ∙ index-total-at (λ p v x. g (mid v x) (mid p v)) k 0 k S (omega arith) l)

  -- what a corner gives to the point of the edge from u to v
  mid-corner : (u v : ℕ) → 0 < side S u v → u ≢ v → (g : ℕ → ℕ → ℕ) (i p m x : ℕ) → Fact n S i p m x
      → new mid cen (at (mid u v) g) i p m x ≡ (along u v (g u (cen i)) m x + along v u (g v (cen i)) m x) + (along u v (g (cen i) v) p m + along v u (g (cen i) u) p m)
  unfolding new
  mid-corner u v uv ne g i p m x (li, lm, pm, mx) = omega (
    arith,
    at-diff (mid u v) g (mid p m) m (mid m x) (λ e. omega (arith, mid-high u v)),
    at-diff (mid u v) g (mid m x) (cen i) (mid p m) (λ e. mid-cen u v i uv li (sym e)),
    meets m x mx (λ y z. g y (cen i)),
    meets p m pm (λ y z. g (cen i) z),
  )
    where
      -- an edge's point is that of u v just if the edge is u v, one way or the other
      meets : (a b : ℕ) → 0 < side S a b → (w : ℕ → ℕ → ℕ) → cond (eqb (mid a b) (mid u v)) (w a b) 0 ≡ along u v (w u v) a b + along v u (w v u) a b
      meets a b ab w = go (ℕ_discrete (mid a b) (mid u v))
        where
          same : mid a b ≡ mid u v → cond (eqb (mid a b) (mid u v)) (w a b) 0 ≡ w a b
          same e = rw (e, eqb-self (mid u v)) refl

          hit : mid a b ≡ mid u v → ((a ≡ u) × (b ≡ v)) ⊎ ((a ≡ v) × (b ≡ u)) → cond (eqb (mid a b) (mid u v)) (w a b) 0 ≡ along u v (w u v) a b + along v u (w v u) a b
          hit e (inl (p, q)) = omega (arith, same e, ap₂ w p q, ap₂ (along u v (w u v)) p q, along-hit u v (w u v), sd-miss v u (w v u) a b (λ r t. ne (sym p ∙ r)))
          hit e (inr (p, q)) = omega (arith, same e, ap₂ w p q, ap₂ (along v u (w v u)) p q, along-hit v u (w v u), sd-miss u v (w u v) a b (λ r t. ne (sym r ∙ p)))

          go : Dec (mid a b ≡ mid u v) → cond (eqb (mid a b) (mid u v)) (w a b) 0 ≡ along u v (w u v) a b + along v u (w v u) a b
          go (yes e) = hit e (mid-inj a b u v ab uv e)
          go (no k) = omega (arith, miss, sd-miss u v (w u v) a b (λ p q. k (ap₂ mid p q)), sd-miss v u (w v u) a b (λ p q. k (ap₂ mid p q ∙ mid-sym v u)))
            where
              miss : cond (eqb (mid a b) (mid u v)) (w a b) 0 ≡ 0
              miss = rw (ne_eqb (mid a b) (mid u v) k) refl

  -- the corners there
  at_mid : (u v : ℕ) → 0 < side S u v → u ≢ v → (g : ℕ → ℕ → ℕ) → total (at (mid u v) g) (split mid cen 0 S)
      ≡ (sides_of u v (λ i. g u (cen i)) 0 S + sides_of v u (λ i. g v (cen i)) 0 S) + (sides_of u v (λ i. g (cen i) v) 0 S + sides_of v u (λ i. g (cen i) u) 0 S)
  at_mid u v uv ne g = omega (
    arith,
    total-split mid cen (at (mid u v) g) 0 S,
    index-total-ext (new mid cen (at (mid u v) g)) (λ i p m x. (f1 i p m x + f2 i p m x) + (f3 i p m x + f4 i p m x)) 0 S (each_map (Fact n S) _ (mid-corner u v uv ne g) 0 S facts),
    index-total-add (λ i p m x. f1 i p m x + f2 i p m x) (λ i p m x. f3 i p m x + f4 i p m x) 0 S,
    index-total-add f1 f2 0 S,
    index-total-add f3 f4 0 S,
    sides-from u v (λ i. g u (cen i)) 0 S,
    sides-from v u (λ i. g v (cen i)) 0 S,
    sides-to u v (λ i. g (cen i) v) 0 S,
    sides-to v u (λ i. g (cen i) u) 0 S,
  )
    where
      f1 : ℕ → ℕ → ℕ → ℕ → ℕ
      f1 i p m x = along u v (g u (cen i)) m x

      f2 : ℕ → ℕ → ℕ → ℕ → ℕ
      f2 i p m x = along v u (g v (cen i)) m x

      f3 : ℕ → ℕ → ℕ → ℕ → ℕ
      f3 i p m x = along u v (g (cen i) v) p m

      f4 : ℕ → ℕ → ℕ → ℕ → ℕ
      f4 i p m x = along v u (g (cen i) u) p m

  -- a side joins different points
  apart-side : (u v : ℕ) → 0 < side S u v → u ≢ v
  apart-side u v h e = omega (arith, h, ap (side S u) (sym e), sum-zero (corners (at u (λ p n. is u n))) none_quad S (λ j l. no_loop (get_or S j none_quad) (all-at S pr j l) u))

  from_low : (u v : ℕ) → 0 < side S u v → u < n
  unfolding Below
  from_low u v h = below u (omega (arith, at-point-le S u (λ p n. is v n) (λ p n. 1) (λ p n. is_le v n)))

  to_low : (u v : ℕ) → 0 < side S u v → v < n
  unfolding Below
  to_low u v h = below v (omega (arith, side-at-end S u v, at-point-le S v (λ p n. is u p) (λ p n. 1) (λ p n. is_le u p)))

  centre-ring : (a b c d : ℕ) → Differ (quad a b c d) → 0 < side S a b → 0 < side S b c → 0 < side S c d → 0 < side S d a → Ring (λ g. corners (λ p v x. g (mid v x) (mid p v)) (quad a b c d))
  centre-ring a b c d (ab, ac, ad, bc, bd, cd) sab sbc scd sda = record {
    round = mid d a ∷ mid c d ∷ mid b c ∷ mid a b ∷ [];
    two = omega arith;
    apart = four-apart (mid d a) (mid c d) (mid b c) (mid a b)
        (λ e. no-two (mid-inj d a c d sda scd e) (λ p. cd (sym p)) (λ p q. ac q))
        (λ e. no-two (mid-inj d a b c sda sbc e) (λ p. bd (sym p)) (λ p q. ab q))
        (λ e. no-two (mid-inj d a a b sda sab e) (λ p. ad (sym p)) (λ p q. bd (sym p)))
        (λ e. no-two (mid-inj c d b c scd sbc e) (λ p. bc (sym p)) (λ p q. bd (sym q)))
        (λ e. no-two (mid-inj c d a b scd sab e) (λ p. ac (sym p)) (λ p q. ad (sym q)))
        (λ e. no-two (mid-inj b c a b sbc sab e) (λ p. ab (sym p)) (λ p q. ac (sym q)));
    same = λ g. omega arith;
  }
    where
      no-two : {w x y z : ℕ} → ((w ≡ y) × (x ≡ z)) ⊎ ((w ≡ z) × (x ≡ y)) → w ≢ y → (w ≡ z → x ≡ y → ⊥) → ⊥
      no-two (inl (p, q)) f g = f p
      no-two (inr (p, q)) f g = g p q

  pub ring-of-centre : (k : ℕ) → k < length S → Ring (at_point (split mid cen 0 S) (cen k))
  ring-of-centre k l = ring-same (λ g. corners (λ p v x. g (mid v x) (mid p v)) (get_or S k none_quad)) (at_point (split mid cen 0 S) (cen k)) (at-centre k l) (go (get_or S k none_quad) (all-at S pr k l) sides)
    where
      sides : (u v : ℕ) → corners (at u (λ p n. is v n)) (get_or S k none_quad) ≤ side S u v
      sides u v = sum-at (corners (at u (λ p n. is v n))) S k none_quad l

      go : (q : Quad) → Differ q → ((u v : ℕ) → corners (at u (λ p n. is v n)) q ≤ side S u v) → Ring (λ g. corners (λ p v x. g (mid v x) (mid p v)) q)
      go (quad a b c d) pq s = centre-ring a b c d pq
          (omega (arith, s a b, at_same a (λ p n. is b n) d b, is-self b)) (omega (arith, s b c, at_same b (λ p n. is c n) a c, is-self c))
          (omega (arith, s c d, at_same c (λ p n. is d n) b d, is-self d)) (omega (arith, s d a, at_same d (λ p n. is a n) c a, is-self a))

  child-proper : (i p v x : ℕ) → Fact n S i p v x → p ≢ x → Differ (quad v (mid v x) (cen i) (mid p v))
  child-proper i p v x (li, lv, pv, vx) px =
      ((λ e. omega (arith, mid-high v x)), (λ e. omega (arith, cen-high i)), (λ e. omega (arith, mid-high p v)), mid-cen v x i vx li, (λ e. clash (mid-inj v x p v vx pv e)), (λ e. mid-cen p v i pv li (sym e)))
    where
      clash : ((v ≡ p) × (x ≡ v)) ⊎ ((v ≡ v) × (x ≡ p)) → ⊥
      clash (inl (e, _)) = apart-side p v pv (sym e)
      clash (inr (_, e)) = px (sym e)

  pub split-proper : All Differ (split mid cen 0 S)
  unfolding All
  split-proper = go 0 S facts pr
    where
      go : (i : ℕ) (Q : List Quad) → Each (Fact n S) i Q → All Differ Q → All Differ (split mid cen i Q)
      go i [] e a = tt
      go i (quad a b c d ∷ Q) ((fa, fb, fc, fd), e) ((ab, ac, ad, bc, bd, cd), al) =
          (child-proper i d a b fa (λ q. bd (sym q)), (child-proper i a b c fb ac, (child-proper i b c d fc bd, (child-proper i c d a fd (λ q. ac (sym q)), go (suc i) Q e al))))

  -- Valences: some quads at the point of an edge, four at a centre.
  some-mid : (u v : ℕ) → 0 < side S u v → 0 < valence (split mid cen 0 S) (mid u v)
  some-mid u v h = omega (arith, at_mid u v h (apart-side u v h) (λ p n. 1), side-one u v 0 S)

  pub valence-centre : (k : ℕ) → k < length S → valence (split mid cen 0 S) (cen k) ≡ 4
  valence-centre k l = at-centre k l (λ p n. 1) ∙ ones (get_or S k none_quad)
    where
      ones : (q : Quad) → corners (λ p v x. 1) q ≡ 4
      ones (quad a b c d) = refl

  pub valence-old : (v : ℕ) → v < n → valence (split mid cen 0 S) v ≡ valence S v
  valence-old v l = at_old mid cen n mid-high cen-high mid-sym v l (λ p n. 1) 0 S

  -- Where the quads at each point are a ring.
  module _ (rs : Rings S) where
    closed : (u v : ℕ) → 0 < side S u v → (side S u v ≡ 1) × (side S v u ≡ 1)
    unfolding Closed
    closed u v h = rings-closed S rs u v (omega arith)

    pub ring-of-mid : (u v : ℕ) → 0 < side S u v → Ring (at_point (split mid cen 0 S) (mid u v))
    ring-of-mid u v h = go (only u v 0 S (sym (side-one u v 0 S) ∙ (closed u v h).0)) (only v u 0 S (sym (side-one v u 0 S) ∙ (closed u v h).1))
      where
        go : Only u v 0 S → Only v u 0 S → Ring (at_point (split mid cen 0 S) (mid u v))
        go o o' = record {
          round = u ∷ cen o.at_place ∷ v ∷ cen o'.at_place ∷ [];
          two = omega arith;
          apart = four-apart u (cen o.at_place) v (cen o'.at_place) (λ e. omega (arith, from_low u v h, cen-high o.at_place)) (apart-side u v h) (λ e. omega (arith, from_low u v h, cen-high o'.at_place))
              (λ e. omega (arith, to_low u v h, cen-high o.at_place)) (λ e. two-quads (cen-inj o.at_place o'.at_place o.inside o'.inside e)) (λ e. omega (arith, to_low u v h, cen-high o'.at_place));
          same = λ g. omega (arith, at_mid u v h (apart-side u v h) g, first o (λ i. g u (cen i)), first o' (λ i. g v (cen i)), first o (λ i. g (cen i) v), first o' (λ i. g (cen i) u));
        }
          where
            first : {u v : ℕ} (o : Only u v 0 S) (h : ℕ → ℕ) → sides_of u v h 0 S ≡ h o.at_place
            first o h = o.weight h ∙ ap h (omega arith)

            two-quads : o.at_place ≢ o'.at_place
            two-quads e = both_ways u v (get_or S o.at_place none_quad) (all-at S pr o.at_place o.inside) (omega (arith, o.there)) (omega (arith, o'.there, ap (λ k. along_quad v u 1 (get_or S k none_quad)) e))

    -- four quads at the point of an edge
    pub valence-mid : (u v : ℕ) → 0 < side S u v → valence (split mid cen 0 S) (mid u v) ≡ 4
    valence-mid u v h = omega (arith, at_mid u v h (apart-side u v h) (λ p n. 1), (closed u v h).0, (closed u v h).1, side-one u v 0 S, side-one v u 0 S)

    -- old points
    pub ring-of-old : (v : ℕ) → v < n → 0 < valence S v → Ring (at_point (split mid cen 0 S) v)
    unfolding Rings
    ring-of-old v l h = renamed (at_point S v) (at_point (split mid cen 0 S) v) (mid v) one (λ g. at_old mid cen n mid-high cen-high mid-sym v l g 0 S) w
      where
        w : Ring (at_point S v)
        w = rs v h

        is-side : (y : ℕ) → 0 < sum (is y) w.round → 0 < side S v y
        is-side y k = omega (arith, k, w.same (λ p n. is y n), cyc-to (is y) w.round)

        one : (x : ℕ) → at_point S v (λ p n. is x (mid v p)) ≤ 1
        one x = omega (arith, w.same (λ p n. is x (mid v p)), cyc-from (λ y. is x (mid v y)) w.round, sum-once (mid v) x w.round w.apart inj)
          where
            inj : (y z : ℕ) → 0 < sum (is y) w.round → 0 < sum (is z) w.round → mid v y ≡ mid v z → y ≡ z
            inj y z hy hz e = pickone (mid-inj v y v z (is-side y hy) (is-side z hz) e)
              where
                pickone : ((v ≡ v) × (y ≡ z)) ⊎ ((v ≡ z) × (y ≡ v)) → y ≡ z
                pickone (inl (_, q)) = q
                pickone (inr (p, q)) = q ∙ p

  module _ (k : ℕ) (mid-low : (u v : ℕ) → 0 < side S u v → mid u v < n + k) (cen-low : (i : ℕ) → i < length S → cen i < n + k)
      (covers : (w : ℕ) → n ≤ w → w < n + k → ((u : ℕ) × (v : ℕ) × (0 < side S u v) × (w ≡ mid u v)) ⊎ ((i : ℕ) × (i < length S) × (w ≡ cen i))) where
    pub split_below : Below (n + k) (split mid cen 0 S)
    unfolding Below new
    split_below w h = go (dec_lt w (n + k))
      where
        go : Dec (w < n + k) → w < n + k
        go (yes l) = l
        go (no l) = absurd (omega (arith, h, total-split mid cen (at w (λ p n. 1)) 0 S, index-total-ext (new mid cen (at w (λ p n. 1))) (λ i p v x. 0) 0 S (each_map (Fact n S) _ one 0 S facts), index-total-plain (λ p v x. 0) 0 S, total-zero S))
          where
            one : (i p v x : ℕ) → Fact n S i p v x → new mid cen (at w (λ p n. 1)) i p v x ≡ 0
            one i p v x (li, lv, pv, vx) = omega (
              arith,
              at-diff w (λ p n. 1) (mid p v) v (mid v x) (λ e. l (omega arith)),
              at-diff w (λ p n. 1) v (mid v x) (cen i) (λ e. l (omega (arith, mid-low v x vx))),
              at-diff w (λ p n. 1) (mid v x) (cen i) (mid p v) (λ e. l (omega (arith, cen-low i li))),
              at-diff w (λ p n. 1) (cen i) (mid p v) v (λ e. l (omega (arith, mid-low p v pv))),
            )

    -- every point is in use, if the old ones are
    pub split-used : ((v : ℕ) → v < n → 0 < valence S v) → (w : ℕ) → w < n + k → 0 < valence (split mid cen 0 S) w
    split-used u w m = go (dec_lt w n)
      where
        newer : ((u : ℕ) × (v : ℕ) × (0 < side S u v) × (w ≡ mid u v)) ⊎ ((i : ℕ) × (i < length S) × (w ≡ cen i)) → 0 < valence (split mid cen 0 S) w
        newer (inl (u, v, s, e)) = rw e (some-mid u v s)
        newer (inr (i, l, e)) = rw e (omega (arith, valence-centre i l))

        go : Dec (w < n) → 0 < valence (split mid cen 0 S) w
        go (yes l) = omega (arith, valence-old w l, u w l)
        go (no l) = newer (covers w (omega arith) m)

    -- No new clash: an old point touches what it touched, a centre its quad's label, an edge's point what an end touched.
    pub split-clash : (labels : List ℕ) → length labels ≡ length S → NoClash S labels → NoClash (split mid cen 0 S) (four_labels labels)
    unfolding NoClash Below
    split-clash labels e nc w j h = go (dec_lt w n)
      where
        W : ℕ → ℕ → ℕ → ℕ → ℕ
        W w = at w (λ p n. 1)

        as-sum : (w l : ℕ) → touches (split mid cen 0 S) (four_labels labels) w l ≡ ilsum (new mid cen (W w)) l 0 S labels
        as-sum w l = touches-split mid cen w l 0 S labels

        old : w < n → (l : ℕ) → touches (split mid cen 0 S) (four_labels labels) w l ≡ touches S labels w l
        old lw l = as-sum w l ∙ ilsum-plain (new mid cen (W w)) (W w) l 0 S labels (λ i q. corner i q)
          where
            corner : (i : ℕ) (q : Quad) → corners (new mid cen (W w) i) q ≡ corners (W w) q
            corner i (quad a b c d) = omega (
              arith,
              old-corner mid cen n mid-high cen-high mid-sym w lw (λ p n. 1) i d a b,
              old-corner mid cen n mid-high cen-high mid-sym w lw (λ p n. 1) i a b c,
              old-corner mid cen n mid-high cen-high mid-sym w lw (λ p n. 1) i b c d,
              old-corner mid cen n mid-high cen-high mid-sym w lw (λ p n. 1) i c d a,
            )

        newer : ((u : ℕ) × (v : ℕ) × (0 < side S u v) × (w ≡ mid u v)) ⊎ ((i : ℕ) × (i < length S) × (w ≡ cen i)) → touches (split mid cen 0 S) (four_labels labels) w (2 * j + 1) ≡ 0
        newer (inl (u, v, s, q)) = omega (arith, few (2 * j + 1), nc u j (omega (arith, few (2 * j), h)))
          where
            few : (l : ℕ) → touches (split mid cen 0 S) (four_labels labels) w l ≤ 4 * touches S labels u l
            few l = subst (λ k. touches (split mid cen 0 S) (four_labels labels) k l ≤ 4 * touches S labels u l) (sym q) (omega (arith, as-sum (mid u v) l, ilsum-four (new mid cen (W (mid u v))) (W u) l 0 S labels (each-quad 0 S facts)))
              where
                le_u : (a b : ℕ) → along u v 1 a b ≤ at u (λ p n. 1) 0 a b
                le_u a b = go (eqb a u) (eqb b v)
                  where
                    go : (x y : Bool) → along_both x y 1 ≤ cond {A = ℕ} x 1 0
                    go true true = omega arith
                    go true false = omega arith
                    go false y = omega arith

                le-v : (a b : ℕ) → along v u 1 a b ≤ at u (λ p n. 1) 0 b a
                le-v a b = go (eqb a v) (eqb b u)
                  where
                    go : (x y : Bool) → along_both x y 1 ≤ cond {A = ℕ} y 1 0
                    go true true = omega arith
                    go true false = omega arith
                    go false y = omega arith

                each-quad : (i : ℕ) (Q : List Quad) → Each (Fact n S) i Q → EachQ (λ i q. corners (new mid cen (W (mid u v)) i) q ≤ 4 * corners (W u) q) i Q
                each-quad i [] f = tt
                each-quad i (quad a b c d ∷ Q) ((fa, fb, fc, fd), f) = (
                  omega (
                    arith,
                    mid-corner u v s (apart-side u v s) (λ p n. 1) i d a b fa,
                    mid-corner u v s (apart-side u v s) (λ p n. 1) i a b c fb,
                    mid-corner u v s (apart-side u v s) (λ p n. 1) i b c d fc,
                    mid-corner u v s (apart-side u v s) (λ p n. 1) i c d a fd,
                    le_u a b,
                    le_u b c,
                    le_u c d,
                    le_u d a,
                    le-v a b,
                    le-v b c,
                    le-v c d,
                    le-v d a,
                  ),
                  each-quad (suc i) Q f,
                )
        newer (inr (k, l, q)) = other (ℕ_discrete (get_or labels k 8) (2 * j))
          where
            whole : (l' : ℕ) → touches (split mid cen 0 S) (four_labels labels) w l' ≡ cond (eqb (get_or labels k 8) l') 4 0
            whole l' = subst (λ y. touches (split mid cen 0 S) (four_labels labels) y l' ≡ cond (eqb (get_or labels k 8) l') 4 0) (sym q) (as-sum (cen k) l' ∙ ilsum-at (new mid cen (W (cen k))) l' k 0 k S labels e (omega arith) l (each-quad 0 S facts))
              where
                each-quad : (i : ℕ) (Q : List Quad) → Each (Fact n S) i Q → EachQ (λ i q. corners (new mid cen (W (cen k)) i) q ≡ cond (eqb i k) 4 0) i Q
                each-quad i [] f = tt
                each-quad i (quad a b c d ∷ Q) ((fa, fb, fc, fd), f) = (omega (arith, centre-corner k l (λ p n. 1) i d a b fa, centre-corner k l (λ p n. 1) i a b c fb, centre-corner k l (λ p n. 1) i b c d fc, centre-corner k l (λ p n. 1) i c d a fd, ones (eqb i k)), each-quad (suc i) Q f)
                  where
                    ones : (b : Bool) → cond {A = ℕ} b 4 0 ≡ 4 * cond b 1 0
                    ones true = refl
                    ones false = refl

            other : Dec (get_or labels k 8 ≡ 2 * j) → touches (split mid cen 0 S) (four_labels labels) w (2 * j + 1) ≡ 0
            other (yes p) = whole (2 * j + 1) ∙ ap {B = ℕ} (λ b. cond b 4 0) (ne_eqb (get_or labels k 8) (2 * j + 1) (λ r. omega arith))
            other (no p) = absurd (omega (arith, h, whole (2 * j), ap {B = ℕ} (λ b. cond b 4 0) (ne_eqb (get_or labels k 8) (2 * j) p)))

        in_range : w < n + k
        in_range = split_below w (omega (arith, h, label-sum-sum (corners (W w)) (2 * j) (split mid cen 0 S) (four_labels labels)))

        go : Dec (w < n) → touches (split mid cen 0 S) (four_labels labels) w (2 * j + 1) ≡ 0
        go (yes l) = old l (2 * j + 1) ∙ nc w j (omega (arith, h, old l (2 * j)))
        go (no l) = newer (covers w (omega arith) in_range)

    -- Where the quads at each point are a ring.
    module _ (rs : Rings S) where
      pub split-rings : Rings (split mid cen 0 S)
      unfolding Rings Below
      split-rings w h = go (dec_lt w n)
        where
          newer : ((u : ℕ) × (v : ℕ) × (0 < side S u v) × (w ≡ mid u v)) ⊎ ((i : ℕ) × (i < length S) × (w ≡ cen i)) → Ring (at_point (split mid cen 0 S) w)
          newer (inl (u, v, s, e)) = rw e (ring-of-mid rs u v s)
          newer (inr (i, l, e)) = rw e (ring-of-centre i l)

          go : Dec (w < n) → Ring (at_point (split mid cen 0 S) w)
          go (yes l) = ring-of-old rs w l (omega (arith, h, valence-old w l))
          go (no l) = newer (covers w (omega arith) (split_below w h))

      four-quads : (w : ℕ) → n ≤ w → w < n + k → valence (split mid cen 0 S) w ≡ 4
      four-quads w l m = go (covers w l m)
        where
          go : ((u : ℕ) × (v : ℕ) × (0 < side S u v) × (w ≡ mid u v)) ⊎ ((i : ℕ) × (i < length S) × (w ≡ cen i)) → valence (split mid cen 0 S) w ≡ 4
          go (inl (u, v, s, e)) = rw e (valence-mid rs u v s)
          go (inr (i, l, e)) = rw e (valence-centre i l)

      pub split-squared : squared (n + k) (split mid cen 0 S) ≡ squared n S
      unfolding squared
      split-squared = omega (arith, sum-tab (λ v. sq (valence (split mid cen 0 S) v)) itself (n + k), sum-tab (λ v. sq (valence S v)) itself n, upto-plain n k (λ v. sq (valence (split mid cen 0 S) v)) 0 (λ w l m. ap sq (four-quads w l m)), mul-zero k, upto-ext (λ v. sq (valence (split mid cen 0 S) v)) (λ v. sq (valence S v)) n (λ v l. ap sq (valence-old v l)))

      -- three new points for each quad
      pub split-points : k ≡ 3 * length S
      split-points = omega (
        arith,
        handshake (n + k) (split mid cen 0 S) split_below,
        handshake n S below,
        split-length mid cen 0 S,
        upto-plain n k (λ v. valence (split mid cen 0 S) v) 4 (λ w l m. four-quads w l m),
        upto-ext (λ v. valence (split mid cen 0 S) v) (λ v. valence S v) n (λ v l. valence-old v l),
      )

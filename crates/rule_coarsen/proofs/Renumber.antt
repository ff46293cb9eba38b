-- Renumbering the points by first use keeps rings, counts and sums. Assumes nothing.
use mathlib.Core.Path.{◌≡◌, refl, ap, sym, ◌∙◌, subst}
use mathlib.Core.Logic.{◌⊎◌, inl, inr, ◌≢◌}
use Prim.Native.Nat.{ℕ, zero, suc, ◌+◌, ◌*◌, ◌-◌, ◌≤◌, ◌<◌}
use mathlib.Core.List.{List, [], ◌∷◌, ◌++◌, map}
use mathlib.Core.Bool.{Bool, true, false, cond}
use native.Mathlib.Omega.{arith}
use native.Mathlib.Decide.{ℕ_discrete}
use lib.Dec.{eqb}
use lib.ListN.{length, get_or, length-map}
use borrow.Author.Tests.{ne_eqb}
use Rattle.rule_sheet.specs.Closed.{at_point, Ring, Rings}
use Rattle.rule_sheet.specs.FirstUse.{firsts, place}
use Rattle.rule_sheet.specs.Flat.{flat_quads}
use Rattle.rule_sheet.specs.Quads.{Quad, quad, num, is, sum, corners, total, at, valence, touches}
use Rattle.rule_sheet.proofs.FirstUse.{place_at, is-other}
use Rattle.rule_sheet.proofs.Sums.{upto, sum-append, sum-tab, upto-ext}
use Rattle.rule_sheet.specs.Squared.{sq, squared}
use Rattle.rule_sheet.specs.Claims.{Below, Differ, All, NoClash}
use Rattle.rule_sheet.proofs.Base.{eqb-self, is-self, pos-split, cyc-from}
use Rattle.rule_sheet.proofs.Rings.{zero_or, renamed}
use Rattle.rule_sheet.proofs.Sums.{sum-at}
use Rattle.rule_sheet.proofs.FirstUse.{is_pos}
use Rattle.rule_sheet.proofs.Weigh.{at_same, at-diff, is_le, is-sym, upto-mask, mask, mask-diff}
use Rattle.rule_coarsen.specs.Merges.{rename_quad, order, renumber}
use Rattle.rule_coarsen.proofs.Joins.{sq_used, squared_used, in_use}
use Rattle.rule_coarsen.proofs.OneMerge.{total-zero}
use Rattle.rule_coarsen.proofs.MergePass.{sq-used-pos}
use Rattle.lists.specs.Sort.{itself}

unfoldable pub OnceEach : List ℕ → Type 0
OnceEach l = (x : ℕ) → sum (is x) l ≤ 1

add_new : ℕ → List ℕ → List ℕ
add_new x seen = cond (eqb (sum (is x) seen) 0) (seen ++ x ∷ []) seen

add_apart : (x : ℕ) (seen : List ℕ) → OnceEach seen → OnceEach (add_new x seen)
unfolding OnceEach add_new
add_apart x seen a = go (zero_or (sum (is x) seen))
  where
    go : (sum (is x) seen ≡ 0) ⊎ (0 < sum (is x) seen) → (y : ℕ) → sum (is y) (cond (eqb (sum (is x) seen) 0) (seen ++ x ∷ []) seen) ≤ 1
    go (inl z) y = rw z (new (ℕ_discrete y x))
      where
        new : Dec (y ≡ x) → sum (is y) (seen ++ x ∷ []) ≤ 1
        new (yes e) = omega (arith, sum-append (is y) seen (x ∷ []), ap (λ k. sum (is k) seen) e, is_le y x)
        new (no n) = omega (arith, sum-append (is y) seen (x ∷ []), a y, is-other y x n)
    go (inr h) y = rw (ne_eqb (sum (is x) seen) 0 (λ e. omega arith)) (a y)

add-some : (x : ℕ) (seen : List ℕ) (y : ℕ) → (0 < sum (is y) (add_new x seen) → 0 < sum (is y) seen + is y x) × (0 < sum (is y) seen + is y x → 0 < sum (is y) (add_new x seen))
unfolding add_new
add-some x seen y = go (zero_or (sum (is x) seen))
  where
    Goal : List ℕ → Type 0
    Goal l = (0 < sum (is y) l → 0 < sum (is y) seen + is y x) × (0 < sum (is y) seen + is y x → 0 < sum (is y) l)

    go : (sum (is x) seen ≡ 0) ⊎ (0 < sum (is x) seen) → Goal (cond (eqb (sum (is x) seen) 0) (seen ++ x ∷ []) seen)
    go (inl z) = rw z ((λ h. omega (arith, sum-append (is y) seen (x ∷ []))), (λ h. omega (arith, sum-append (is y) seen (x ∷ []))))
    go (inr h) = rw (ne_eqb (sum (is x) seen) 0 (λ e. omega arith)) ((λ k. omega arith), old)
      where
        old : 0 < sum (is y) seen + is y x → 0 < sum (is y) seen
        old k = two (pos-split (sum (is y) seen) (is y x) k)
          where
            two : (0 < sum (is y) seen) ⊎ (0 < is y x) → 0 < sum (is y) seen
            two (inl i) = i
            two (inr i) = subst (λ v. 0 < sum (is v) seen) (sym (is_pos y x i)) h

pub firsts-apart : (l seen : List ℕ) → OnceEach seen → OnceEach (firsts seen l)
unfolding add_new
firsts-apart [] seen a = a
firsts-apart (x ∷ l) seen a = firsts-apart l (add_new x seen) (add_apart x seen a)

pub firsts-some : (y : ℕ) (l seen : List ℕ) → (0 < sum (is y) (firsts seen l) → 0 < sum (is y) seen + sum (is y) l) × (0 < sum (is y) seen + sum (is y) l → 0 < sum (is y) (firsts seen l))
unfolding add_new
firsts-some y [] seen = ((λ h. omega arith), (λ h. omega arith))
firsts-some y (x ∷ l) seen = go (firsts-some y l (add_new x seen)) (add-some x seen y)
  where
    go : (0 < sum (is y) (firsts (add_new x seen) l) → 0 < sum (is y) (add_new x seen) + sum (is y) l) × (0 < sum (is y) (add_new x seen) + sum (is y) l → 0 < sum (is y) (firsts (add_new x seen) l))
        → (0 < sum (is y) (add_new x seen) → 0 < sum (is y) seen + is y x) × (0 < sum (is y) seen + is y x → 0 < sum (is y) (add_new x seen))
        → (0 < sum (is y) (firsts (add_new x seen) l) → 0 < sum (is y) seen + (is y x + sum (is y) l)) × (0 < sum (is y) seen + (is y x + sum (is y) l) → 0 < sum (is y) (firsts (add_new x seen) l))
    go (f, g) (p, q) = ((λ h. one (pos-split (sum (is y) (add_new x seen)) (sum (is y) l) (f h))), (λ h. g (two (pos-split (sum (is y) seen + is y x) (sum (is y) l) (omega arith)))))
      where
        one : (0 < sum (is y) (add_new x seen)) ⊎ (0 < sum (is y) l) → 0 < sum (is y) seen + (is y x + sum (is y) l)
        one (inl h) = omega (arith, p h)
        one (inr h) = omega arith

        two : (0 < sum (is y) seen + is y x) ⊎ (0 < sum (is y) l) → 0 < sum (is y) (add_new x seen) + sum (is y) l
        two (inl h) = omega (arith, q h)
        two (inr h) = omega arith

-- the number at a place
pub at_place : (l : List ℕ) → OnceEach l → (u : ℕ) → u < length l → place (get_or l u 0) l ≡ u
unfolding OnceEach
at_place [] a u h = absurd (omega arith)
at_place (y ∷ l) a zero h = rw (eqb-self y) refl
at_place (y ∷ l) a (suc u) h = rw (ne_eqb (get_or l u 0) y (λ e. omega (arith, a y, is-self y, sum-at (is y) l u 0 (omega arith), ap (is y) e))) (ap suc (at_place l (λ x. omega (arith, a x)) u (omega arith)))

-- A property of every corner.
On : (ℕ → Type 0) → List Quad → Type 0
On P [] = Unit {0}
On P (quad a b c d ∷ S) = (P a × P b × P c × P d) × On P S

on-use : (P : ℕ → Type 0) (S : List Quad) → ((x : ℕ) → 0 < valence S x → P x) → On P S
unfolding On
on-use P [] h = tt
on-use P (quad a b c d ∷ S) h = (
  (h a (omega (arith, at_same a (λ p n. 1) d b)), h b (omega (arith, at_same b (λ p n. 1) a c)), h c (omega (arith, at_same c (λ p n. 1) b d)), h d (omega (arith, at_same d (λ p n. 1) c a))),
  on-use P S (λ x k. h x (omega arith)),
)

total-le-on : (P : ℕ → Type 0) (f g : ℕ → ℕ → ℕ → ℕ) → ((p m n : ℕ) → P p → P m → P n → f p m n ≤ g p m n) → (S : List Quad) → On P S → total f S ≤ total g S
unfolding On
total-le-on P f g h [] o = omega arith
total-le-on P f g h (quad a b c d ∷ S) ((pa, pb, pc, pd), o) = omega (arith, h d a b pd pa pb, h a b c pa pb pc, h b c d pb pc pd, h c d a pc pd pa, total-le-on P f g h S o)

total-ext-on : (P : ℕ → Type 0) (f g : ℕ → ℕ → ℕ → ℕ) → ((p m n : ℕ) → P p → P m → P n → f p m n ≡ g p m n) → (S : List Quad) → On P S → total f S ≡ total g S
total-ext-on P f g h S o = omega (arith, total-le-on P f g (λ p m n x y z. omega (arith, h p m n x y z)) S o, total-le-on P g f (λ p m n x y z. omega (arith, h p m n x y z)) S o)

pub total-map : (f : ℕ → ℕ → ℕ → ℕ) (r : ℕ → ℕ) (S : List Quad) → total f (map (rename_quad r) S) ≡ total (λ p m n. f (r p) (r m) (r n)) S
total-map f r [] = refl
total-map f r (quad a b c d ∷ S) = omega (arith, total-map f r S)

-- Other numbers for the points: r gives them, back takes them back.
module _ (S : List Quad) (r back : ℕ → ℕ) (inverse : (x : ℕ) → 0 < valence S x → back (r x) ≡ x) where
  used-on : On (λ x. 0 < valence S x) S
  used-on = on-use (λ x. 0 < valence S x) S (λ x h. h)

  at_new : (v : ℕ) → 0 < valence S v → (g : ℕ → ℕ → ℕ) → at_point (map (rename_quad r) S) (r v) g ≡ at_point S v (λ p n. g (r p) (r n))
  at_new v hv g = total-map (at (r v) g) r S ∙ total-ext-on (λ x. 0 < valence S x) (λ p m n. at (r v) g (r p) (r m) (r n)) (at v (λ p n. g (r p) (r n))) same S used-on
    where
      same : (p m n : ℕ) → 0 < valence S p → 0 < valence S m → 0 < valence S n → at (r v) g (r p) (r m) (r n) ≡ at v (λ p n. g (r p) (r n)) p m n
      same p m n hp hm hn = go (ℕ_discrete m v)
        where
          go : Dec (m ≡ v) → cond (eqb (r m) (r v)) (g (r p) (r n)) 0 ≡ cond (eqb m v) (g (r p) (r n)) 0
          go (yes e) = rw (e, eqb-self (r v), eqb-self v) refl
          go (no k) = rw (ne_eqb (r m) (r v) (λ e. k (sym (inverse m hm) ∙ (ap back e ∙ inverse v hv))), ne_eqb m v k) refl

  -- a new number in use is that of a point in use
  from_old : (u : ℕ) → 0 < valence (map (rename_quad r) S) u → (0 < valence S (back u)) × (r (back u) ≡ u)
  from_old u h = (use-back, go (ℕ_discrete (r (back u)) u))
    where
      at_back : (p m n : ℕ) → 0 < valence S p → 0 < valence S m → 0 < valence S n → at u (λ p n. 1) (r p) (r m) (r n) ≤ at (back u) (λ p n. 1) p m n
      at_back p m n hp hm hn = go (ℕ_discrete (r m) u)
        where
          go : Dec (r m ≡ u) → at u (λ p n. 1) (r p) (r m) (r n) ≤ at (back u) (λ p n. 1) p m n
          go (yes e) = omega (arith, at_same u (λ p n. 1) (r p) (r n), ap (λ k. at u (λ p n. 1) (r p) k (r n)) e, at_same (back u) (λ p n. 1) p n, ap (λ k. at (back u) (λ p n. 1) p k n) (sym (inverse m hm) ∙ ap back e))
          go (no k) = omega (arith, at-diff u (λ p n. 1) (r p) (r m) (r n) k)

      use-back : 0 < valence S (back u)
      use-back = omega (arith, h, total-map (at u (λ p n. 1)) r S, total-le-on (λ x. 0 < valence S x) (λ p m n. at u (λ p n. 1) (r p) (r m) (r n)) (at (back u) (λ p n. 1)) at_back S used-on)

      go : Dec (r (back u) ≡ u) → r (back u) ≡ u
      go (yes e) = e
      go (no k) = absurd (omega (arith, h, total-map (at u (λ p n. 1)) r S, total-le-on (λ x. 0 < valence S x) (λ p m n. at u (λ p n. 1) (r p) (r m) (r n)) (λ p m n. 0) none S used-on, total-zero S))
        where
          none : (p m n : ℕ) → 0 < valence S p → 0 < valence S m → 0 < valence S n → at u (λ p n. 1) (r p) (r m) (r n) ≤ 0
          none p m n hp hm hn = omega (arith, at-diff u (λ p n. 1) (r p) (r m) (r n) (λ e. k (ap r (ap back (sym e) ∙ inverse m hm) ∙ e)))

  pub renumbered-rings : Rings S → Rings (map (rename_quad r) S)
  unfolding Rings
  renumbered-rings rs u h = subst (λ k. Ring (at_point (map (rename_quad r) S) k)) old.1 (renamed (at_point S v) (at_point (map (rename_quad r) S) (r v)) r one (at_new v old.0) w)
    where
      old : (0 < valence S (back u)) × (r (back u) ≡ u)
      old = from_old u h

      v : ℕ
      v = back u

      w : Ring (at_point S v)
      w = rs v old.0

      le : (x p m n : ℕ) → 0 < valence S p → 0 < valence S m → 0 < valence S n → at v (λ p n. is x (r p)) p m n ≤ at v (λ p n. is (back x) p) p m n
      le x p m n hp hm hn = go (eqb m v)
        where
          there : is x (r p) ≤ is (back x) p
          there = yet (ℕ_discrete x (r p))
            where
              yet : Dec (x ≡ r p) → is x (r p) ≤ is (back x) p
              yet (yes e) = omega (arith, is_le x (r p), is-self (back x), ap (is (back x)) (ap back e ∙ inverse p hp))
              yet (no k) = omega (arith, is-other x (r p) k)

          go : (b : Bool) → cond b (is x (r p)) 0 ≤ cond b (is (back x) p) 0
          go true = there
          go false = omega arith

      one : (x : ℕ) → at_point S v (λ p n. is x (r p)) ≤ 1
      one x = omega (
        arith,
        total-le-on (λ x. 0 < valence S x) (at v (λ p n. is x (r p))) (at v (λ p n. is (back x) p)) (le x) S used-on,
        w.apart (back x),
        w.same (λ p n. is (back x) p),
        cyc-from (is (back x)) w.round,
      )

  pub renumbered-proper : All Differ S → All Differ (map (rename_quad r) S)
  unfolding All On
  renumbered-proper a = go S a used-on
    where
      apart : (x y : ℕ) → x ≢ y → 0 < valence S x → 0 < valence S y → r x ≢ r y
      apart x y n hx hy e = n (sym (inverse x hx) ∙ (ap back e ∙ inverse y hy))

      go : (T : List Quad) → All Differ T → On (λ x. 0 < valence S x) T → All Differ (map (rename_quad r) T)
      go [] a o = tt
      go (quad x y z w ∷ T) ((xy, xz, xw, yz, yw, zw), a) ((hx, hy, hz, hw), o) =
          ((apart x y xy hx hy, apart x z xz hx hz, apart x w xw hx hw, apart y z yz hy hz, apart y w yw hy hw, apart z w zw hz hw), go T a o)

  -- a point touches what it touched
  touches-new : (u l : ℕ) (Q : List Quad) (labels : List ℕ) → On (λ x. 0 < valence S x) Q → touches (map (rename_quad r) Q) labels u l ≤ touches Q labels (back u) l
  unfolding On
  touches-new u l [] labels o = omega arith
  touches-new u l (quad a b c d ∷ Q) [] o = omega arith
  touches-new u l (quad a b c d ∷ Q) (k ∷ labels) ((ha, hb, hc, hd), o) = omega (arith, one (eqb k l), touches-new u l Q labels o)
    where
      le : (p m n : ℕ) → 0 < valence S m → at u (λ p n. 1) (r p) (r m) (r n) ≤ at (back u) (λ p n. 1) p m n
      le p m n hm = go (ℕ_discrete (r m) u)
        where
          go : Dec (r m ≡ u) → at u (λ p n. 1) (r p) (r m) (r n) ≤ at (back u) (λ p n. 1) p m n
          go (yes e) = omega (arith, at_same u (λ p n. 1) (r p) (r n), ap (λ k. at u (λ p n. 1) (r p) k (r n)) e, at_same (back u) (λ p n. 1) p n, ap (λ k. at (back u) (λ p n. 1) p k n) (sym (inverse m hm) ∙ ap back e))
          go (no k) = omega (arith, at-diff u (λ p n. 1) (r p) (r m) (r n) k)

      one : (x : Bool) → cond x (corners (at u (λ p n. 1)) (quad (r a) (r b) (r c) (r d))) 0 ≤ cond x (corners (at (back u) (λ p n. 1)) (quad a b c d)) 0
      one true = omega (arith, le d a b ha, le a b c hb, le b c d hc, le c d a hd)
      one false = omega arith

  pub renumbered-clash : (labels : List ℕ) → NoClash S labels → NoClash (map (rename_quad r) S) labels
  unfolding NoClash
  renumbered-clash labels nc u j h = omega (arith, touches-new u (2 * j + 1) S labels used-on, nc (back u) j (omega (arith, h, touches-new u (2 * j) S labels used-on)))

-- Sums over points and over lists.
upto-shift : (n : ℕ) (f : ℕ → ℕ) → upto (suc n) f ≡ f 0 + upto n (λ v. f (suc v))
upto-shift zero f = refl
upto-shift (suc n) f = omega (arith, upto-shift n f)

upto-list : (F : ℕ → ℕ) (l : List ℕ) → upto (length l) (λ u. F (get_or l u 0)) ≡ sum F l
upto-list F [] = refl
upto-list F (x ∷ l) = upto-shift (length l) (λ u. F (get_or (x ∷ l) u 0)) ∙ ap (λ k. F x + k) (upto-list F l)

pub upto_add : (n : ℕ) (f g : ℕ → ℕ) → upto n (λ v. f v + g v) ≡ upto n f + upto n g
upto_add zero f g = refl
upto_add (suc n) f g = omega (arith, upto_add n f g)

pub upto_zero : (n : ℕ) → upto n (λ v. 0) ≡ 0
upto_zero zero = refl
upto_zero (suc n) = omega (arith, upto_zero n)

upto-single : (n : ℕ) (F : ℕ → ℕ) (x : ℕ) → x < n → upto n (λ v. cond (eqb v x) (F v) 0) ≡ F x
upto-single n F x h = omega (arith, upto-mask n f x h, there, upto-ext (mask x f) (λ v. 0) n (λ v l. away v (ℕ_discrete v x)), upto_zero n)
  where
    f : ℕ → ℕ
    f v = cond (eqb v x) (F v) 0

    there : f x ≡ F x
    there = rw (eqb-self x) refl

    away : (v : ℕ) → Dec (v ≡ x) → mask x f v ≡ 0
    away v (yes e) = rw (e, eqb-self x) refl
    away v (no n) = mask-diff x f v n ∙ (rw (ne_eqb v x n) refl)

pub sum-by-point : (n : ℕ) (F : ℕ → ℕ) (l : List ℕ) → ((x : ℕ) → 0 < sum (is x) l → x < n) → sum F l ≡ upto n (λ v. sum (λ x. cond (eqb v x) (F v) 0) l)
sum-by-point n F [] h = sym (upto_zero n)
sum-by-point n F (x ∷ l) h = omega (arith, upto_add n (λ v. cond (eqb v x) (F v) 0) (λ v. sum (λ y. cond (eqb v y) (F v) 0) l), upto-single n F x (h x (omega (arith, is-self x))), sum-by-point n F l (λ y k. h y (omega arith)))

none-once : (v k : ℕ) (l : List ℕ) → ((sum (is v) l ≡ 0) → sum (λ x. cond (eqb v x) k 0) l ≡ 0) × ((sum (is v) l ≡ 1) → sum (λ x. cond (eqb v x) k 0) l ≡ k)
none-once v k [] = ((λ h. refl), (λ h. absurd (omega arith)))
none-once v k (x ∷ l) = go (ℕ_discrete v x) (none-once v k l)
  where
    go : Dec (v ≡ x) → ((sum (is v) l ≡ 0) → sum (λ x. cond (eqb v x) k 0) l ≡ 0) × ((sum (is v) l ≡ 1) → sum (λ x. cond (eqb v x) k 0) l ≡ k)
        → ((is v x + sum (is v) l ≡ 0) → cond (eqb v x) k 0 + sum (λ x. cond (eqb v x) k 0) l ≡ 0) × ((is v x + sum (is v) l ≡ 1) → cond (eqb v x) k 0 + sum (λ x. cond (eqb v x) k 0) l ≡ k)
    go (yes e) (f, g) = ((λ h. absurd (omega (arith, one))), (λ h. omega (arith, here-k, f (omega (arith, one)))))
      where
        one : is v x ≡ 1
        one = ap (is v) (sym e) ∙ is-self v

        here-k : cond (eqb v x) k 0 ≡ k
        here-k = rw (e, eqb-self x) refl
    go (no n) (f, g) = ((λ h. omega (arith, zero-k, f (omega (arith, is-other v x n)))), (λ h. omega (arith, zero-k, g (omega (arith, is-other v x n)))))
      where
        zero-k : cond (eqb v x) k 0 ≡ 0
        zero-k = rw (ne_eqb v x n) refl

pub valence-list : (v : ℕ) (S : List Quad) → valence S v ≡ sum (is v) (flat_quads S)
unfolding flat_quads
valence-list v [] = refl
valence-list v (quad a b c d ∷ S) = omega (arith, one a, one b, one c, one d, valence-list v S)
  where
    one : (x : ℕ) → cond (eqb x v) 1 0 ≡ is v x
    one x = num-pick (eqb x v) ∙ is-sym x v
      where
        num-pick : (b : Bool) → cond b 1 0 ≡ num b
        num-pick true = refl
        num-pick false = refl

module _ (S : List Quad) where
  order-apart : OnceEach (order S)
  unfolding order OnceEach
  order-apart = firsts-apart (flat_quads S) [] (λ x. omega arith)

  in_order : (v : ℕ) → 0 < valence S v → 0 < sum (is v) (order S)
  unfolding order
  in_order v h = (firsts-some v (flat_quads S) []).1 (omega (arith, valence-list v S))

  pub of-order : (v : ℕ) → 0 < sum (is v) (order S) → 0 < valence S v
  unfolding order
  of-order v h = omega (arith, valence-list v S, (firsts-some v (flat_quads S) []).0 h)

  -- A sum over the points in use is one over the list of them.
  by_order : (n : ℕ) → Below n S → (h : ℕ → ℕ) → h 0 ≡ 0 → sum (λ v. h (valence S v)) (order S) ≡ upto n (λ v. h (valence S v))
  unfolding Below OnceEach
  by_order n b h z = sum-by-point n (λ v. h (valence S v)) (order S) (λ x k. b x (of-order x k)) ∙ upto-ext _ (λ v. h (valence S v)) n (λ v l. go v (zero_or (valence S v)))
    where
      go : (v : ℕ) → (valence S v ≡ 0) ⊎ (0 < valence S v) → sum (λ x. cond (eqb v x) (h (valence S v)) 0) (order S) ≡ h (valence S v)
      go v (inl e) = (none-once v (h (valence S v)) (order S)).0 (none (zero_or (sum (is v) (order S)))) ∙ (sym z ∙ ap h (sym e))
        where
          none : (sum (is v) (order S) ≡ 0) ⊎ (0 < sum (is v) (order S)) → sum (is v) (order S) ≡ 0
          none (inl k) = k
          none (inr k) = absurd (omega (arith, of-order v k))
      go v (inr k) = (none-once v (h (valence S v)) (order S)).1 (omega (arith, order-apart v, in_order v k))

  -- the new number of a point, and back
  back : ℕ → ℕ
  back u = get_or (order S) u 0

  inverse : (x : ℕ) → 0 < valence S x → back (place x (order S)) ≡ x
  unfolding back
  inverse x h = (place_at x (order S) (in_order x h)).1

  pub renumber-rings : Rings S → Rings (renumber S)
  unfolding renumber
  renumber-rings = renumbered-rings S (λ x. place x (order S)) back inverse

  pub renumber-proper : All Differ S → All Differ (renumber S)
  unfolding renumber
  renumber-proper = renumbered-proper S (λ x. place x (order S)) back inverse

  pub renumber-clash : (labels : List ℕ) → NoClash S labels → NoClash (renumber S) labels
  unfolding renumber
  renumber-clash = renumbered-clash S (λ x. place x (order S)) back inverse

  pub renumber-below : Below (length (order S)) (renumber S)
  unfolding renumber Below back
  renumber-below u h = go (from_old S (λ x. place x (order S)) back inverse u h)
    where
      go : (0 < valence S (get_or (order S) u 0)) × (place (get_or (order S) u 0) (order S) ≡ u) → u < length (order S)
      go (p, q) = omega (arith, q, (place_at (get_or (order S) u 0) (order S) (in_order (get_or (order S) u 0) p)).0)

  -- the valences
  member : (u : ℕ) → u < length (order S) → 0 < valence S (get_or (order S) u 0)
  member u l = of-order (get_or (order S) u 0) (omega (arith, sum-at (is (get_or (order S) u 0)) (order S) u 0 l, is-self (get_or (order S) u 0)))

  pub renumber-valence : (u : ℕ) → u < length (order S) → valence (renumber S) u ≡ valence S (get_or (order S) u 0)
  unfolding renumber
  renumber-valence u l = subst (λ k. valence (map (rename_quad (λ x. place x (order S))) S) k ≡ valence S (get_or (order S) u 0)) (at_place (order S) order-apart u l)
      (at_new S (λ x. place x (order S)) back inverse (get_or (order S) u 0) (member u l) (λ p n. 1))

  pub renumber-used : (u : ℕ) → u < length (order S) → 0 < valence (renumber S) u
  renumber-used u l = omega (arith, renumber-valence u l, member u l)

  pub renumber-squared : (n : ℕ) → Below n S → squared (length (order S)) (renumber S) ≡ squared_used n S
  unfolding squared squared_used
  renumber-squared n b = sum-tab (λ v. sq (valence (renumber S) v)) itself (length (order S)) ∙ (upto-ext (λ u. sq (valence (renumber S) u)) (λ u. sq_used (valence S (get_or (order S) u 0))) (length (order S)) same
      ∙ (upto-list (λ v. sq_used (valence S v)) (order S) ∙ by_order n b sq_used refl))
    where
      same : (u : ℕ) → u < length (order S) → sq (valence (renumber S) u) ≡ sq_used (valence S (get_or (order S) u 0))
      same u l = ap sq (renumber-valence u l) ∙ sym (sq-used-pos (valence S (get_or (order S) u 0)) (member u l))

  pub renumber-points : (n : ℕ) → Below n S → length (order S) ≡ in_use n S
  unfolding in_use
  renumber-points n b = sym (upto-ones (length (order S))) ∙ (upto-ext (λ u. 1) (λ u. one (valence S (get_or (order S) u 0))) (length (order S)) (λ u l. sym (ap {B = ℕ} (λ k. cond k 0 1) (ne_eqb (valence S (get_or (order S) u 0)) 0 (λ e. omega (arith, member u l)))))
      ∙ (upto-list (λ v. one (valence S v)) (order S) ∙ by_order n b one refl))
    where
      one : ℕ → ℕ
      one k = cond (eqb k 0) 0 1

      upto-ones : (k : ℕ) → upto k (λ u. 1) ≡ k
      upto-ones zero = refl
      upto-ones (suc k) = omega (arith, upto-ones k)

  pub renumber-length : length (renumber S) ≡ length S
  unfolding renumber
  renumber-length = length-map S (rename_quad (λ x. place x (order S)))

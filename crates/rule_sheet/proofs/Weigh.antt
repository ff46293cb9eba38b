-- Weights at one point, sums over points, the square, and closed sheets from rings. Assumes nothing.
use mathlib.Core.Path.{◌≡◌, refl, ap, sym, ◌∙◌}
use mathlib.Core.Logic.{◌⊎◌, inl, inr, ◌≢◌}
use Prim.Native.Nat.{ℕ, zero, suc, ◌+◌, ◌*◌, ◌-◌, ◌≤◌, ◌<◌}
use native.Mathlib.Nat.{mul-suc, suc-mul}
use mathlib.Core.List.{List, [], ◌∷◌}
use mathlib.Core.Bool.{Bool, true, false, not, cond}
use native.Mathlib.Omega.{arith}
use native.Mathlib.Decide.{ℕ_discrete}
use lib.Dec.{eqb}
use borrow.Author.Tests.{ne_eqb, ltb-false}
use Rattle.rule_sheet.specs.Closed.{at_point, Ring, Rings, Closed}
use Rattle.rule_sheet.specs.Quads.{Quad, quad, turn, num, is, sum, corners, total, at, valence, side, is_edge}
use Rattle.rule_sheet.proofs.FirstUse.{is-other}
use Rattle.rule_sheet.proofs.Sums.{upto-ext, upto}
use Rattle.rule_sheet.specs.Squared.{sq}
use Rattle.rule_sheet.proofs.Base.{eqb-self, pos-split, cyc-from, cyc-to}

pub at_same : (v : ℕ) (g : ℕ → ℕ → ℕ) (p n : ℕ) → at v g p v n ≡ g p n
at_same v g p n = rw (eqb-self v) refl

pub at-diff : (v : ℕ) (g : ℕ → ℕ → ℕ) (p m n : ℕ) → ¬ (m ≡ v) → at v g p m n ≡ 0
at-diff v g p m n h = rw (ne_eqb m v h) refl

-- a larger weight has a larger sum
pub corners-le : (f g : ℕ → ℕ → ℕ → ℕ) → ((p m n : ℕ) → f p m n ≤ g p m n) → (q : Quad) → corners f q ≤ corners g q
corners-le f g l (quad a b c d) = omega (arith, l d a b, l a b c, l b c d, l c d a)

pub total-le : (f g : ℕ → ℕ → ℕ → ℕ) → ((p m n : ℕ) → f p m n ≤ g p m n) → (S : List Quad) → total f S ≤ total g S
total-le f g l [] = omega arith
total-le f g l (q ∷ S) = omega (arith, corners-le f g l q, total-le f g l S)

pub at-le : (v : ℕ) (f g : ℕ → ℕ → ℕ) → ((p n : ℕ) → f p n ≤ g p n) → (p m n : ℕ) → at v f p m n ≤ at v g p m n
at-le v f g l p m n = go (eqb m v)
  where
    go : (b : Bool) → cond b (f p n) 0 ≤ cond b (g p n) 0
    go true = l p n
    go false = omega arith

pub at-point-le : (S : List Quad) (v : ℕ) (f g : ℕ → ℕ → ℕ) → ((p n : ℕ) → f p n ≤ g p n) → at_point S v f ≤ at_point S v g
at-point-le S v f g l = total-le (at v f) (at v g) (at-le v f g l) S

pub is_le : (x y : ℕ) → is x y ≤ 1
is_le x y = go (eqb x y)
  where
    go : (b : Bool) → num b ≤ 1
    go true = omega arith
    go false = omega arith

pub is-sym : (x y : ℕ) → is x y ≡ is y x
is-sym x y = go (ℕ_discrete x y)
  where
    go : Dec (x ≡ y) → is x y ≡ is y x
    go (yes p) = rw p refl
    go (no n) = is-other x y n ∙ sym (is-other y x (λ p. n (sym p)))

-- A side is counted at its start and at its end alike.
pub flip : (u v a b : ℕ) → cond (eqb a v) (is u b) 0 ≡ cond (eqb b u) (is v a) 0
flip u v a b = go (ℕ_discrete a v) (ℕ_discrete b u)
  where
    go : Dec (a ≡ v) → Dec (b ≡ u) → cond (eqb a v) (is u b) 0 ≡ cond (eqb b u) (is v a) 0
    go (yes p) (yes q) = rw (p, q, eqb-self v, eqb-self u) refl
    go (yes p) (no n) = rw (p, eqb-self v, ne_eqb b u n) (is-other u b (λ e. n (sym e)))
    go (no m) (yes q) = rw (q, eqb-self u, ne_eqb a v m) (sym (is-other v a (λ e. m (sym e))))
    go (no m) (no n) = rw (ne_eqb a v m, ne_eqb b u n) refl

pub side-at-end : (S : List Quad) (v u : ℕ) → side S v u ≡ at_point S u (λ p n. is v p)
side-at-end [] v u = refl
side-at-end (quad a b c d ∷ S) v u = omega (arith, flip u v a b, flip u v b c, flip u v c d, flip u v d a, side-at-end S v u)

-- A sheet with rings is closed.
pub rings-closed : (S : List Quad) → Rings S → Closed S
unfolding Rings Closed
rings-closed S r u v h = go (r u (in_use (pos-split (side S u v) (side S v u) h)))
  where
    in_use : (0 < side S u v) ⊎ (0 < side S v u) → 0 < valence S u
    in_use (inl k) = omega (arith, at-point-le S u (λ p n. is v n) (λ p n. 1) (λ p n. is_le v n))
    in_use (inr k) = omega (arith, side-at-end S v u, at-point-le S u (λ p n. is v p) (λ p n. 1) (λ p n. is_le v p))

    go : Ring (at_point S u) → (side S u v ≡ 1) × (side S v u ≡ 1)
    go w = (omega (arith, one, to, from), omega (arith, one, to, from))
      where
        one : sum (is v) w.round ≤ 1
        one = w.apart v

        to : side S u v ≡ sum (is v) w.round
        to = w.same (λ p n. is v n) ∙ cyc-to (is v) w.round

        from : side S v u ≡ sum (is v) w.round
        from = side-at-end S v u ∙ (w.same (λ p n. is v p) ∙ cyc-from (is v) w.round)

-- (k + 1 - 4) squared
pub sq-suc : (k : ℕ) → sq (suc k) + 7 ≡ sq k + 2 * k
sq-suc zero = refl
sq-suc (suc zero) = refl
sq-suc (suc (suc zero)) = refl
sq-suc (suc (suc (suc zero))) = refl
sq-suc (suc (suc (suc (suc m)))) = go _ _ _ _ (omega arith) (omega arith) (omega arith) (omega arith)
  where
    go : (a b c d : ℕ) → a ≡ suc m → b ≡ 0 → c ≡ m → d ≡ 0 → (a * a + b * b) + 7 ≡ (c * c + d * d) + 2 * suc (suc (suc (suc m)))
    go a b c d p q r s = rw (p, q, r, s) (omega (arith, suc-mul m (suc m), mul-suc m m))

-- below 4 one of the two squares is 0, else the other
pub sq-low : (k : ℕ) → k < 4 → (4 - k) * (4 - k) ≡ sq k
sq-low k h = let e : k - 4 ≡ 0 = omega arith in rw e (omega arith)

pub sq-high : (k : ℕ) → 4 ≤ k → (k - 4) * (k - 4) ≡ sq k
sq-high k h = let e : 4 - k ≡ 0 = omega arith in rw e (omega arith)

-- Sums over points.
abbrev pub mask : ℕ → (ℕ → ℕ) → ℕ → ℕ
mask a f v = cond (eqb v a) 0 (f v)

pub mask-same : (a : ℕ) (f : ℕ → ℕ) → mask a f a ≡ 0
mask-same a f = rw (eqb-self a) refl

pub mask-diff : (a : ℕ) (f : ℕ → ℕ) (v : ℕ) → ¬ (v ≡ a) → mask a f v ≡ f v
mask-diff a f v h = rw (ne_eqb v a h) refl

pub upto-mask : (n : ℕ) (f : ℕ → ℕ) (a : ℕ) → a < n → upto n f ≡ f a + upto n (mask a f)
upto-mask zero f a h = absurd (omega arith)
upto-mask (suc n) f a h = go (ℕ_discrete n a) (upto-mask n f a)
  where
    go : Dec (n ≡ a) → (a < n → upto n f ≡ f a + upto n (mask a f)) → f n + upto n f ≡ f a + (mask a f n + upto n (mask a f))
    go (yes p) ih = omega (arith, ap f p, ap (mask a f) p, mask-same a f, upto-ext f (mask a f) n (λ v l. sym (mask-diff a f v (λ e. omega arith))))
    go (no m) ih = omega (arith, ih (omega arith), mask-diff a f n m)

mask-ext : (a : ℕ) (f g : ℕ → ℕ) (v : ℕ) → (¬ (v ≡ a) → f v ≡ g v) → mask a f v ≡ mask a g v
mask-ext a f g v h = go (ℕ_discrete v a)
  where
    go : Dec (v ≡ a) → mask a f v ≡ mask a g v
    go (yes p) = rw (p, eqb-self a) refl
    go (no n) = mask-diff a f v n ∙ (h n ∙ sym (mask-diff a g v n))

-- A sum over points, and its terms at four of them.
upto-mask-four : (n : ℕ) (f : ℕ → ℕ) (a b c d : ℕ) → a < n → b < n → c < n → d < n → a ≢ b → a ≢ c → a ≢ d → b ≢ c → b ≢ d → c ≢ d
    → upto n f ≡ (f a + (f b + (f c + f d))) + upto n (mask d (mask c (mask b (mask a f))))
upto-mask-four n f a b c d la lb lc ld ab ac ad bc bd cd =
    omega (
      arith,
      upto-mask n f a la,
      upto-mask n (mask a f) b lb,
      upto-mask n (mask b (mask a f)) c lc,
      upto-mask n (mask c (mask b (mask a f))) d ld,
      mask-diff a f b (λ p. ab (sym p)),
      mask-diff a f c (λ p. ac (sym p)),
      mask-diff a f d (λ p. ad (sym p)),
      mask-diff b (mask a f) c (λ p. bc (sym p)),
      mask-diff b (mask a f) d (λ p. bd (sym p)),
      mask-diff c (mask b (mask a f)) d (λ p. cd (sym p)),
    )

pub upto-four : (n : ℕ) (f g : ℕ → ℕ) (a b c d : ℕ) → a < n → b < n → c < n → d < n → a ≢ b → a ≢ c → a ≢ d → b ≢ c → b ≢ d → c ≢ d
    → ((v : ℕ) → v ≢ a → v ≢ b → v ≢ c → v ≢ d → f v ≡ g v)
    → upto n f + (g a + (g b + (g c + g d))) ≡ upto n g + (f a + (f b + (f c + f d)))
upto-four n f g a b c d la lb lc ld ab ac ad bc bd cd h =
    omega (
      arith,
      upto-mask-four n f a b c d la lb lc ld ab ac ad bc bd cd,
      upto-mask-four n g a b c d la lb lc ld ab ac ad bc bd cd,
      upto-ext (mask d (mask c (mask b (mask a f)))) (mask d (mask c (mask b (mask a g)))) n
          (λ v l. mask-ext d (mask c (mask b (mask a f))) (mask c (mask b (mask a g))) v (λ nd. mask-ext c (mask b (mask a f)) (mask b (mask a g)) v (λ nc. mask-ext b (mask a f) (mask a g) v (λ nb. mask-ext a f g v (λ na. h v na nb nc nd))))),
    )

-- ---- a quad read from another corner

-- A quad read from another corner has the same corners.
pub corners-turn : (f : ℕ → ℕ → ℕ → ℕ) (k : ℕ) (q : Quad) → corners f (turn k q) ≡ corners f q
corners-turn f zero (quad a b c d) = refl
corners-turn f (suc k) (quad a b c d) = omega (arith, corners-turn f k (quad b c d a))

pub here : (k : ℕ) (q : Quad) (a b c d : ℕ) → turn k q ≡ quad a b c d → (f : ℕ → ℕ → ℕ → ℕ) → corners f q ≡ corners f (quad a b c d)
here k q a b c d e f = sym (corners-turn f k q) ∙ ap (corners f) e

-- what is no edge has no side
pub no_edge : (S : List Quad) (a b : ℕ) → not (is_edge S a b) ≡ true → side S a b + side S b a ≡ 0
no_edge S a b e = let l = ltb-false 0 (side S a b + side S b a) (go (is_edge S a b) e) in omega arith
  where
    go : (b : Bool) → not b ≡ true → b ≡ false
    go true k = sym k
    go false k = refl

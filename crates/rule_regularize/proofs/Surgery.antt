-- One swap, as an exchange of corners: b leaves the ring of a and a that of b; d enters the ring of c and c that of d.
-- Assumes nothing.
use mathlib.Core.Path.{◌≡◌, ap, sym}
use mathlib.Core.Logic.{◌≢◌}
use Prim.Native.Nat.{ℕ, suc, ◌+◌, ◌*◌, ◌-◌, ◌<◌}
use native.Mathlib.Omega.{arith}
use native.Mathlib.Decide.{ℕ_discrete}
use Rattle.rule_sheet.specs.Closed.{Ring}
use Rattle.rule_sheet.specs.Quads.{is, at}
use Rattle.rule_sheet.proofs.Sums.{upto}
use Rattle.rule_sheet.specs.Squared.{sq}
use Rattle.rule_sheet.proofs.Rings.{take_out, put_in, ring-same}
use Rattle.rule_sheet.proofs.Weigh.{at_same, at-diff, sq-suc, upto-four}

-- a weight of corners
abbrev W : Type 0
W = ℕ → ℕ → ℕ → ℕ

pub record Exchange (T T' : (ℕ → ℕ → ℕ → ℕ) → ℕ) (a b c d : ℕ) : Type 0 where
  pub x : ℕ
  pub y : ℕ
  pub x' : ℕ
  pub y' : ℕ
  pub s : ℕ
  pub t : ℕ
  pub s' : ℕ
  pub t' : ℕ
  pub moved : (f : ℕ → ℕ → ℕ → ℕ) → T' f + (f x a b + (f b a y + (f x' b a + (f a b y' + (f s c t + f s' d t')))))
      ≡ T f + (f x a y + (f x' b y' + (f s c d + (f d c t + (f s' d c + f c d t')))))
  pub ab : a ≢ b
  pub ac : a ≢ c
  pub ad : a ≢ d
  pub bc : b ≢ c
  pub bd : b ≢ d
  pub cd : c ≢ d
  pub xb : x ≢ b
  pub by : b ≢ y
  pub xy : x ≢ y
  pub xa' : x' ≢ a
  pub ay' : a ≢ y'
  pub xy' : x' ≢ y'
  pub st : s ≢ t
  pub ds : d ≢ s
  pub dt : d ≢ t
  pub st' : s' ≢ t'
  pub cs' : c ≢ s'
  pub ct' : c ≢ t'

module _ (T T' : (ℕ → ℕ → ℕ → ℕ) → ℕ) (a b c d : ℕ) (e : Exchange T T' a b c d) where
  open e use {x, y, x', y', s, t, s', t', moved, ab, ac, ad, bc, bd, cd}

  pub at_a : (g : ℕ → ℕ → ℕ) → T' (at a g) + (g x b + g b y) ≡ T (at a g) + g x y
  at_a g = omega (
    arith,
    moved (at a g),
    at_same a g x b,
    at_same a g b y,
    at_same a g x y,
    at-diff a g x' b a (λ p. ab (sym p)),
    at-diff a g a b y' (λ p. ab (sym p)),
    at-diff a g s c t (λ p. ac (sym p)),
    at-diff a g s' d t' (λ p. ad (sym p)),
    at-diff a g x' b y' (λ p. ab (sym p)),
    at-diff a g s c d (λ p. ac (sym p)),
    at-diff a g d c t (λ p. ac (sym p)),
    at-diff a g s' d c (λ p. ad (sym p)),
    at-diff a g c d t' (λ p. ad (sym p)),
  )

  pub at_b : (g : ℕ → ℕ → ℕ) → T' (at b g) + (g x' a + g a y') ≡ T (at b g) + g x' y'
  at_b g = omega (
    arith,
    moved (at b g),
    at_same b g x' a,
    at_same b g a y',
    at_same b g x' y',
    at-diff b g x a b ab,
    at-diff b g b a y ab,
    at-diff b g s c t (λ p. bc (sym p)),
    at-diff b g s' d t' (λ p. bd (sym p)),
    at-diff b g x a y ab,
    at-diff b g s c d (λ p. bc (sym p)),
    at-diff b g d c t (λ p. bc (sym p)),
    at-diff b g s' d c (λ p. bd (sym p)),
    at-diff b g c d t' (λ p. bd (sym p)),
  )

  pub at_c : (g : ℕ → ℕ → ℕ) → T' (at c g) + g s t ≡ T (at c g) + (g s d + g d t)
  at_c g = omega (
    arith,
    moved (at c g),
    at_same c g s t,
    at_same c g s d,
    at_same c g d t,
    at-diff c g x a b ac,
    at-diff c g b a y ac,
    at-diff c g x' b a bc,
    at-diff c g a b y' bc,
    at-diff c g s' d t' (λ p. cd (sym p)),
    at-diff c g x a y ac,
    at-diff c g x' b y' bc,
    at-diff c g s' d c (λ p. cd (sym p)),
    at-diff c g c d t' (λ p. cd (sym p)),
  )

  pub at_d : (g : ℕ → ℕ → ℕ) → T' (at d g) + g s' t' ≡ T (at d g) + (g s' c + g c t')
  at_d g = omega (
    arith,
    moved (at d g),
    at_same d g s' t',
    at_same d g s' c,
    at_same d g c t',
    at-diff d g x a b ad,
    at-diff d g b a y ad,
    at-diff d g x' b a bd,
    at-diff d g a b y' bd,
    at-diff d g s c t cd,
    at-diff d g x a y ad,
    at-diff d g x' b y' bd,
    at-diff d g s c d cd,
    at-diff d g d c t cd,
  )

  pub at_other : (v : ℕ) → v ≢ a → v ≢ b → v ≢ c → v ≢ d → (g : ℕ → ℕ → ℕ) → T' (at v g) ≡ T (at v g)
  at_other v na nb nc nd g = omega (
    arith,
    moved (at v g),
    at-diff v g x a b (λ p. na (sym p)),
    at-diff v g b a y (λ p. na (sym p)),
    at-diff v g x a y (λ p. na (sym p)),
    at-diff v g x' b a (λ p. nb (sym p)),
    at-diff v g a b y' (λ p. nb (sym p)),
    at-diff v g x' b y' (λ p. nb (sym p)),
    at-diff v g s c t (λ p. nc (sym p)),
    at-diff v g s c d (λ p. nc (sym p)),
    at-diff v g d c t (λ p. nc (sym p)),
    at-diff v g s' d t' (λ p. nd (sym p)),
    at-diff v g s' d c (λ p. nd (sym p)),
    at-diff v g c d t' (λ p. nd (sym p)),
  )

  -- Rings stay rings, if c and d were no neighbours.
  pub ring-kept : T (at c (λ p n. is d p)) ≡ 0 → T (at d (λ p n. is c p)) ≡ 0 → 0 < T (at c (λ p n. 1)) → 0 < T (at d (λ p n. 1))
      → ((v : ℕ) → 0 < T (at v (λ p n. 1)) → Ring (λ g. T (at v g))) → (v : ℕ) → 0 < T' (at v (λ p n. 1)) → Ring (λ g. T' (at v g))
  ring-kept nc nd hc hd r v = go (ℕ_discrete v a) (ℕ_discrete v b) (ℕ_discrete v c) (ℕ_discrete v d)
    where
      Goal : ℕ → Type 0
      Goal v = 0 < T' (at v (λ p n. 1)) → Ring (λ g. T' (at v g))

      goal-a : Goal a
      goal-a h = take_out (λ g. T (at a g)) (λ g. T' (at a g)) x b y e.xb e.by e.xy at_a (r a (omega (arith, at_a (λ p n. 1))))

      goal-b : Goal b
      goal-b h = take_out (λ g. T (at b g)) (λ g. T' (at b g)) x' a y' e.xa' e.ay' e.xy' at_b (r b (omega (arith, at_b (λ p n. 1))))

      goal-c : Goal c
      goal-c h = put_in (λ g. T (at c g)) (λ g. T' (at c g)) s d t e.st e.ds e.dt nc at_c (r c hc)

      goal-d : Goal d
      goal-d h = put_in (λ g. T (at d g)) (λ g. T' (at d g)) s' c t' e.st' e.cs' e.ct' nd at_d (r d hd)

      go : Dec (v ≡ a) → Dec (v ≡ b) → Dec (v ≡ c) → Dec (v ≡ d) → Goal v
      go (yes p) _ _ _ = rw p goal-a
      go (no na) (yes p) _ _ = rw p goal-b
      go (no na) (no nb) (yes p) _ = rw p goal-c
      go (no na) (no nb) (no nc) (yes p) = rw p goal-d
      go (no na) (no nb) (no nc) (no nd) = λ h. ring-same (λ g. T (at v g)) (λ g. T' (at v g)) (at_other v na nb nc nd) (r v (omega (arith, at_other v na nb nc nd (λ p n. 1))))

  -- The squared sum falls by 2 × (va + vb − vc − vd) − 4.
  pub squared-falls : (n : ℕ) → a < n → b < n → c < n → d < n
      → upto n (λ v. sq (T' (at v (λ p n. 1)))) + 2 * (T (at a (λ p n. 1)) + T (at b (λ p n. 1))) ≡ upto n (λ v. sq (T (at v (λ p n. 1)))) + (2 * (T (at c (λ p n. 1)) + T (at d (λ p n. 1))) + 4)
  squared-falls n la lb lc ld =
      omega (
        arith,
        upto-four n (λ v. sq (val' v)) (λ v. sq (val v)) a b c d la lb lc ld ab ac ad bc bd cd (λ v na nb nc nd. ap sq (at_other v na nb nc nd one)),
        down a (at_a one),
        down b (at_b one),
        up c (at_c one),
        up d (at_d one),
      )
    where
      one : ℕ → ℕ → ℕ
      one p n = 1

      val : ℕ → ℕ
      val v = T (at v one)

      val' : ℕ → ℕ
      val' v = T' (at v one)

      down : (v : ℕ) → val' v + (1 + 1) ≡ val v + 1 → sq (val v) + 9 ≡ sq (val' v) + 2 * val v
      down v h = let p : val v ≡ suc (val' v) = omega arith in omega (arith, sq-suc (val' v), ap sq p)

      up : (v : ℕ) → val' v + 1 ≡ val v + (1 + 1) → sq (val' v) + 7 ≡ sq (val v) + 2 * val v
      up v h = let p : val' v ≡ suc (val v) = omega arith in omega (arith, sq-suc (val v), ap sq p)

-- One merge of two opposite corners a and c of the quad (a, b, c, d). Assumes nothing.
use mathlib.Core.Path.{◌≡◌, refl, ap, ap₂, sym, ◌∙◌}
use mathlib.Core.Logic.{◌⊎◌, inl, inr, ◌≢◌}
use Prim.Native.Nat.{ℕ, suc, ◌+◌, ◌-◌, ◌≤◌, ◌<◌}
use mathlib.Core.List.{List, [], ◌∷◌, map}
use mathlib.Core.Bool.{Bool, true, false, cond}
use native.Mathlib.Omega.{arith}
use native.Mathlib.Decide.{ℕ_discrete}
use lib.Dec.{eqb}
use lib.ListN.{length}
use borrow.Author.Tests.{ne_eqb}
use Rattle.rule_sheet.specs.Closed.{ind, at_point, arc, cyc, Ring}
use Rattle.rule_sheet.specs.Quads.{Quad, quad, is, sum, corners, total, at, valence, side}
use Rattle.rule_sheet.proofs.FirstUse.{is-other}
use Rattle.rule_sheet.proofs.Sums.{upto}
use Rattle.rule_sheet.proofs.Base.{eqb-self, is-self, ind-same, cyc-from}
use Rattle.rule_sheet.proofs.Rings.{Cut, cut, join, renamed, arc-map, cyc-map}
use Rattle.rule_sheet.proofs.Weigh.{at_same, at-diff, is_le, side-at-end, at-point-le, upto-four}
use Rattle.rule_coarsen.specs.Merges.{rename}

-- total is linear
pub total_ext : (f g : ℕ → ℕ → ℕ → ℕ) → ((p m n : ℕ) → f p m n ≡ g p m n) → (S : List Quad) → total f S ≡ total g S
total_ext f g h [] = refl
total_ext f g h (quad a b c d ∷ S) = omega (arith, h d a b, h a b c, h b c d, h c d a, total_ext f g h S)

pub total-add : (f g : ℕ → ℕ → ℕ → ℕ) (S : List Quad) → total (λ p m n. f p m n + g p m n) S ≡ total f S + total g S
total-add f g [] = omega arith
total-add f g (quad a b c d ∷ S) = omega (arith, total-add f g S)

pub total-zero : (S : List Quad) → total (λ p m n. 0) S ≡ 0
total-zero [] = refl
total-zero (quad a b c d ∷ S) = omega (arith, total-zero S)

pub ren-same : (c a : ℕ) → rename c a c ≡ a
ren-same c a = rw (eqb-self c) refl

pub ren-diff : (c a x : ℕ) → x ≢ c → rename c a x ≡ x
ren-diff c a x h = rw (ne_eqb x c h) refl

-- a list without c is not renamed
map-ren : (c a : ℕ) (w : List ℕ) → sum (is c) w ≡ 0 → map (rename c a) w ≡ w
map-ren c a [] h = refl
map-ren c a (x ∷ w) h = ap₂ {C = List ℕ} (λ y l. y ∷ l) (ren-diff c a x (λ p. omega (arith, is-self c, ap (is c) p))) (map-ren c a w (omega arith))

-- a ring without c is not renamed
pub ring-ren : (R : (ℕ → ℕ → ℕ) → ℕ) (c a : ℕ) → Ring R → R (λ p n. is c p) ≡ 0 → (g : ℕ → ℕ → ℕ) → R (λ p n. g (rename c a p) (rename c a n)) ≡ R g
ring-ren R c a r z g =
    r.same (λ p n. g (rename c a p) (rename c a n)) ∙ (sym (cyc-map (rename c a) g r.round)
    ∙ (ap (cyc g) (map-ren c a r.round (sym (cyc-from (is c) r.round) ∙ (sym (r.same (λ p n. is c p)) ∙ z))) ∙ sym (r.same g)))

-- The ring of one of the other two corners: x and y get one name, a, and the corner between them goes.
close_up : (R R' : (ℕ → ℕ → ℕ) → ℕ) (c a x y : ℕ) → rename c a x ≡ a → rename c a y ≡ a → ((k : ℕ) → is k a ≤ is k x + is k y) → (is c x + is c y ≡ 1)
    → ((g : ℕ → ℕ → ℕ) → R' g + g a a ≡ R (λ p n. g (rename c a p) (rename c a n))) → 3 ≤ R (λ p n. 1) → Cut R x y → Ring R'
close_up R R' c a x y rx ry low one e v k = record {
  round = a ∷ k.way;
  two = longer k.way (k.corners (λ p n. 1));
  apart = λ z. omega (arith, k.apart z, low z);
  same = λ g. omega (arith, e g, k.corners (λ p n. g (rename c a p) (rename c a n)), ap₂ g rx ry, way g);
}
  where
    longer : (l : List ℕ) → R (λ p n. 1) ≡ 1 + arc (λ p n. 1) y l x → 2 ≤ suc (length l)
    longer [] h = absurd (omega arith)
    longer (z ∷ l) h = omega arith

    clean : map (rename c a) k.way ≡ k.way
    clean = map-ren c a k.way (omega (arith, k.apart c))

    way : (g : ℕ → ℕ → ℕ) → arc (λ p n. g (rename c a p) (rename c a n)) y k.way x ≡ arc g a k.way a
    way g = sym (arc-map (rename c a) g y k.way x) ∙ (ap₂ (λ u z. arc g u (map (rename c a) k.way) z) ry rx ∙ ap (λ l. arc g a l a) clean)

module _ (L L' : List Quad) (a b c d : ℕ) (ab : a ≢ b) (ac : a ≢ c) (ad : a ≢ d) (bc : b ≢ c) (bd : b ≢ d) (cd : c ≢ d)
    (moved : (f : ℕ → ℕ → ℕ → ℕ) → total f L' + corners (λ p m n. f (rename c a p) (rename c a m) (rename c a n)) (quad a b c d) ≡ total (λ p m n. f (rename c a p) (rename c a m) (rename c a n)) L)
    (face : (f : ℕ → ℕ → ℕ → ℕ) → corners f (quad a b c d) ≤ total f L) where
  ρ : ℕ → ℕ
  ρ x = rename c a x

  -- the face's corners, renamed
  gone : (f : ℕ → ℕ → ℕ → ℕ) → corners (λ p m n. f (rename c a p) (rename c a m) (rename c a n)) (quad a b c d) ≡ f d a b + (f a b a + (f b a d + f a d a))
  gone f = rw (eqb-self c, ne_eqb a c ac, ne_eqb b c bc, ne_eqb d c (λ p. cd (sym p))) refl

  -- the weight at v, renamed
  at-ren : (v : ℕ) (g : ℕ → ℕ → ℕ) → v ≢ a → v ≢ c → (p m n : ℕ) → at v g (rename c a p) (rename c a m) (rename c a n) ≡ at v (λ p n. g (rename c a p) (rename c a n)) p m n
  at-ren v g na nc p m n = go (ℕ_discrete m c)
    where
      go : Dec (m ≡ c) → cond (eqb (rename c a m) v) (g (rename c a p) (rename c a n)) 0 ≡ cond (eqb m v) (g (rename c a p) (rename c a n)) 0
      go (yes e) = rw (e, eqb-self c, ne_eqb a v (λ q. na (sym q)), ne_eqb c v (λ q. nc (sym q))) refl
      go (no e) = ap (λ k. cond (eqb k v) (g (rename c a p) (rename c a n)) 0) (ren-diff c a m e)

  at-ren-a : (g : ℕ → ℕ → ℕ) → (p m n : ℕ) → at a g (rename c a p) (rename c a m) (rename c a n) ≡ at a (λ p n. g (rename c a p) (rename c a n)) p m n + at c (λ p n. g (rename c a p) (rename c a n)) p m n
  at-ren-a g p m n = go (ℕ_discrete m c)
    where
      k : ℕ
      k = g (rename c a p) (rename c a n)

      go : Dec (m ≡ c) → cond (eqb (rename c a m) a) k 0 ≡ cond (eqb m a) k 0 + cond (eqb m c) k 0
      go (yes e) = rw (e, ren-same c a, eqb-self a, eqb-self c, ne_eqb c a (λ q. ac (sym q))) (omega arith)
      go (no e) = rw (ren-diff c a m e, ne_eqb m c e) (omega arith)

  at-ren-c : (g : ℕ → ℕ → ℕ) → (p m n : ℕ) → at c g (rename c a p) (rename c a m) (rename c a n) ≡ 0
  at-ren-c g p m n = go (ℕ_discrete m c)
    where
      go : Dec (m ≡ c) → cond (eqb (rename c a m) c) (g (rename c a p) (rename c a n)) 0 ≡ 0
      go (yes e) = rw (e, ren-same c a, ne_eqb a c ac) refl
      go (no e) = rw (ren-diff c a m e, ne_eqb m c e) refl

  -- the corners at each point after the merge
  pub new-a : (g : ℕ → ℕ → ℕ) → at_point L' a g + (g d b + g b d) ≡ at_point L a (λ p n. g (rename c a p) (rename c a n)) + at_point L c (λ p n. g (rename c a p) (rename c a n))
  new-a g = omega (
    arith,
    moved (at a g),
    gone (at a g),
    at_same a g d b,
    at-diff a g a b a (λ p. ab (sym p)),
    at_same a g b d,
    at-diff a g a d a (λ p. ad (sym p)),
    total_ext (λ p m n. at a g (rename c a p) (rename c a m) (rename c a n)) (λ p m n. at a (λ p n. g (rename c a p) (rename c a n)) p m n + at c (λ p n. g (rename c a p) (rename c a n)) p m n) (at-ren-a g) L,
    total-add (at a (λ p n. g (rename c a p) (rename c a n))) (at c (λ p n. g (rename c a p) (rename c a n))) L,
  )

  pub new-b : (g : ℕ → ℕ → ℕ) → at_point L' b g + g a a ≡ at_point L b (λ p n. g (rename c a p) (rename c a n))
  new-b g = omega (
    arith,
    moved (at b g),
    gone (at b g),
    at-diff b g d a b ab,
    at_same b g a a,
    at-diff b g b a d ab,
    at-diff b g a d a (λ p. bd (sym p)),
    total_ext (λ p m n. at b g (rename c a p) (rename c a m) (rename c a n)) (at b (λ p n. g (rename c a p) (rename c a n))) (at-ren b g (λ p. ab (sym p)) bc) L,
  )

  pub new-d : (g : ℕ → ℕ → ℕ) → at_point L' d g + g a a ≡ at_point L d (λ p n. g (rename c a p) (rename c a n))
  new-d g = omega (
    arith,
    moved (at d g),
    gone (at d g),
    at-diff d g d a b ad,
    at-diff d g a b a bd,
    at-diff d g b a d ad,
    at_same d g a a,
    total_ext (λ p m n. at d g (rename c a p) (rename c a m) (rename c a n)) (at d (λ p n. g (rename c a p) (rename c a n))) (at-ren d g (λ p. ad (sym p)) (λ p. cd (sym p))) L,
  )

  pub new-c : (g : ℕ → ℕ → ℕ) → at_point L' c g ≡ 0
  new-c g = omega (arith, moved (at c g), total_ext (λ p m n. at c g (rename c a p) (rename c a m) (rename c a n)) (λ p m n. 0) (at-ren-c g) L, total-zero L)

  pub new-other : (v : ℕ) → v ≢ a → v ≢ b → v ≢ c → v ≢ d → (g : ℕ → ℕ → ℕ) → at_point L' v g ≡ at_point L v (λ p n. g (rename c a p) (rename c a n))
  new-other v na nb nc nd g = omega (
    arith,
    moved (at v g),
    gone (at v g),
    at-diff v g d a b (λ p. na (sym p)),
    at-diff v g a b a (λ p. nb (sym p)),
    at-diff v g b a d (λ p. na (sym p)),
    at-diff v g a d a (λ p. nd (sym p)),
    total_ext (λ p m n. at v g (rename c a p) (rename c a m) (rename c a n)) (at v (λ p n. g (rename c a p) (rename c a n))) (at-ren v g na nc) L,
  )

  face-at : (v : ℕ) (g : ℕ → ℕ → ℕ) → corners (at v g) (quad a b c d) ≤ at_point L v g
  face-at v g = face (at v g)

  there-a : 0 < at_point L a (ind d b)
  there-a = omega (arith, face-at a (ind d b), at_same a (ind d b) d b, ind-same d b)

  there-b : 0 < at_point L b (ind a c)
  there-b = omega (arith, face-at b (ind a c), at_same b (ind a c) a c, ind-same a c)

  there-c : 0 < at_point L c (ind b d)
  there-c = omega (arith, face-at c (ind b d), at_same c (ind b d) b d, ind-same b d)

  there-d : 0 < at_point L d (ind c a)
  there-d = omega (arith, face-at d (ind c a), at_same d (ind c a) c a, ind-same c a)

  pub use-a : 0 < valence L a
  use-a = omega (arith, face-at a (λ p n. 1), at_same a (λ p n. 1) d b)

  pub use-b : 0 < valence L b
  use-b = omega (arith, face-at b (λ p n. 1), at_same b (λ p n. 1) a c)

  pub use-c : 0 < valence L c
  use-c = omega (arith, face-at c (λ p n. 1), at_same c (λ p n. 1) b d)

  pub use-d : 0 < valence L d
  use-d = omega (arith, face-at d (λ p n. 1), at_same d (λ p n. 1) c a)

  module _ (no-ac : side L a c ≡ 0) (no-ca : side L c a ≡ 0) (no-cc : side L c c ≡ 0)
      (share : (x : ℕ) → x ≢ b → x ≢ d → (side L a x + side L x a ≡ 0) ⊎ (side L c x + side L x c ≡ 0))
      (vb : 3 ≤ valence L b) (vd : 3 ≤ valence L d) (r : (v : ℕ) → 0 < valence L v → Ring (at_point L v)) where
    ring-a : Ring (at_point L' a)
    ring-a = join (at_point L a) (at_point L c) (at_point L' a) b d bd apart
        (λ g. omega (arith, new-a g, ring-ren (at_point L a) c a (r a use-a) (sym (side-at-end L c a) ∙ no-ca) g, ring-ren (at_point L c) c a (r c use-c) (sym (side-at-end L c c) ∙ no-cc) g))
        there-a there-c (r a use-a) (r c use-c)
      where
        apart : (x : ℕ) → x ≢ b → x ≢ d → (at_point L a (λ p n. is x p) ≡ 0) ⊎ (at_point L c (λ p n. is x p) ≡ 0)
        apart x nb nd = go (share x nb nd)
          where
            go : (side L a x + side L x a ≡ 0) ⊎ (side L c x + side L x c ≡ 0) → (at_point L a (λ p n. is x p) ≡ 0) ⊎ (at_point L c (λ p n. is x p) ≡ 0)
            go (inl z) = inl (omega (arith, side-at-end L x a))
            go (inr z) = inr (omega (arith, side-at-end L x c))

    ring-b : Ring (at_point L' b)
    ring-b = close_up (at_point L b) (at_point L' b) c a a c (ren-diff c a a ac) (ren-same c a) (λ k. omega arith) (omega (arith, is-self c, is-other c a (λ p. ac (sym p)))) new-b vb
        (cut (at_point L b) a c (r b use-b) ac there-b)

    ring-d : Ring (at_point L' d)
    ring-d = close_up (at_point L d) (at_point L' d) c a c a (ren-same c a) (ren-diff c a a ac) (λ k. omega arith) (omega (arith, is-self c, is-other c a (λ p. ac (sym p)))) new-d vd
        (cut (at_point L d) c a (r d use-d) (λ p. ac (sym p)) there-d)

    ring-other : (v : ℕ) → v ≢ a → v ≢ b → v ≢ c → v ≢ d → 0 < valence L' v → Ring (at_point L' v)
    ring-other v na nb nc nd h = renamed (at_point L v) (at_point L' v) (rename c a) one (new-other v na nb nc nd) w
      where
        w : Ring (at_point L v)
        w = r v (omega (arith, new-other v na nb nc nd (λ p n. 1)))

        once : (x : ℕ) → at_point L v (λ p n. is x p) ≤ 1
        once x = omega (arith, w.apart x, w.same (λ p n. is x p), cyc-from (is x) w.round)

        elsewhere : (x : ℕ) → x ≢ a → (p n : ℕ) → is x (rename c a p) ≤ is x p
        elsewhere x xa p n = go (ℕ_discrete p c)
          where
            go : Dec (p ≡ c) → is x (rename c a p) ≤ is x p
            go (yes e) = omega (arith, ap (is x) (ap (rename c a) e ∙ ren-same c a), is-other x a xa)
            go (no e) = omega (arith, ap (is x) (ren-diff c a p e))

        at_both : (p n : ℕ) → is a (rename c a p) ≤ is a p + is c p
        at_both p n = go (ℕ_discrete p c)
          where
            go : Dec (p ≡ c) → is a (rename c a p) ≤ is a p + is c p
            go (yes e) = omega (arith, is_le a (rename c a p), ap (is c) e, is-self c)
            go (no e) = omega (arith, ap (is a) (ren-diff c a p e))

        both : at_point L v (λ p n. is a p + is c p) ≤ 1
        both = go (share v nb nd)
          where
            split : at_point L v (λ p n. is a p + is c p) ≡ at_point L v (λ p n. is a p) + at_point L v (λ p n. is c p)
            split = total_ext (at v (λ p n. is a p + is c p)) (λ p m n. at v (λ p n. is a p) p m n + at v (λ p n. is c p) p m n) (λ p m n. spread (eqb m v) (is a p) (is c p)) L
                ∙ total-add (at v (λ p n. is a p)) (at v (λ p n. is c p)) L
              where
                spread : (k : Bool) (x y : ℕ) → cond k (x + y) 0 ≡ cond k x 0 + cond k y 0
                spread true x y = refl
                spread false x y = refl

            go : (side L a v + side L v a ≡ 0) ⊎ (side L c v + side L v c ≡ 0) → at_point L v (λ p n. is a p + is c p) ≤ 1
            go (inl z) = omega (arith, split, side-at-end L a v, once c)
            go (inr z) = omega (arith, split, side-at-end L c v, once a)

        one : (x : ℕ) → at_point L v (λ p n. is x (rename c a p)) ≤ 1
        one x = go (ℕ_discrete x a)
          where
            go : Dec (x ≡ a) → at_point L v (λ p n. is x (rename c a p)) ≤ 1
            go (yes e) = rw e (omega (arith, at-point-le L v (λ p n. is a (rename c a p)) (λ p n. is a p + is c p) at_both, both))
            go (no e) = omega (arith, at-point-le L v (λ p n. is x (rename c a p)) (λ p n. is x p) (elsewhere x e), once x)

    pub merge-rings : (v : ℕ) → 0 < valence L' v → Ring (at_point L' v)
    merge-rings v = go (ℕ_discrete v a) (ℕ_discrete v b) (ℕ_discrete v c) (ℕ_discrete v d)
      where
        Goal : ℕ → Type 0
        Goal v = 0 < valence L' v → Ring (at_point L' v)

        at_c : Goal c
        at_c h = absurd (omega (arith, new-c (λ p n. 1)))

        go : Dec (v ≡ a) → Dec (v ≡ b) → Dec (v ≡ c) → Dec (v ≡ d) → Goal v
        go (yes p) _ _ _ = λ h. rw p ring-a
        go (no na) (yes p) _ _ = λ h. rw p ring-b
        go (no na) (no nb) (yes p) _ = rw p at_c
        go (no na) (no nb) (no nc) (yes p) = λ h. rw p ring-d
        go (no na) (no nb) (no nc) (no nd) = ring-other v na nb nc nd

  -- The valences after the merge.
  pub val-a : valence L' a + 2 ≡ valence L a + valence L c
  val-a = omega (arith, new-a (λ p n. 1))

  pub val-b : valence L' b + 1 ≡ valence L b
  val-b = new-b (λ p n. 1)

  pub val-d : valence L' d + 1 ≡ valence L d
  val-d = new-d (λ p n. 1)

  pub val-c : valence L' c ≡ 0
  val-c = new-c (λ p n. 1)

  pub merge-below : (n : ℕ) → ((v : ℕ) → 0 < valence L v → v < n) → (v : ℕ) → 0 < valence L' v → v < n
  merge-below n u v h = go (ℕ_discrete v a) (ℕ_discrete v b) (ℕ_discrete v c) (ℕ_discrete v d)
    where
      go : Dec (v ≡ a) → Dec (v ≡ b) → Dec (v ≡ c) → Dec (v ≡ d) → v < n
      go (yes p) _ _ _ = rw p (u a use-a)
      go (no na) (yes p) _ _ = rw p (u b use-b)
      go (no na) (no nb) (yes p) _ = rw p (u c use-c)
      go (no na) (no nb) (no nc) (yes p) = rw p (u d use-d)
      go (no na) (no nb) (no nc) (no nd) = u v (omega (arith, new-other v na nb nc nd (λ p n. 1)))

  -- A sum over the points, of a weight of the valence.
  pub merge-sum : (n : ℕ) → ((v : ℕ) → 0 < valence L v → v < n) → (h : ℕ → ℕ)
      → upto n (λ v. h (valence L' v)) + (h (valence L a) + (h (valence L b) + (h (valence L c) + h (valence L d))))
      ≡ upto n (λ v. h (valence L v)) + (h (valence L' a) + (h (valence L' b) + (h (valence L' c) + h (valence L' d))))
  merge-sum n u h = upto-four n (λ v. h (valence L' v)) (λ v. h (valence L v)) a b c d (u a use-a) (u b use-b) (u c use-c) (u d use-d) ab ac ad bc bd cd
      (λ v na nb nc nd. ap h (new-other v na nb nc nd (λ p n. 1)))

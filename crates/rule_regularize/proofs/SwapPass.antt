-- The swaps of one pass use the edges of the pass's start; each is a swap of the sheet as it stands. Assumes nothing.
use mathlib.Core.Path.{◌≡◌, refl, ap, sym, ◌∙◌, subst}
use mathlib.Core.Logic.{◌⊎◌, inl, inr, ◌≢◌}
use Prim.Native.Nat.{ℕ, zero, suc, ◌+◌, ◌*◌, ◌-◌, ◌≤◌, ◌<◌}
use native.Mathlib.Nat.{suc-mul, zero-mul}
use mathlib.Core.List.{List, [], ◌∷◌}
use mathlib.Core.Bool.{Bool, true, false, cond}
use native.Mathlib.Omega.{arith}
use native.Mathlib.Decide.{ℕ_discrete, dec_lt}
use lib.Dec.{eqb}
use lib.ListN.{length, set, get_or, length-set, get_or-eq_default}
use lib.Seq.{get_or-set_other}
use Rattle.rule_sheet.specs.Closed.{at_point, Rings}
use Rattle.rule_sheet.specs.Quads.{Quad, quad, is, corners, total, at, valence, side, touches}
use Rattle.rule_sheet.proofs.FirstUse.{is-other, is_pos}
use Rattle.rule_sheet.proofs.Sums.{sum-tab}
use Rattle.rule_sheet.specs.Squared.{sq, squared}
use Rattle.rule_sheet.specs.Claims.{Below, Differ, All, NoClash}
use Rattle.rule_regularize.specs.Swaps.{swap_one, swap_two}
use Rattle.rule_passes.specs.Choices.{none_quad}
use Rattle.rule_sheet.proofs.Base.{is-self, pos-split}
use Rattle.rule_sheet.proofs.Labels.{label-sum-set, label-sum-at, no-new-clash}
use Rattle.rule_regularize.proofs.Passes.{Six, OneOf, is0, is1, is2, is4, is5, Hexagon, Bar, Pass, stop, one, two}
use Rattle.rule_sheet.specs.Claims.{Has}
use Rattle.rule_sheet.proofs.Rings.{zero_or, ring-two}
use Rattle.rule_regularize.proofs.Surgery.{Exchange, ring-kept, squared-falls, at_a, at_b, at_c, at_d, at_other}
use Rattle.rule_regularize.proofs.Swap.{exchange-one, exchange-two}
use Rattle.rule_sheet.proofs.Weigh.{here}
use Rattle.rule_sheet.proofs.Sums.{sum-at}
use Rattle.rule_sheet.proofs.Weigh.{at_same, at-diff, side-at-end, is_le}
use Rattle.lists.specs.Sort.{itself}

-- The pass's invariant.
pub record Inv (S0 S : List Quad) (B : ℕ → Type 0) : Type 0 where
  pub len : length S ≡ length S0
  pub kept : (i : ℕ) → ¬ B i → get_or S i none_quad ≡ get_or S0 i none_quad
  pub old_edge : (u v : ℕ) → 0 < side S u v → (0 < side S0 u v) ⊎ ((i : ℕ) → Has (get_or S0 i none_quad) u → B i)

-- the corners of a quad that was turned
-- A corner of a quad is in use.
pub quad-in : (S : List Quad) (i : ℕ) → i < length S → (v : ℕ) → Has (get_or S i none_quad) v → 0 < valence S v
quad-in S i l v h = omega (arith, sum-at (corners (at v (λ p n. 1))) S i none_quad l)

-- the quad that stands for none has no different corners
in_list : (S : List Quad) (i : ℕ) (a b c d : ℕ) → a ≢ b → ((f : ℕ → ℕ → ℕ → ℕ) → corners f (get_or S i none_quad) ≡ corners f (quad a b c d)) → i < length S
in_list S i a b c d ab e = go (dec_lt i (length S))
  where
    go : Dec (i < length S) → i < length S
    go (yes l) = l
    go (no n) = absurd (ab (is_pos a b (omega (arith, e (λ p m n. is p m), ap (corners (λ p m n. is p m)) (get_or-eq_default S none_quad {n = i} (omega arith)), is-self 0, is_le d a, is_le b c, is_le c d))))

pub two-quads : (S : List Quad) (i j h0 h1 h2 h3 h4 h5 : ℕ) → Six h0 h1 h2 h3 h4 h5
    → ((f : ℕ → ℕ → ℕ → ℕ) → corners f (get_or S i none_quad) ≡ corners f (quad h0 h3 h4 h5))
    → ((f : ℕ → ℕ → ℕ → ℕ) → corners f (get_or S j none_quad) ≡ corners f (quad h3 h0 h1 h2)) → i ≢ j
two-quads S i j h0 h1 h2 h3 h4 h5 six qi qj p =
    omega (
      arith,
      qi (λ p m n. is h4 m),
      qj (λ p m n. is h4 m),
      ap (λ k. corners (λ p m n. is h4 m) (get_or S k none_quad)) p,
      is-self h4,
      is-other h4 h3 (λ e. six.n34 (sym e)),
      is-other h4 h0 (λ e. six.n04 (sym e)),
      is-other h4 h1 (λ e. six.n14 (sym e)),
      is-other h4 h2 (λ e. six.n24 (sym e)),
    )

-- The sides that an exchange takes away and brings.
sides-moved : (T T' : (ℕ → ℕ → ℕ → ℕ) → ℕ) (a b c d : ℕ) → Exchange T T' a b c d → (F : ℕ → ℕ → ℕ) → T' (λ p m n. F m n) + (F a b + F b a) ≡ T (λ p m n. F m n) + (F c d + F d c)
sides-moved T T' a b c d e F = omega (arith, e.moved (λ p m n. F m n))

at-pos : (v : ℕ) (g : ℕ → ℕ → ℕ) (p m n : ℕ) → 0 < at v g p m n → m ≡ v
at-pos v g p m n h = go (ℕ_discrete m v)
  where
    go : Dec (m ≡ v) → m ≡ v
    go (yes p) = p
    go (no k) = absurd (omega (arith, at-diff v g p m n k))

all_set : (S : List Quad) (i : ℕ) (q : Quad) → All Differ S → Differ q → All Differ (set S i q)
unfolding All
all_set [] i q a p = tt
all_set (x ∷ S) zero q (px, a) p = (p, a)
all_set (x ∷ S) (suc i) q (px, a) p = (px, all_set S i q a p)

-- the corners of each quad differ after a swap
module _ (S : List Quad) (i j : ℕ) {h0 h1 h2 h3 h4 h5 : ℕ} (six : Six h0 h1 h2 h3 h4 h5) where
  open six use {n01, n02, n04, n05, n12, n13, n14, n15, n23, n24, n25, n34, n35, n45}

  pub one-differ : All Differ S → All Differ (swap_one S i j h0 h1 h2 h3 h4 h5)
  one-differ a = all_set (set S i (quad h1 h2 h3 h4)) j (quad h1 h4 h5 h0) (all_set S i (quad h1 h2 h3 h4) a (n12, n13, n14, n23, n24, n34))
      (n14, n15, (λ p. n01 (sym p)), n45, (λ p. n04 (sym p)), (λ p. n05 (sym p)))

  pub two-differ : All Differ S → All Differ (swap_two S i j h0 h1 h2 h3 h4 h5)
  two-differ a = all_set (set S i (quad h2 h3 h4 h5)) j (quad h2 h5 h0 h1) (all_set S i (quad h2 h3 h4 h5) a (n23, n24, n25, n34, n35, n45))
      (n25, (λ p. n02 (sym p)), (λ p. n12 (sym p)), (λ p. n05 (sym p)), (λ p. n15 (sym p)), n01)

-- What one swap keeps.
pub record Stepped (labels : List ℕ) (S0 S S₁ : List Quad) (B₁ : ℕ → Type 0) (a b c d : ℕ) : Type 0 where
  pub rings : Rings S → Rings S₁
  pub inv : Inv S0 S₁ B₁
  pub below : (n : ℕ) → Below n S → Below n S₁
  pub squares : (n : ℕ) → Below n S → squared n S₁ + 2 * (valence S a + valence S b) ≡ squared n S + (2 * (valence S c + valence S d) + 4)
  pub len : length S₁ ≡ length S
  pub clash : length labels ≡ length S → NoClash S labels → NoClash S₁ labels
  pub four : All Differ S → All Differ S₁
  pub used : Rings S → (v : ℕ) → 0 < valence S v → 0 < valence S₁ v

module _ (labels : List ℕ) (S0 S : List Quad) (B : ℕ → Type 0) (i j h0 h1 h2 h3 h4 h5 : ℕ) (hx : Hexagon labels S B i j h0 h1 h2 h3 h4 h5) (inv : Inv S0 S B)
    (q1 q2 : Quad) (c d : ℕ) (oc : OneOf c h0 h1 h2 h3 h4 h5) (od : OneOf d h0 h1 h2 h3 h4 h5)
    (ex : Exchange (λ f. total f S) (λ f. total f (set (set S i q1) j q2)) h0 h3 c d)
    (hc : Has (get_or S j none_quad) c) (hd : Has (get_or S i none_quad) d) (open-cd : side S0 c d + side S0 d c ≡ 0)
    (hi : Has (get_or S i none_quad) h0) (hj : Has (get_or S j none_quad) h0) (li : i < length S) (lj : j < length S) (ij : i ≢ j)
    (four : All Differ S → All Differ (set (set S i q1) j q2))
    (no_more : (v : ℕ) → corners (at v (λ p n. 1)) q1 + corners (at v (λ p n. 1)) q2 ≤ 2 * (corners (at v (λ p n. 1)) (get_or S i none_quad) + corners (at v (λ p n. 1)) (get_or S j none_quad))) where
  in_start : (k v : ℕ) → ¬ B k → Has (get_or S k none_quad) v → Has (get_or S0 k none_quad) v
  in_start k v nb h = subst (λ q. Has q v) (inv.kept k nb) h

  no-side : (u v k : ℕ) → ¬ B k → Has (get_or S0 k none_quad) u → side S0 u v ≡ 0 → side S u v ≡ 0
  no-side u v k nb h z = go (zero_or (side S u v))
    where
      old : (0 < side S0 u v) ⊎ ((i : ℕ) → Has (get_or S0 i none_quad) u → B i) → ⊥
      old (inl p) = omega arith
      old (inr f) = nb (f k h)

      go : (side S u v ≡ 0) ⊎ (0 < side S u v) → side S u v ≡ 0
      go (inl e) = e
      go (inr p) = absurd (old (inv.old_edge u v p))

  fresh-cd : side S c d ≡ 0
  fresh-cd = no-side c d j hx.free_j (in_start j c hx.free_j hc) (omega arith)

  fresh-dc : side S d c ≡ 0
  fresh-dc = no-side d c i hx.free_i (in_start i d hx.free_i hd) (omega arith)

  pub step-rings : Rings S → Rings (set (set S i q1) j q2)
  unfolding Rings
  step-rings r = ring-kept (λ f. total f S) (λ f. total f (set (set S i q1) j q2)) h0 h3 c d ex
      (sym (side-at-end S d c) ∙ fresh-dc) (sym (side-at-end S c d) ∙ fresh-cd) (quad-in S j lj c hc) (quad-in S i li d hd) r

  pub step-inv : Inv S0 (set (set S i q1) j q2) (Bar S0 B h0 h1 h2 h3 h4 h5)
  step-inv = record {
    len = length-set (set S i q1) j q2 ∙ (length-set S i q1 ∙ inv.len);
    kept = λ k nb. get_or-set_other (set S i q1) j k q2 none_quad (λ p. nb (inr (h0, is0 refl, subst (λ k. Has (get_or S0 k none_quad) h0) (sym p) (in_start j h0 hx.free_j hj))))
        ∙ (get_or-set_other S i k q1 none_quad (λ p. nb (inr (h0, is0 refl, subst (λ k. Has (get_or S0 k none_quad) h0) (sym p) (in_start i h0 hx.free_i hi))))
        ∙ inv.kept k (λ b. nb (inl b)));
    old_edge = λ u v h. go u v h (zero_or (side S u v));
  }
    where
      Old : ℕ → ℕ → Type 0
      Old u v = (0 < side S0 u v) ⊎ ((k : ℕ) → Has (get_or S0 k none_quad) u → Bar S0 B h0 h1 h2 h3 h4 h5 k)

      weaker : (u v : ℕ) → (0 < side S0 u v) ⊎ ((i : ℕ) → Has (get_or S0 i none_quad) u → B i) → Old u v
      weaker u v (inl p) = inl p
      weaker u v (inr f) = inr (λ k h. inl (f k h))

      moved : (u v : ℕ) → side (set (set S i q1) j q2) u v + (at u (λ p n. is v n) 0 h0 h3 + at u (λ p n. is v n) 0 h3 h0) ≡ side S u v + (at u (λ p n. is v n) 0 c d + at u (λ p n. is v n) 0 d c)
      moved u v = sides-moved (λ f. total f S) (λ f. total f (set (set S i q1) j q2)) h0 h3 c d ex (λ m n. at u (λ p n. is v n) 0 m n)

      new : (u v : ℕ) → (0 < at u (λ p n. is v n) 0 c d) ⊎ (0 < at u (λ p n. is v n) 0 d c) → Old u v
      new u v (inl h) = inr (λ k hk. inr (c, oc, subst (λ w. Has (get_or S0 k none_quad) w) (sym (at-pos u (λ p n. is v n) 0 c d h)) hk))
      new u v (inr h) = inr (λ k hk. inr (d, od, subst (λ w. Has (get_or S0 k none_quad) w) (sym (at-pos u (λ p n. is v n) 0 d c h)) hk))

      go : (u v : ℕ) → 0 < side (set (set S i q1) j q2) u v → (side S u v ≡ 0) ⊎ (0 < side S u v) → Old u v
      go u v h (inr p) = weaker u v (inv.old_edge u v p)
      go u v h (inl z) = new u v (pos-split (at u (λ p n. is v n) 0 c d) (at u (λ p n. is v n) 0 d c) (omega (arith, moved u v)))

  h3-in : 0 < valence S h3
  h3-in = omega (arith, at_b (λ f. total f S) (λ f. total f (set (set S i q1) j q2)) h0 h3 c d ex (λ p n. 1))

  pub step-below : (n : ℕ) → Below n S → Below n (set (set S i q1) j q2)
  unfolding Below
  step-below n b v h = go (ℕ_discrete v h0) (ℕ_discrete v h3) (ℕ_discrete v c) (ℕ_discrete v d)
    where
      go : Dec (v ≡ h0) → Dec (v ≡ h3) → Dec (v ≡ c) → Dec (v ≡ d) → v < n
      go (yes p) _ _ _ = rw p (b h0 (quad-in S i li h0 hi))
      go (no na) (yes p) _ _ = rw p (b h3 h3-in)
      go (no na) (no nb) (yes p) _ = rw p (b c (quad-in S j lj c hc))
      go (no na) (no nb) (no nc) (yes p) = rw p (b d (quad-in S i li d hd))
      go (no na) (no nb) (no nc) (no nd) = b v (omega (arith, at_other (λ f. total f S) (λ f. total f (set (set S i q1) j q2)) h0 h3 c d ex v na nb nc nd (λ p n. 1)))

  pub step-squared : (n : ℕ) → Below n S → squared n (set (set S i q1) j q2) + 2 * (valence S h0 + valence S h3) ≡ squared n S + (2 * (valence S c + valence S d) + 4)
  unfolding Below squared
  step-squared n b = omega (
    arith,
    sum-tab (λ v. sq (valence S v)) itself n,
    sum-tab (λ v. sq (valence (set (set S i q1) j q2) v)) itself n,
    squared-falls (λ f. total f S) (λ f. total f (set (set S i q1) j q2)) h0 h3 c d ex n (b h0 (quad-in S i li h0 hi)) (b h3 h3-in) (b c (quad-in S j lj c hc)) (b d (quad-in S i li d hd)),
  )

  step-used : Rings S → (v : ℕ) → 0 < valence S v → 0 < valence (set (set S i q1) j q2) v
  unfolding Rings
  step-used r v h = go (ℕ_discrete v h0) (ℕ_discrete v h3) (ℕ_discrete v c) (ℕ_discrete v d)
    where
      T : (ℕ → ℕ → ℕ → ℕ) → ℕ
      T f = total f S

      T' : (ℕ → ℕ → ℕ → ℕ) → ℕ
      T' f = total f (set (set S i q1) j q2)

      go : Dec (v ≡ h0) → Dec (v ≡ h3) → Dec (v ≡ c) → Dec (v ≡ d) → 0 < valence (set (set S i q1) j q2) v
      go (yes p) _ _ _ = rw p (omega (arith, at_a T T' h0 h3 c d ex (λ p n. 1), ring-two (at_point S h0) (r h0 (quad-in S i li h0 hi))))
      go (no na) (yes p) _ _ = rw p (omega (arith, at_b T T' h0 h3 c d ex (λ p n. 1), ring-two (at_point S h3) (r h3 h3-in)))
      go (no na) (no nb) (yes p) _ = rw p (omega (arith, at_c T T' h0 h3 c d ex (λ p n. 1)))
      go (no na) (no nb) (no nc) (yes p) = rw p (omega (arith, at_d T T' h0 h3 c d ex (λ p n. 1)))
      go (no na) (no nb) (no nc) (no nd) = omega (arith, h, at_other T T' h0 h3 c d ex v na nb nc nd (λ p n. 1))

  step-clash : length labels ≡ length S → NoClash S labels → NoClash (set (set S i q1) j q2) labels
  step-clash e = no-new-clash S (set (set S i q1) j q2) labels labels (λ v l z. go v l z (eqb (get_or labels i 8) l) refl)
    where
      W : ℕ → Quad → ℕ
      W v = corners (at v (λ p n. 1))

      go : (v l : ℕ) → touches S labels v l ≡ 0 → (b : Bool) → eqb (get_or labels i 8) l ≡ b → touches (set (set S i q1) j q2) labels v l ≡ 0
      go v l z b eb = plain b bj (eb' (W v (get_or S i none_quad))) (eb' (W v q1)) (ej (W v (get_or S j none_quad))) (ej (W v q2))
        where
          bj : eqb (get_or labels j 8) l ≡ b
          bj = ap (λ k. eqb k l) (sym hx.agree) ∙ eb

          eb' : (x : ℕ) → cond (eqb (get_or labels i 8) l) x 0 ≡ cond b x 0
          eb' x = ap (λ k. cond k x 0) eb

          ej : (x : ℕ) → cond (eqb (get_or labels j 8) l) x 0 ≡ cond b x 0
          ej x = ap (λ k. cond k x 0) bj

          plain : (b : Bool) → eqb (get_or labels j 8) l ≡ b → cond (eqb (get_or labels i 8) l) (W v (get_or S i none_quad)) 0 ≡ cond b (W v (get_or S i none_quad)) 0 → cond (eqb (get_or labels i 8) l) (W v q1) 0 ≡ cond b (W v q1) 0
              → cond (eqb (get_or labels j 8) l) (W v (get_or S j none_quad)) 0 ≡ cond b (W v (get_or S j none_quad)) 0 → cond (eqb (get_or labels j 8) l) (W v q2) 0 ≡ cond b (W v q2) 0 → touches (set (set S i q1) j q2) labels v l ≡ 0
          plain true x e1 e2 e3 e4 = omega (
            arith,
            z,
            e1,
            e2,
            e3,
            e4,
            no_more v,
            label-sum-at (W v) l S labels i none_quad li e,
            label-sum-at (W v) l S labels j none_quad lj e,
            label-sum-set (W v) l S labels i q1 none_quad li e,
            label-sum-set (W v) l (set S i q1) labels j q2 none_quad (rw length-set lj) (e ∙ sym (length-set S i q1)),
            ap (λ q. cond (eqb (get_or labels j 8) l) (W v q) 0) (get_or-set_other S i j q1 none_quad (λ p. ij (sym p))),
          )
          plain false x e1 e2 e3 e4 = omega (
            arith,
            z,
            e1,
            e2,
            e3,
            e4,
            label-sum-set (W v) l S labels i q1 none_quad li e,
            label-sum-set (W v) l (set S i q1) labels j q2 none_quad (rw length-set lj) (e ∙ sym (length-set S i q1)),
            ap (λ q. cond (eqb (get_or labels j 8) l) (W v q) 0) (get_or-set_other S i j q1 none_quad (λ p. ij (sym p))),
          )

  pub stepped : Stepped labels S0 S (set (set S i q1) j q2) (Bar S0 B h0 h1 h2 h3 h4 h5) h0 h3 c d
  stepped = record {
    rings = step-rings;
    inv = step-inv;
    below = step-below;
    squares = step-squared;
    len = length-set (set S i q1) j q2 ∙ length-set S i q1;
    clash = step-clash;
    used = step-used;
    four = four;
  }

-- What a pass of swaps keeps.
pub record SwapsKeep (labels : List ℕ) (n w : ℕ) (S S' : List Quad) : Type 0 where
  pub clash : NoClash S' labels
  pub used : (v : ℕ) → 0 < valence S v → 0 < valence S' v
  pub four : All Differ S'
  pub rings : Rings S'
  pub below : Below n S'
  pub len : length S' ≡ length S
  pub falls : squared n S' + w ≤ squared n S

-- one more swap in front
then : (labels : List ℕ) (n m c : ℕ) (S S₁ S' : List Quad) → ((v : ℕ) → 0 < valence S v → 0 < valence S₁ v) → (va vb vc vd : ℕ) → length S₁ ≡ length S → squared n S₁ + 2 * (va + vb) ≡ squared n S + (2 * (vc + vd) + 4)
    → vc + vd + 2 + m ≤ va + vb → SwapsKeep labels n (2 * (c * m)) S₁ S' → SwapsKeep labels n (2 * (suc c * m)) S S'
then labels n m c S S₁ S' u va vb vc vd l e g k = record {
  clash = k.clash;
  used = λ v h. k.used v (u v h);
  four = k.four;
  rings = k.rings;
  below = k.below;
  len = k.len ∙ l;
  falls = omega (arith, k.falls, suc-mul c m);
}

module _ (labels : List ℕ) (S0 S : List Quad) (B : ℕ → Type 0) (i j h0 h1 h2 h3 h4 h5 : ℕ) (hx : Hexagon labels S B i j h0 h1 h2 h3 h4 h5) (inv : Inv S0 S B) where
  qi : (f : ℕ → ℕ → ℕ → ℕ) → corners f (get_or S i none_quad) ≡ corners f (quad h0 h3 h4 h5)
  qi = here hx.ei (get_or S i none_quad) h0 h3 h4 h5 hx.here_i

  qj : (f : ℕ → ℕ → ℕ → ℕ) → corners f (get_or S j none_quad) ≡ corners f (quad h3 h0 h1 h2)
  qj = here hx.ej (get_or S j none_quad) h3 h0 h1 h2 hx.here_j

  li : i < length S
  li = in_list S i h0 h3 h4 h5 hx.six.n03 qi

  lj : j < length S
  lj = in_list S j h3 h0 h1 h2 (λ p. hx.six.n03 (sym p)) qj

  ij : i ≢ j
  ij = two-quads S i j h0 h1 h2 h3 h4 h5 hx.six qi qj

  hi0 : Has (get_or S i none_quad) h0
  hi0 = omega (arith, qi (at h0 (λ p n. 1)), at_same h0 (λ p n. 1) h5 h3)

  hj0 : Has (get_or S j none_quad) h0
  hj0 = omega (arith, qj (at h0 (λ p n. 1)), at_same h0 (λ p n. 1) h3 h1)

  pub step-one : side S0 h1 h4 + side S0 h4 h1 ≡ 0 → Stepped labels S0 S (swap_one S i j h0 h1 h2 h3 h4 h5) (Bar S0 B h0 h1 h2 h3 h4 h5) h0 h3 h1 h4
  step-one op = stepped labels S0 S B i j h0 h1 h2 h3 h4 h5 hx inv (quad h1 h2 h3 h4) (quad h1 h4 h5 h0) h1 h4 (is1 refl) (is4 refl)
      (exchange-one S i j h0 h1 h2 h3 h4 h5 li lj ij hx.six qi qj)
      (omega (arith, qj (at h1 (λ p n. 1)), at_same h1 (λ p n. 1) h0 h2)) (omega (arith, qi (at h4 (λ p n. 1)), at_same h4 (λ p n. 1) h3 h5)) op hi0 hj0 li lj ij
      (one-differ S i j hx.six) (λ v. omega (arith, qi (at v (λ p n. 1)), qj (at v (λ p n. 1))))

  pub step-two : side S0 h2 h5 + side S0 h5 h2 ≡ 0 → Stepped labels S0 S (swap_two S i j h0 h1 h2 h3 h4 h5) (Bar S0 B h0 h1 h2 h3 h4 h5) h0 h3 h2 h5
  step-two op = stepped labels S0 S B i j h0 h1 h2 h3 h4 h5 hx inv (quad h2 h3 h4 h5) (quad h2 h5 h0 h1) h2 h5 (is2 refl) (is5 refl)
      (exchange-two S i j h0 h1 h2 h3 h4 h5 li lj ij hx.six qi qj)
      (omega (arith, qj (at h2 (λ p n. 1)), at_same h2 (λ p n. 1) h1 h3)) (omega (arith, qi (at h5 (λ p n. 1)), at_same h5 (λ p n. 1) h4 h0)) op hi0 hj0 li lj ij
      (two-differ S i j hx.six) (λ v. omega (arith, qi (at v (λ p n. 1)), qj (at v (λ p n. 1))))

-- To bar more keeps the invariant.
pub inv-more : (S0 S : List Quad) (B B₁ : ℕ → Type 0) → ((k : ℕ) → B k → B₁ k) → Inv S0 S B → Inv S0 S B₁
inv-more S0 S B B₁ f inv = record { len = inv.len; kept = λ i n. inv.kept i (λ b. n (f i b)); old_edge = λ u v h. go u v (inv.old_edge u v h) }
  where
    go : (u v : ℕ) → (0 < side S0 u v) ⊎ ((i : ℕ) → Has (get_or S0 i none_quad) u → B i) → (0 < side S0 u v) ⊎ ((i : ℕ) → Has (get_or S0 i none_quad) u → B₁ i)
    go u v (inl h) = inl h
    go u v (inr h) = inr (λ i k. f i (h i k))

pub pass_kept : (S0 : List Quad) (labels : List ℕ) (m n : ℕ) (S : List Quad) (B : ℕ → Type 0) (S' : List Quad) (c : ℕ) → Pass S0 labels m S B S' c → Inv S0 S B → length labels ≡ length S → NoClash S labels → All Differ S → Rings S → Below n S → SwapsKeep labels n (2 * (c * m)) S S'
pass_kept S0 labels m n S B S' c stop inv ll nc fo r b = record { clash = nc; used = λ v h. h; four = fo; rings = r; below = b; len = refl; falls = omega (arith, zero-mul m) }
pass_kept S0 labels m n S B S' c (one {B₁ = B₁} {c = k} i j h0 h1 h2 h3 h4 h5 hx op g more rest) inv ll nc fo r b =
    let t : Stepped labels S0 S (swap_one S i j h0 h1 h2 h3 h4 h5) (Bar S0 B h0 h1 h2 h3 h4 h5) h0 h3 h1 h4 = step-one labels S0 S B i j h0 h1 h2 h3 h4 h5 hx inv op in
    then labels n m k S (swap_one S i j h0 h1 h2 h3 h4 h5) S' (t.used r) (valence S h0) (valence S h3) (valence S h1) (valence S h4) t.len (t.squares n b) g
    (pass_kept S0 labels m n (swap_one S i j h0 h1 h2 h3 h4 h5) B₁ S' k rest (inv-more S0 (swap_one S i j h0 h1 h2 h3 h4 h5) (Bar S0 B h0 h1 h2 h3 h4 h5) B₁ more t.inv) (ll ∙ sym t.len) (t.clash ll nc) (t.four fo) (t.rings r) (t.below n b))
pass_kept S0 labels m n S B S' c (two {B₁ = B₁} {c = k} i j h0 h1 h2 h3 h4 h5 hx op g more rest) inv ll nc fo r b =
    let t : Stepped labels S0 S (swap_two S i j h0 h1 h2 h3 h4 h5) (Bar S0 B h0 h1 h2 h3 h4 h5) h0 h3 h2 h5 = step-two labels S0 S B i j h0 h1 h2 h3 h4 h5 hx inv op in
    then labels n m k S (swap_two S i j h0 h1 h2 h3 h4 h5) S' (t.used r) (valence S h0) (valence S h3) (valence S h2) (valence S h5) t.len (t.squares n b) g
    (pass_kept S0 labels m n (swap_two S i j h0 h1 h2 h3 h4 h5) B₁ S' k rest (inv-more S0 (swap_two S i j h0 h1 h2 h3 h4 h5) (Bar S0 B h0 h1 h2 h3 h4 h5) B₁ more t.inv) (ll ∙ sym t.len) (t.clash ll nc) (t.four fo) (t.rings r) (t.below n b))

-- At the start of a pass nothing is barred and every edge is one of the map.
pub inv-start : (S : List Quad) (B : ℕ → Type 0) → Inv S S B
inv-start S B = record { len = refl; kept = λ i h. refl; old_edge = λ u v h. inl h }

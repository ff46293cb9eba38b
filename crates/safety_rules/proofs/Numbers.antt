-- The numbers that `refine` gives to the new points meet what Finer asks of them. Assumes nothing.
use mathlib.Core.Path.{◌≡◌, ap, ap₂, sym, ◌∙◌, subst}
use mathlib.Core.Logic.{◌⊎◌, inl, inr, ◌≢◌}
use Prim.Native.Nat.{ℕ, zero, suc, ◌+◌, ◌*◌, ◌-◌, ◌≤◌, ◌<◌, ◌%◌, ◌/◌, min, max}
use native.Mathlib.Nat.{mul-add-mod_self_right, mul-add-div_right, mod-eq_of_lt, div-eq_of_lt, suc-mul, mul-le-mul_right}
use mathlib.Core.List.{List, [], ◌∷◌}
use native.Mathlib.Omega.{arith}
use native.Mathlib.Decide.{ℕ_discrete}
use lib.ListN.{length, get_or}
use Rattle.rule_sheet.specs.Closed.{Rings}
use Rattle.rule_sheet.specs.FirstUse.{place}
use Rattle.rule_sheet.specs.Quads.{Quad, quad, is, sum, valence, side}
use Rattle.rule_sheet.proofs.FirstUse.{place_at}
use Rattle.rule_finer.specs.Finer.{four_labels, edge_key, centre_key, keys, asked, mid_of, cen_of, finer}
use Rattle.refine.specs.Finer.{finer_count}
use Rattle.rule_sheet.specs.Squared.{squared}
use Rattle.rule_sheet.specs.Claims.{Below, Differ, All, NoClash}
use Rattle.rule_sheet.proofs.Base.{is-self, pos-split}
use Rattle.rule_sheet.proofs.Sums.{sum-at}
use Rattle.rule_sheet.proofs.FirstUse.{is_pos}
use Rattle.rule_sheet.proofs.Weigh.{is_le, side-at-end, at-point-le}
use Rattle.rule_coarsen.proofs.Renumber.{OnceEach, firsts-apart, firsts-some, at_place}
use Rattle.safety_rules.proofs.Finer.{along_quad, sides_of, along-hit, Side4, which, side-one, split_below, split-rings, split-used, split-squared, split-points, split-proper, split-length, split-clash}

-- a pair of numbers below n is known by its key
key-parts : (n a b c d : ℕ) → b < n → d < n → a * n + b ≡ c * n + d → (a ≡ c) × (b ≡ d)
key-parts n a b c d lb ld e = (
  omega (arith, ap (λ k. k / n) e, mul-add-div_right {m = n} (omega arith) a b, mul-add-div_right {m = n} (omega arith) c d, div-eq_of_lt {n = b} {m = n} lb, div-eq_of_lt {n = d} {m = n} ld),
  sym (mod-eq_of_lt lb) ∙ (sym (mul-add-mod_self_right a n b) ∙ (ap (λ k. k % n) e ∙ (mul-add-mod_self_right c n d ∙ mod-eq_of_lt ld))),
)

min-max : (u v u' v' : ℕ) → min u v ≡ min u' v' → max u v ≡ max u' v' → ((u ≡ u') × (v ≡ v')) ⊎ ((u ≡ v') × (v ≡ u'))
min-max u v u' v' l h = go (ℕ_discrete u u')
  where
    same : (u v u' v' : ℕ) → min u v ≡ min u' v' → max u v ≡ max u' v' → u ≡ u' → v ≡ v'
    same u v u' v' l h e = omega arith

    other : (u v u' v' : ℕ) → min u v ≡ min u' v' → max u v ≡ max u' v' → u ≢ u' → (u ≡ v') × (v ≡ u')
    other u v u' v' l h e = (omega arith, omega arith)

    go : Dec (u ≡ u') → ((u ≡ u') × (v ≡ v')) ⊎ ((u ≡ v') × (v ≡ u'))
    go (yes e) = inl (e, same u v u' v' l h e)
    go (no e) = inr (other u v u' v' l h e)

max-low : (u v n : ℕ) → u < n → v < n → max u v < n
max-low u v n p q = omega arith

min-low : (u v n : ℕ) → u < n → v < n → min u v < n
min-low u v n p q = omega arith

-- an edge's key is below a centre's
pub edge-below : (n u v : ℕ) → u < n → v < n → edge_key n u v < n * n
edge-below n u v lu lv = omega (arith, suc-mul (min u v) n, mul-le-mul_right n (min-low u v n lu lv), max-low u v n lu lv)

-- the keys of a sheet are those of its edges and its quads
Source : ℕ → ℕ → List Quad → ℕ → Type 0
Source n i Q y = ((u : ℕ) × (v : ℕ) × (0 < sides_of u v (λ i. 1) i Q) × (y ≡ edge_key n u v)) ⊎ ((j : ℕ) × (j < length Q) × (y ≡ centre_key n (i + j)))

keys_from : (n y i : ℕ) (Q : List Quad) → 0 < sum (is y) (keys n i Q) → Source n i Q y
unfolding Source
keys_from n y i [] h = absurd (omega arith)
keys_from n y i (quad a b c d ∷ Q) h = go1 (pos-split (is y (edge_key n a b)) _ h) (keys_from n y (suc i) Q)
  where
    Goal : Type 0
    Goal = Source n i (quad a b c d ∷ Q) y

    Later : Type 0
    Later = 0 < sum (is y) (keys n (suc i) Q) → Source n (suc i) Q y

    side-here : (u v : ℕ) → 0 < along_quad u v 1 (quad a b c d) → y ≡ edge_key n u v → Goal
    side-here u v k e = inl (u, v, omega arith, e)

    go5 : (0 < is y (centre_key n i)) ⊎ (0 < sum (is y) (keys n (suc i) Q)) → Later → Goal
    go5 (inl k) f = inr (0, omega arith, is_pos y (centre_key n i) k ∙ ap (centre_key n) (omega arith))
    go5 (inr k) f = later (f k)
      where
        later : Source n (suc i) Q y → Goal
        later (inl (u, v, s, e)) = inl (u, v, omega arith, e)
        later (inr (j, l, e)) = inr (suc j, omega arith, e ∙ ap (centre_key n) (omega arith))

    go4 : (0 < is y (edge_key n d a)) ⊎ (0 < is y (centre_key n i) + sum (is y) (keys n (suc i) Q)) → Later → Goal
    go4 (inl k) f = side-here d a (omega (arith, along-hit d a 1)) (is_pos y (edge_key n d a) k)
    go4 (inr k) f = go5 (pos-split (is y (centre_key n i)) _ k) f

    go3 : (0 < is y (edge_key n c d)) ⊎ (0 < is y (edge_key n d a) + (is y (centre_key n i) + sum (is y) (keys n (suc i) Q))) → Later → Goal
    go3 (inl k) f = side-here c d (omega (arith, along-hit c d 1)) (is_pos y (edge_key n c d) k)
    go3 (inr k) f = go4 (pos-split (is y (edge_key n d a)) _ k) f

    go2 : (0 < is y (edge_key n b c)) ⊎ (0 < is y (edge_key n c d) + (is y (edge_key n d a) + (is y (centre_key n i) + sum (is y) (keys n (suc i) Q)))) → Later → Goal
    go2 (inl k) f = side-here b c (omega (arith, along-hit b c 1)) (is_pos y (edge_key n b c) k)
    go2 (inr k) f = go3 (pos-split (is y (edge_key n c d)) _ k) f

    go1 : (0 < is y (edge_key n a b)) ⊎ (0 < is y (edge_key n b c) + (is y (edge_key n c d) + (is y (edge_key n d a) + (is y (centre_key n i) + sum (is y) (keys n (suc i) Q))))) → Later → Goal
    go1 (inl k) f = side-here a b (omega (arith, along-hit a b 1)) (is_pos y (edge_key n a b) k)
    go1 (inr k) f = go2 (pos-split (is y (edge_key n b c)) _ k) f

edge-asked : (n u v i : ℕ) (Q : List Quad) → 0 < sides_of u v (λ i. 1) i Q → 0 < sum (is (edge_key n u v)) (keys n i Q)
unfolding Side4
edge-asked n u v i [] h = absurd (omega arith)
edge-asked n u v i (quad a b c d ∷ Q) h = go (pos-split (along_quad u v 1 (quad a b c d)) _ h) (edge-asked n u v (suc i) Q)
  where
    at_side : (x y : ℕ) → (x ≡ u) × (y ≡ v) → is (edge_key n u v) (edge_key n x y) ≡ 1
    at_side x y (p, q) = ap (is (edge_key n u v)) (ap₂ (edge_key n) p q) ∙ is-self (edge_key n u v)

    four : Side4 u v a b c d → 0 < sum (is (edge_key n u v)) (keys n i (quad a b c d ∷ Q))
    four (inl e) = omega (arith, at_side a b e)
    four (inr (inl e)) = omega (arith, at_side b c e)
    four (inr (inr (inl e))) = omega (arith, at_side c d e)
    four (inr (inr (inr e))) = omega (arith, at_side d a e)

    go : (0 < along_quad u v 1 (quad a b c d)) ⊎ (0 < sides_of u v (λ i. 1) (suc i) Q) → (0 < sides_of u v (λ i. 1) (suc i) Q → 0 < sum (is (edge_key n u v)) (keys n (suc i) Q)) → 0 < sum (is (edge_key n u v)) (keys n i (quad a b c d ∷ Q))
    go (inl k) f = four (which u v a b c d k)
    go (inr k) f = omega (arith, f k)

centre-asked : (n i j : ℕ) (Q : List Quad) → j < length Q → 0 < sum (is (centre_key n (i + j))) (keys n i Q)
centre-asked n i j [] l = absurd (omega arith)
centre-asked n i zero (quad a b c d ∷ Q) l = omega (arith, is-self (centre_key n (i + 0)), ap (λ k. is (centre_key n (i + 0)) (centre_key n k)) (same i))
  where
    same : (i : ℕ) → i + 0 ≡ i
    same i = omega arith
centre-asked n i (suc j) (quad a b c d ∷ Q) l = omega (arith, subst (λ k. 0 < sum (is (centre_key n k)) (keys n (suc i) Q)) (same i j) (centre-asked n (suc i) j Q (omega arith)))
  where
    same : (i j : ℕ) → suc i + j ≡ i + suc j
    same i j = omega arith

module _ (n : ℕ) (S : List Quad) (below : Below n S) (pr : All Differ S) where
  asked-apart : OnceEach (asked n S)
  unfolding asked OnceEach
  asked-apart = firsts-apart (keys n 0 S) [] (λ x. omega arith)

  was-asked : (y : ℕ) → 0 < sum (is y) (keys n 0 S) → 0 < sum (is y) (asked n S)
  unfolding asked
  was-asked y h = (firsts-some y (keys n 0 S) []).1 (omega arith)

  asked_by : (y : ℕ) → 0 < sum (is y) (asked n S) → 0 < sum (is y) (keys n 0 S)
  unfolding asked
  asked_by y h = omega (arith, (firsts-some y (keys n 0 S) []).0 h)

  pub mid-asked : (u v : ℕ) → 0 < side S u v → 0 < sum (is (edge_key n u v)) (asked n S)
  mid-asked u v h = was-asked (edge_key n u v) (edge-asked n u v 0 S (omega (arith, side-one u v 0 S)))

  pub cen-asked : (i : ℕ) → i < length S → 0 < sum (is (centre_key n i)) (asked n S)
  cen-asked i l = was-asked (centre_key n i) (subst (λ k. 0 < sum (is (centre_key n k)) (keys n 0 S)) (omega arith) (centre-asked n 0 i S l))

  pub from_low : (u v : ℕ) → 0 < side S u v → u < n
  unfolding Below
  from_low u v h = below u (omega (arith, at-point-le S u (λ p n. is v n) (λ p n. 1) (λ p n. is_le v n)))

  pub to_low : (u v : ℕ) → 0 < side S u v → v < n
  unfolding Below
  to_low u v h = below v (omega (arith, side-at-end S u v, at-point-le S v (λ p n. is u p) (λ p n. 1) (λ p n. is_le u p)))

  -- equal numbers, equal keys
  same_key : (j k : ℕ) → 0 < sum (is j) (asked n S) → 0 < sum (is k) (asked n S) → n + place j (asked n S) ≡ n + place k (asked n S) → j ≡ k
  same_key j k hj hk e = sym (place_at j (asked n S) hj).1 ∙ (ap (λ i. get_or (asked n S) i 0) (omega arith) ∙ (place_at k (asked n S) hk).1)

  mid-high : (u v : ℕ) → n ≤ mid_of n S u v
  unfolding mid_of
  mid-high u v = omega arith

  cen-high : (i : ℕ) → n ≤ cen_of n S i
  unfolding cen_of
  cen-high i = omega arith

  mid-sym : (u v : ℕ) → mid_of n S u v ≡ mid_of n S v u
  unfolding mid_of
  mid-sym u v = ap₂ (λ a b. n + place (a * n + b) (asked n S)) (min-sym u v) (max-sym u v)
    where
      min-sym : (u v : ℕ) → min u v ≡ min v u
      min-sym u v = omega arith

      max-sym : (u v : ℕ) → max u v ≡ max v u
      max-sym u v = omega arith

  mid-inj : (u v u' v' : ℕ) → 0 < side S u v → 0 < side S u' v' → mid_of n S u v ≡ mid_of n S u' v' → ((u ≡ u') × (v ≡ v')) ⊎ ((u ≡ v') × (v ≡ u'))
  unfolding mid_of
  mid-inj u v u' v' h h' e = min-max u v u' v' parts.0 parts.1
    where
      parts : (min u v ≡ min u' v') × (max u v ≡ max u' v')
      parts = key-parts n (min u v) (max u v) (min u' v') (max u' v') (max-low u v n (from_low u v h) (to_low u v h)) (max-low u' v' n (from_low u' v' h') (to_low u' v' h'))
          (same_key (edge_key n u v) (edge_key n u' v') (mid-asked u v h) (mid-asked u' v' h') e)

  cen-inj : (i j : ℕ) → i < length S → j < length S → cen_of n S i ≡ cen_of n S j → i ≡ j
  unfolding cen_of
  cen-inj i j li lj e = let k : centre_key n i ≡ centre_key n j = same_key (centre_key n i) (centre_key n j) (cen-asked i li) (cen-asked j lj) e in omega arith

  mid-cen : (u v i : ℕ) → 0 < side S u v → i < length S → mid_of n S u v ≢ cen_of n S i
  unfolding mid_of cen_of
  mid-cen u v i h l e = let k : edge_key n u v ≡ centre_key n i = same_key (edge_key n u v) (centre_key n i) (mid-asked u v h) (cen-asked i l) e in omega (arith, edge-below n u v (from_low u v h) (to_low u v h))

  mid-low : (u v : ℕ) → 0 < side S u v → mid_of n S u v < n + length (asked n S)
  unfolding mid_of
  mid-low u v h = omega (arith, (place_at (edge_key n u v) (asked n S) (mid-asked u v h)).0)

  cen-low : (i : ℕ) → i < length S → cen_of n S i < n + length (asked n S)
  unfolding cen_of
  cen-low i l = omega (arith, (place_at (centre_key n i) (asked n S) (cen-asked i l)).0)

  pub covers : (w : ℕ) → n ≤ w → w < n + length (asked n S) → ((u : ℕ) × (v : ℕ) × (0 < side S u v) × (w ≡ mid_of n S u v)) ⊎ ((i : ℕ) × (i < length S) × (w ≡ cen_of n S i))
  unfolding mid_of cen_of Source
  covers w l h = go (keys_from n y 0 S (asked_by y (omega (arith, sum-at (is y) (asked n S) (w - n) 0 inside, is-self y))))
    where
      inside : w - n < length (asked n S)
      inside = omega arith

      y : ℕ
      y = get_or (asked n S) (w - n) 0

      number : w ≡ n + place y (asked n S)
      number = omega (arith, at_place (asked n S) asked-apart (w - n) inside)

      go : Source n 0 S y → ((u : ℕ) × (v : ℕ) × (0 < side S u v) × (w ≡ n + place (edge_key n u v) (asked n S))) ⊎ ((i : ℕ) × (i < length S) × (w ≡ n + place (centre_key n i) (asked n S)))
      go (inl (u, v, s, e)) = inl (u, v, omega (arith, side-one u v 0 S), number ∙ ap (λ k. n + place k (asked n S)) e)
      go (inr (j, l, e)) = inr (j, l, number ∙ ap (λ k. n + place k (asked n S)) (e ∙ ap (centre_key n) (omega arith)))

  pub finer-below : Below (finer_count n S) (finer n S)
  unfolding finer finer_count
  finer-below = split_below (mid_of n S) (cen_of n S) n mid-high cen-high mid-sym S below pr mid-inj cen-inj mid-cen (length (asked n S)) mid-low cen-low covers

  pub finer-used : ((v : ℕ) → v < n → 0 < valence S v) → (w : ℕ) → w < finer_count n S → 0 < valence (finer n S) w
  unfolding finer finer_count
  finer-used = split-used (mid_of n S) (cen_of n S) n mid-high cen-high mid-sym S below pr mid-inj cen-inj mid-cen (length (asked n S)) mid-low cen-low covers

  pub finer-proper : All Differ (finer n S)
  unfolding finer
  finer-proper = split-proper (mid_of n S) (cen_of n S) n mid-high cen-high mid-sym S below pr mid-inj cen-inj mid-cen

  pub finer-length : length (finer n S) ≡ 4 * length S
  unfolding finer
  finer-length = split-length (mid_of n S) (cen_of n S) 0 S

  pub finer-clash : (labels : List ℕ) → length labels ≡ length S → NoClash S labels → NoClash (finer n S) (four_labels labels)
  unfolding finer
  finer-clash = split-clash (mid_of n S) (cen_of n S) n mid-high cen-high mid-sym S below pr mid-inj cen-inj mid-cen (length (asked n S)) mid-low cen-low covers

  -- where the quads at each point are a ring
  module _ (rs : Rings S) where
    pub finer-rings : Rings (finer n S)
    unfolding finer
    finer-rings = split-rings (mid_of n S) (cen_of n S) n mid-high cen-high mid-sym S below pr mid-inj cen-inj mid-cen (length (asked n S)) mid-low cen-low covers rs

    pub finer-squared : squared (finer_count n S) (finer n S) ≡ squared n S
    unfolding finer finer_count
    finer-squared = split-squared (mid_of n S) (cen_of n S) n mid-high cen-high mid-sym S below pr mid-inj cen-inj mid-cen (length (asked n S)) mid-low cen-low covers rs

    pub finer-more : finer_count n S ≡ n + 3 * length S
    unfolding finer finer_count
    finer-more = ap (λ k. n + k) (split-points (mid_of n S) (cen_of n S) n mid-high cen-high mid-sym S below pr mid-inj cen-inj mid-cen (length (asked n S)) mid-low cen-low covers rs)

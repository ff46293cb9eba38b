-- What 12, 5, 6 and 7 test, said of points, quads and labels. Assumes nothing.
use mathlib.Core.Path.{◌≡◌, refl, ap, sym, ◌∙◌, subst}
use mathlib.Core.Logic.{◌⊎◌, inl, inr, ◌≢◌}
use mathlib.Core.Bool.{Bool, true, false, cond, not, ◌&&◌, ◌||◌, true≢false}
use Prim.Native.Nat.{ℕ, zero, suc, ◌+◌, ◌*◌, ◌/◌, ◌%◌, ◌^◌, ◌≤◌, ◌<◌}
use mathlib.Core.List.{List, [], ◌∷◌}
use native.Mathlib.Omega.{arith}
use native.Mathlib.Decide.{dec_lt}
use lib.Dec.{eqb, leb, ltb}
use lib.ListN.{length}
use borrow.Author.Tests.{eq-eqb, ne_eqb, ltb-true, lt-ltb, le-ltb, le-leb}
use Rattle.lists.proofs.Every.{and_left, and_right, every-at, every-each}
use Rattle.points.specs.Points.{finite_p}
use Rattle.rule_sheet.specs.Quads.{Quad, quad, num, all, at, uses, valence, touches, pack_to, pack, has_label, mask_of}
use Rattle.rule_sheet.specs.Tests.{in_range, distinct, proper, low_label, good_corners, good_mask, good_point, good_masks}
use Rattle.rule_sheet.specs.Sheet.{Sheet}
use Rattle.rule_sheet.specs.Lent.{limit, is_large}
use Rattle.sheet.proofs.Masks.{below8, bit-pack, clash-0, clash-1, clash-2, clash-3}
use Rattle.sheet.proofs.Tests.{few-of, lows-of, proper-of, whole_of, bare-finite}
use Rattle.rule_sheet.specs.Sheet.{counts_of}
use Rattle.rule_sheet.specs.Claims.{Below, Differ, All, NoClash, Low}
use Rattle.rule_sheet.proofs.Weigh.{at_same, at-diff}
use Rattle.rule_sheet.proofs.Rings.{zero_or}
use Rattle.rule_passes.proofs.Choices.{not-false}
use Rattle.rule_regularize.proofs.Tests.{low_of, apart, all-differ}
use Rattle.rule_coarsen.proofs.Visits.{high-none}
use Rattle.rule_sheet.specs.Sound.{AcceptedSheet}
use Rattle.safety_rules.proofs.Finer.{label-sum-sum}

-- an accepted sheet
pub record Fine (s : Sheet) : Type 0 where
  pub few_points : length s.points ≤ limit
  pub few_quads : length s.quads ≤ limit
  pub some_quads : 0 < length s.quads
  pub labelled : length s.labels ≡ length s.quads
  pub all_finite : all finite_p s.points ≡ true
  pub labels_low : Low s.labels
  pub in_range : Below (length s.points) s.quads
  pub differ : All Differ s.quads
  pub in_use : (v : ℕ) → v < length s.points → 0 < valence s.quads v
  pub no_clash : NoClash s.quads s.labels

-- ---- Booleans

both : (a b : Bool) → a ≡ true → b ≡ true → (a && b) ≡ true
both a b p q = rw (p, q) refl

not_is : (b : Bool) → b ≡ false → not b ≡ true
not_is b e = rw e refl

none_of : (a b : Bool) → a ≡ false → b ≡ false → (a || b) ≡ false
none_of a b p q = rw (p, q) refl

-- ---- labels: 6

of_low : (labels : List ℕ) → Low labels → all low_label labels ≡ true
unfolding Low
of_low [] h = refl
of_low (l ∷ labels) (p, h) = both (leb l 7) (all low_label labels) (le-leb l 7 p) (of_low labels h)

-- ---- corners: 6

four : (a b c d : Bool) → (a && b && c && d) ≡ true → (a ≡ true) × (b ≡ true) × (c ≡ true) × (d ≡ true)
four a b c d e =
    let x = and_left (a && b && c) d e in
    let y = and_left (a && b) c x in
    (and_left a b y, and_right a b y, and_right (a && b) c x, and_right (a && b && c) d e)

pub in-range-of : (n : ℕ) (S : List Quad) → all (proper n) S ≡ true → Below n S
unfolding Below in_range
in-range-of n S e v h = go (dec_lt v n)
  where
    off : (p m k : ℕ) → m < n → n ≤ v → at v (λ p n. 1) p m k ≡ 0
    off p m k l g = at-diff v (λ p n. 1) p m k (λ i. omega arith)

    none : (S : List Quad) → all (proper n) S ≡ true → n ≤ v → valence S v ≡ 0
    none [] e l = refl
    none (quad a b c d ∷ S) e l =
        let r = and_left (in_range n (quad a b c d)) (distinct (quad a b c d)) (and_left (proper n (quad a b c d)) (all (proper n) S) e) in
        let t = four (ltb a n) (ltb b n) (ltb c n) (ltb d n) r in
        omega (
          arith,
          off d a b (ltb-true a n t.0) l,
          off a b c (ltb-true b n t.1) l,
          off b c d (ltb-true c n t.2) l,
          off c d a (ltb-true d n t.3) l,
          none S (and_right (proper n (quad a b c d)) (all (proper n) S) e) l,
        )

    go : Dec (v < n) → v < n
    go (yes l) = l
    go (no l) = absurd (omega (arith, h, none S e (omega arith)))

not_equal : (x y : ℕ) → x ≢ y → not (eqb x y) ≡ true
not_equal x y n = not_is (eqb x y) (ne_eqb x y n)

proper-all : (n : ℕ) (S : List Quad) → Below n S → All Differ S → all (proper n) S ≡ true
unfolding Below All in_range distinct
proper-all n [] b d = refl
proper-all n (quad w x y z ∷ S) b ((wx, wy, wz, xy, xz, yz), d) = both (proper n (quad w x y z)) (all (proper n) S)
    (both (in_range n (quad w x y z)) (distinct (quad w x y z)) (both _ _ (both _ _ (both _ _ (low w (omega (arith, at_same w (λ p n. 1) z x))) (low x (omega (arith, at_same x (λ p n. 1) w y))))
    (low y (omega (arith, at_same y (λ p n. 1) x z)))) (low z (omega (arith, at_same z (λ p n. 1) y w))))
    (both _ _ (both _ _ (both _ _ (both _ _ (both _ _ (not_equal w x wx) (not_equal w y wy)) (not_equal w z wz)) (not_equal x y xy)) (not_equal x z xz)) (not_equal y z yz)))
    (proper-all n S (λ v h. b v (omega arith)) d)
  where
    low : (v : ℕ) → 0 < valence (quad w x y z ∷ S) v → ltb v n ≡ true
    low v h = lt-ltb v n (b v h)

-- ---- masks: 7

-- a good mask, by the labels that a point touches
pub record GoodBits (t : ℕ → Bool) : Type 0 where
  pub some : pack t ≢ 0
  pub pair_0 : (t 0 && t 1) ≡ false
  pub pair_1 : (t 2 && t 3) ≡ false
  pub pair_2 : (t 4 && t 5) ≡ false
  pub pair_3 : (t 6 && t 7) ≡ false

good-bits : (t : ℕ → Bool) → good_mask (pack t) ≡ true → GoodBits t
unfolding good_mask
good-bits t e =
    let m = pack t in
    let x3 = and_left (not (eqb m 0) && not (eqb (m % 4) 3) && not (eqb (m / 4 % 4) 3) && not (eqb (m / 16 % 4) 3)) (not (eqb (m / 64 % 4) 3)) e in
    let x4 = and_right (not (eqb m 0) && not (eqb (m % 4) 3) && not (eqb (m / 4 % 4) 3) && not (eqb (m / 16 % 4) 3)) (not (eqb (m / 64 % 4) 3)) e in
    let q = four (not (eqb m 0)) (not (eqb (m % 4) 3)) (not (eqb (m / 4 % 4) 3)) (not (eqb (m / 16 % 4) 3)) x3 in
    record {
      some = apart m 0 q.0;
      pair_0 = sym (clash-0 t) ∙ not-false (eqb (m % 4) 3) q.1;
      pair_1 = sym (clash-1 t) ∙ not-false (eqb (m / 4 % 4) 3) q.2;
      pair_2 = sym (clash-2 t) ∙ not-false (eqb (m / 16 % 4) 3) q.3;
      pair_3 = sym (clash-3 t) ∙ not-false (eqb (m / 64 % 4) 3) x4;
    }

bits-good : (t : ℕ → Bool) → GoodBits t → good_mask (pack t) ≡ true
unfolding good_mask
bits-good t g = both _ _ (both _ _ (both _ _ (both _ _ (not_equal (pack t) 0 g.some) (not_is _ (clash-0 t ∙ g.pair_0))) (not_is _ (clash-1 t ∙ g.pair_1)))
    (not_is _ (clash-2 t ∙ g.pair_2))) (not_is _ (clash-3 t ∙ g.pair_3))

-- where nothing is touched the mask is 0
no_bits : (t : ℕ → Bool) (n : ℕ) → ((l : ℕ) → l < n → t l ≡ false) → pack_to t n ≡ 0
unfolding pack_to
no_bits t zero h = refl
no_bits t (suc n) h = rw (no_bits t n (λ l k. h l (omega arith)), h n (omega arith)) (omega arith)

-- where something is touched it is not
some-bit : (t : ℕ → Bool) (l : ℕ) → l ≤ 7 → t l ≡ true → pack t ≢ 0
some-bit t l h e z = let p : 0 / 2 ^ l % 2 ≡ 1 = ap (λ m. m / 2 ^ l % 2) (sym z) ∙ (bit-pack t l h ∙ ap num e) in omega (arith, p, zero_bit l h)
  where
    zero_bit : (l : ℕ) → l ≤ 7 → 0 / 2 ^ l % 2 ≡ 0
    zero_bit = below8 (λ l. 0 / 2 ^ l % 2 ≡ 0) refl refl refl refl refl refl refl refl

module _ (S : List Quad) (labels : List ℕ) (v : ℕ) where
  -- a point that is not in use touches nothing
  touches_none : (l : ℕ) → valence S v ≡ 0 → touches S labels v l ≡ 0
  touches_none l e = omega (arith, label-sum-sum (uses v) l S labels)

  in-use-of : good_point S labels v ≡ true → 0 < valence S v
  unfolding mask_of
  in-use-of e = go (zero_or (valence S v))
    where
      go : (valence S v ≡ 0) ⊎ (0 < valence S v) → 0 < valence S v
      go (inl z) = absurd ((good-bits (has_label S labels v) e).some (no_bits (has_label S labels v) 8 (λ l k. le-ltb 0 (touches S labels v l) (omega (arith, touches_none l z)))))
      go (inr h) = h

-- a point in use touches the label of one of its quads
touched : (v : ℕ) (S : List Quad) (labels : List ℕ) → length labels ≡ length S → Low labels → 0 < valence S v → (l : ℕ) × (l ≤ 7) × (0 < touches S labels v l)
unfolding Low
touched v [] labels e h k = absurd (omega arith)
touched v (q ∷ S) [] e h k = absurd (omega arith)
touched v (q ∷ S) (l ∷ labels) e (p, h) k = go (zero_or (uses v q)) (touched v S labels (omega arith) h)
  where
    here : 0 < uses v q → 0 < touches (q ∷ S) (l ∷ labels) v l
    here g = omega (arith, ap (λ x. cond x (uses v q) 0) (eq-eqb l l refl))

    go : (uses v q ≡ 0) ⊎ (0 < uses v q) → (0 < valence S v → (l : ℕ) × (l ≤ 7) × (0 < touches S labels v l)) → (m : ℕ) × (m ≤ 7) × (0 < touches (q ∷ S) (l ∷ labels) v m)
    go (inr g) ih = (l, p, here g)
    go (inl z) ih = let t = ih (omega (arith, k)) in (t.0, t.1, omega (arith, t.2))

clear : (x y : ℕ) → (ltb 0 x && ltb 0 y) ≡ false → 0 < x → y ≡ 0
clear x y e h = go (zero_or y)
  where
    go : (y ≡ 0) ⊎ (0 < y) → y ≡ 0
    go (inl z) = z
    go (inr k) = absurd (true≢false (sym (both (ltb 0 x) (ltb 0 y) (lt-ltb 0 x h) (lt-ltb 0 y k)) ∙ e))

no-pair : (x y : ℕ) → (0 < x → y ≡ 0) → (ltb 0 x && ltb 0 y) ≡ false
no-pair x y f = go (zero_or x)
  where
    go : (x ≡ 0) ⊎ (0 < x) → (ltb 0 x && ltb 0 y) ≡ false
    go (inl z) = rw (le-ltb 0 x (omega arith)) refl
    go (inr h) = rw (lt-ltb 0 x h, f h) refl

no-clash-of : (n : ℕ) (S : List Quad) (labels : List ℕ) → Low labels → Below n S → good_masks n S labels ≡ true → NoClash S labels
unfolding NoClash Below good_masks mask_of
no-clash-of n S labels low b e v j h = go (dec_lt v n)
  where
    pairs : GoodBits (has_label S labels v) → (j : ℕ) → 0 < touches S labels v (2 * j) → touches S labels v (2 * j + 1) ≡ 0
    pairs g zero h = clear _ _ g.pair_0 h
    pairs g (suc zero) h = clear _ _ g.pair_1 h
    pairs g (suc (suc zero)) h = clear _ _ g.pair_2 h
    pairs g (suc (suc (suc zero))) h = clear _ _ g.pair_3 h
    pairs g (suc (suc (suc (suc j)))) h = high-none v (2 * suc (suc (suc (suc j))) + 1) S labels low (omega arith)

    go : Dec (v < n) → touches S labels v (2 * j + 1) ≡ 0
    go (yes l) = pairs (good-bits (has_label S labels v) (every-at (good_point S labels) n v e l)) j h
    go (no l) = absurd (omega (arith, h, label-sum-sum (uses v) (2 * j) S labels, unused (zero_or (valence S v))))
      where
        unused : (valence S v ≡ 0) ⊎ (0 < valence S v) → valence S v ≡ 0
        unused (inl z) = z
        unused (inr k) = absurd (l (b v k))

masks-good : (n : ℕ) (S : List Quad) (labels : List ℕ) → length labels ≡ length S → Low labels → ((v : ℕ) → v < n → 0 < valence S v) → NoClash S labels → good_masks n S labels ≡ true
unfolding NoClash good_masks mask_of
masks-good n S labels e low used nc = every-each (good_point S labels) n (λ v l. bits-good (has_label S labels v) (bits v (touched v S labels e low (used v l))))
  where
    bits : (v : ℕ) → (l : ℕ) × (l ≤ 7) × (0 < touches S labels v l) → GoodBits (has_label S labels v)
    bits v (l, p, h) = record {
      some = some-bit (has_label S labels v) l p (lt-ltb 0 (touches S labels v l) h);
      pair_0 = no-pair _ _ (nc v 0);
      pair_1 = no-pair _ _ (nc v 1);
      pair_2 = no-pair _ _ (nc v 2);
      pair_3 = no-pair _ _ (nc v 3);
    }

-- ---- quads and labels: 6 and 7

-- what 6 and 7 ask of quads and as many labels over n points
pub record Passing (n : ℕ) (S : List Quad) (labels : List ℕ) : Type 0 where
  pub labelled : length labels ≡ length S
  pub labels_low : Low labels
  pub in_range : Below n S
  pub differ : All Differ S
  pub in_use : (v : ℕ) → v < n → 0 < valence S v
  pub no_clash : NoClash S labels

module _ (n : ℕ) (S : List Quad) (labels : List ℕ) where
  pub passing-of : length labels ≡ length S → good_corners n S labels ≡ true → good_masks n S labels ≡ true → Passing n S labels
  unfolding good_masks
  passing-of e c m =
      let low = low_of labels (lows-of n S labels c) in
      let corners = proper-of n S labels c in
      let below = in-range-of n S corners in
      record {
        labelled = e;
        labels_low = low;
        in_range = below;
        differ = all-differ n S corners;
        in_use = λ v l. in-use-of S labels v (every-at (good_point S labels) n v m l);
        no_clash = no-clash-of n S labels low below m;
      }

  pub passing-good : Passing n S labels → (good_corners n S labels ≡ true) × (good_masks n S labels ≡ true)
  unfolding good_corners
  passing-good p = (
    both _ _ (of_low labels p.labels_low) (proper-all n S p.in_range p.differ),
    masks-good n S labels p.labelled p.labels_low p.in_use p.no_clash,
  )

-- ---- the sheet

pub fine_of : (s : Sheet) → AcceptedSheet s → Fine s
fine_of s a =
    let few = few-of (counts_of s) a.not_large in
    let whole = whole_of s a.not_bare in
    let p = passing-of (length s.points) s.quads s.labels whole.labelled a.corners a.masks in
    record {
      few_points = few.points≤;
      few_quads = few.quads≤;
      some_quads = whole.some_quads;
      labelled = whole.labelled;
      all_finite = whole.finite;
      labels_low = p.labels_low;
      in_range = p.in_range;
      differ = p.differ;
      in_use = p.in_use;
      no_clash = p.no_clash;
    }

-- its quads and labels
pub passing : (s : Sheet) → Fine s → Passing (length s.points) s.quads s.labels
passing s f = record { labelled = f.labelled; labels_low = f.labels_low; in_range = f.in_range; differ = f.differ; in_use = f.in_use; no_clash = f.no_clash }

pub accepted-of : (s : Sheet) → Fine s → AcceptedSheet s
unfolding is_large Below
accepted-of s f =
    let p = passing-good (length s.points) s.quads s.labels (passing s f) in
    record {
      not_large = none_of _ _ (none_of _ _ (le-ltb limit (length s.points) f.few_points) (le-ltb limit (length s.quads) f.few_quads))
          (le-ltb limit (length s.labels) (subst (λ k. k ≤ limit) (sym f.labelled) f.few_quads));
      not_bare = bare-finite s (some-point s.quads f.some_quads f.in_range) f.some_quads f.labelled ∙ ap not f.all_finite;
      corners = p.0;
      masks = p.1;
    }
  where
    some-point : {n : ℕ} (S : List Quad) → 0 < length S → Below n S → 0 < n
    some-point [] h b = absurd (omega arith)
    some-point (quad w x y z ∷ S) h b = let l = b w (omega (arith, at_same w (λ p n. 1) z x)) in omega arith

-- The sheet that reaches the bound, for any number of quads. Assumes nothing.
use Prim.Native.Nat.{ℕ, zero, suc, ◌+◌, ◌*◌, ◌≤◌, ◌<◌}
use mathlib.Core.Path.{◌≡◌, refl, sym, ap, ◌∙◌}
use mathlib.Core.Logic.{◌≢◌}
use mathlib.Core.Bool.{Bool, true, false, cond, not, ◌&&◌, true≢false, false≢true}
use mathlib.Core.Option.{some}
use mathlib.Core.List.{List, [], ◌∷◌}
use native.Mathlib.Omega.{arith}
use native.Mathlib.Nat.{suc-mul, zero-mul}
use lib.IntN.{pos}
use lib.Signed.{le_z, lt_z}
use lib.ListN.{length, take, replicate, length-replicate}
use lib.Seq.{take-length}
use lib.Ieee.{of_bits, to_bits, add, sub, mul, div, neg, lt, le, eq, ne, of_int}
use borrow.Author.Tests.{ne_eqb, lt-ltb, le-ltb, le-leb}
use Rattle.numeric.specs.Num.{float, min_of, max_of}
use Rattle.numeric.specs.Root.{sqrt_of}
use Rattle.points.specs.Points.{add_p, sub_p, mul_p, times_p, dot_p, cross_p, norm_p, finite_p}
use Rattle.band.specs.Bands.{length_of, face_normal_of, side_of, normal_with, axis_valid_of, box_valid_of, levels_valid_of, valid_of}
use Rattle.shape.specs.Shapes.{corner_of, shape_of}
use Rattle.rule_sheet.specs.Quads.{Quad, quad, is, sum, all, corners, at, uses, valence, side, is_edge, label_sum}
use Rattle.rule_sheet.specs.Edges.{pair, join_to, edges_of}
use Rattle.rule_sheet.specs.Tests.{in_range, distinct, proper}
use Rattle.rule_sheet.specs.Claims.{Low, NoClash}
use Rattle.rule_sheet.specs.Flat.{flat_quads}
use Rattle.rule_sheet.specs.Sheet.{Sheet, flat_points, counts_of}
use Rattle.rule_sheet.specs.Lent.{held, limit, room_in, is_large, is_short, is_short_work, lent_verdict}
use Rattle.rule_sheet.specs.Sound.{AcceptedSheet}
use Rattle.sheet.specs.Results.{Front}
use Rattle.sheet.proofs.Fronts.{points-front, quads-front}
use Rattle.sheet.proofs.Results.{length-flat-points, length-flat-quads}
use Rattle.rule_admission.specs.Admission.{admits, domain_verdict, setting_verdict}
use Rattle.admission.proofs.Admitted.{sheet-decides}
use Rattle.rule_passes.specs.Shapes.{quad_shape, no_worse}
use Rattle.rule_passes.specs.Choices.{choose, take_or}
use Rattle.rule_regularize.specs.Swaps.{Fits, Place, places, hex, State, fresh, gain_in, may, meets, bar_list, try_places, try_edge, sweep}
use Rattle.rule_regularize.specs.SwapFits.{lesser_shape, held_of, hex_centre, next_shape, shape_fits, next_fits, fits_with, swap_fits}
use Rattle.rule_regularize.proofs.Gains.{half_of, gain-least, gain-more, gain-higher}
use Rattle.rule_regularize.proofs.Tests.{all-differ}
use Rattle.safety_rules.proofs.Fine.{Fine, in-range-of, accepted-of}
use Rattle.safety.proofs.Tested.{passes}
use Rattle.cases.specs.Cases.{unit_box, lent_sheet, work_for, hexagon}
use Rattle.valence_bound.specs.Valences.{state_in, crowded, Reaches, BoundReached}
use Rattle.rule_sheet.specs.Verdicts.{Accepted}

-- ---- lists of one thing

sum_same : {A : Type 0} (f : A → ℕ) (k : ℕ) (x : A) → sum f (replicate k x) ≡ k * f x
sum_same f zero x = sym (zero-mul (f x))
sum_same f (suc k) x = omega (arith, sum_same f k x, suc-mul k (f x))

all_same : {A : Type 0} (p : A → Bool) (k : ℕ) (x : A) → p x ≡ true → all p (replicate k x) ≡ true
all_same p zero x e = refl
all_same p (suc k) x e = rw e (all_same p k x e)

low_same : (n : ℕ) → Low (replicate n 7)
unfolding Low
low_same zero = tt
low_same (suc n) = (omega arith, low_same n)

no_label : (f : Quad → ℕ) (l a : ℕ) (S : List Quad) (n : ℕ) → a ≢ l → label_sum f l S (replicate n a) ≡ 0
no_label f l a [] n h = refl
no_label f l a (q ∷ S) zero h = refl
no_label f l a (q ∷ S) (suc n) h = omega (arith, ap (λ (b : Bool). cond b (f q) 0) (ne_eqb a l h), no_label f l a S n h)

-- ---- a sheet in slices that just hold it

front_self : {A : Type 0} (l : List A) → Front l l
front_self l = record { fits = omega arith; is = take-length l }

held-lent : (t : Sheet) → held (lent_sheet t) ≡ t
held-lent t = rw (
  points-front t.points (flat_points t.points) (length t.points) (front_self (flat_points t.points)) refl,
  quads-front t.quads (flat_quads t.quads) (length t.quads) (front_self (flat_quads t.quads)) refl,
  take-length t.labels,
)

lent-just : (t : Sheet) → is_large (counts_of t) ≡ false → lent_verdict (counts_of t) (room_in (lent_sheet t)) (work_for t) ≡ Accepted
unfolding lent_verdict is_short is_short_work
lent-just t e = rw (
  e,
  le-ltb (length (flat_points t.points)) (3 * length t.points) (omega (arith, length-flat-points t.points)),
  le-ltb (length (flat_quads t.quads)) (4 * length t.quads) (omega (arith, length-flat-quads t.quads)),
  le-ltb (length t.labels) (length t.labels) (omega arith),
  le-ltb (64 * (length t.points + length t.quads)) (64 * (length t.points + length t.quads)) (omega arith),
  le-ltb (16 * (length t.points + length t.quads)) (16 * (length t.points + length t.quads)) (omega arith),
)

box-passes : setting_verdict unit_box ≡ Accepted
unfolding domain_verdict valid_of box_valid_of levels_valid_of axis_valid_of length_of norm_p dot_p sub_p sqrt_of of_bits to_bits add sub mul div neg lt le eq ne of_int float min_of max_of
box-passes = refl

admitted-just : (t : Sheet) → AcceptedSheet t → admits unit_box (lent_sheet t) (work_for t) ≡ Accepted
admitted-just t a = sym (sheet-decides (setting_verdict unit_box) (lent_sheet t) (work_for t) (lent-just t a.not_large) box-passes (sym (rw (held-lent t) (passes t a))))

-- ---- the choice at an edge

first_edge : (S : List Quad) → is_edge S 0 0 ≡ false → is_edge S 0 1 ≡ true → take 1 (edges_of 6 S) ≡ pair 0 1 ∷ []
unfolding edges_of join_to
first_edge S a b = rw (a, b)

choose-first : {A : Type 0} (a b c : Bool) (x y : A) → a ≡ true → c ≡ false → choose a b c x y ≡ some x
choose-first true true true x y e f = absurd (true≢false f)
choose-first true true false x y e f = refl
choose-first true false c x y e f = refl
choose-first false b c x y e f = absurd (false≢true e)

not-and : (a b c : Bool) → a ≡ false → b ≡ true → c ≡ true → (not a && b && c) ≡ true
not-and a b c e f g = rw (e, f, g) refl

places_same : (k i : ℕ) → places (pair 0 1) i (replicate k (quad 0 2 1 4)) ≡ []
places_same zero i = refl
places_same (suc k) i = places_same k (suc i)

-- ---- the crowded sheet

module _ (k : ℕ) where
  abbrev S : List Quad
  S = quad 0 1 3 5 ∷ quad 1 0 2 4 ∷ replicate k (quad 0 2 1 4)

  abbrev L : List ℕ
  L = replicate (length S) 7

  valence-is : (v : ℕ) → valence S v ≡ uses v (quad 0 1 3 5) + (uses v (quad 1 0 2 4) + k * uses v (quad 0 2 1 4))
  valence-is v = ap (λ (x : ℕ). uses v (quad 0 1 3 5) + (uses v (quad 1 0 2 4) + x)) (sum_same (uses v) k (quad 0 2 1 4))

  -- the quads of one kind that go along from u to v
  sides-same : (u v : ℕ) → side (replicate k (quad 0 2 1 4)) u v ≡ k * corners (at u (λ p n. is v n)) (quad 0 2 1 4)
  sides-same u v = sum_same (corners (at u (λ p n. is v n))) k (quad 0 2 1 4)

  -- ---- it is accepted

  all-proper : all (proper 6) S ≡ true
  unfolding in_range distinct
  all-proper = all_same (proper 6) k (quad 0 2 1 4) refl

  in_use : (v : ℕ) → v < 6 → 0 < valence S v
  in_use zero h = omega (arith, valence-is 0)
  in_use (suc zero) h = omega (arith, valence-is 1)
  in_use (suc (suc zero)) h = omega (arith, valence-is 2)
  in_use (suc (suc (suc zero))) h = omega (arith, valence-is 3)
  in_use (suc (suc (suc (suc zero)))) h = omega (arith, valence-is 4)
  in_use (suc (suc (suc (suc (suc zero))))) h = omega (arith, valence-is 5)
  in_use (suc (suc (suc (suc (suc (suc v)))))) h = absurd (omega arith)

  crowded-fine : k + 2 ≤ limit → Fine (crowded k)
  unfolding crowded NoClash finite_p of_bits
  crowded-fine h = record {
    few_points = omega arith;
    few_quads = omega (arith, length-replicate k (quad 0 2 1 4));
    some_quads = omega arith;
    labelled = length-replicate (length S) 7;
    all_finite = refl;
    labels_low = low_same (length S);
    in_range = in-range-of 6 S all-proper;
    differ = all-differ 6 S all-proper;
    in_use = in_use;
    no_clash = λ v j t. absurd (omega (arith, t, no_label (uses v) (2 * j) 7 S (length S) (λ e. omega arith)));
  }

  -- ---- its first edge is swapped

  no_loop : is_edge S 0 0 ≡ false
  no_loop = le-ltb 0 (side S 0 0 + side S 0 0) (omega (arith, sides-same 0 0))

  an-edge : is_edge S 0 1 ≡ true
  an-edge = lt-ltb 0 (side S 0 1 + side S 1 0) (omega (arith, sides-same 0 1, sides-same 1 0))

  no-diagonal : is_edge S 2 3 ≡ false
  no-diagonal = le-ltb 0 (side S 2 3 + side S 3 2) (omega (arith, sides-same 2 3, sides-same 3 2))

  abbrev fits : Fits
  fits = swap_fits unit_box hexagon L

  abbrev one : State
  one = record { quads = quad 2 4 1 3 ∷ quad 2 3 5 0 ∷ replicate k (quad 0 2 1 4); barred = bar_list S (replicate (length S) false) (λ q. meets q 0 2 4 1 3 5); count = 1 }

  abbrev two : State
  two = record { quads = quad 4 1 3 5 ∷ quad 4 5 0 2 ∷ replicate k (quad 0 2 1 4); barred = bar_list S (replicate (length S) false) (λ q. meets q 0 2 4 1 3 5); count = 1 }

  fits_one : fits S 0 1 (hex 0 2 4 1 3 5) 1 true ≡ true
  unfolding swap_fits fits_with held_of hex_centre lesser_shape next_shape next_fits shape_fits quad_shape no_worse normal_with face_normal_of side_of length_of
      shape_of corner_of add_p sub_p mul_p times_p dot_p cross_p norm_p sqrt_of of_bits to_bits add sub mul div neg lt le eq ne of_int float min_of max_of
  fits_one = refl

  module _ (h : 0 < k) where
    gains : lt_z (pos 0) (gain_in S 0 1 2 3) ≡ true
    gains = gain-more (valence S 0) (valence S 1) (valence S 2) (valence S 3)
        ∙ lt-ltb (valence S 2 + valence S 3 + 2) (valence S 0 + valence S 1) (omega (arith, valence-is 0, valence-is 1, valence-is 2, valence-is 3))

    enough : le_z (pos 1) (gain_in S 0 1 2 3) ≡ true
    enough = gain-least (valence S 0) (valence S 1) (valence S 2) (valence S 3) 1
        ∙ le-leb (valence S 2 + valence S 3 + 2 + half_of 1) (valence S 0 + valence S 1) (omega (arith, valence-is 0, valence-is 1, valence-is 2, valence-is 3))

    -- the other diagonal gains no more
    no-better : lt_z (gain_in S 0 1 2 3) (gain_in S 0 1 4 5) ≡ false
    no-better =
        gain-higher (valence S 0) (valence S 1) (valence S 2) (valence S 3) (valence S 4) (valence S 5)
        ∙ le-ltb (valence S 4 + valence S 5) (valence S 2 + valence S 3) (omega (arith, valence-is 2, valence-is 3, valence-is 4, valence-is 5))

    may-one : may S L 1 fits S 0 1 (hex 0 2 4 1 3 5) 1 0 1 2 3 ≡ true
    may-one = not-and (is_edge S 2 3) (le_z (pos 1) (gain_in S 0 1 2 3)) (fits S 0 1 (hex 0 2 4 1 3 5) 1 (lt_z (pos 0) (gain_in S 0 1 2 3))) no-diagonal enough
        (ap (fits S 0 1 (hex 0 2 4 1 3 5) 1) gains ∙ fits_one)

    tried : try_edge S L 1 fits (fresh S) (pair 0 1) ≡ some one
    tried =
        ap (λ (l : List Place). try_places S L 1 fits (fresh S) (record { quad_no = 0; side_no = 0 } ∷ record { quad_no = 1; side_no = 0 } ∷ l)) (places_same k 2)
        ∙ choose-first (may S L 1 fits S 0 1 (hex 0 2 4 1 3 5) 1 0 1 2 3) (may S L 1 fits S 0 1 (hex 0 2 4 1 3 5) 2 0 1 4 5) (lt_z (gain_in S 0 1 2 3) (gain_in S 0 1 4 5)) one two may-one no-better

    first-state : sweep S L 1 fits (fresh S) (take 1 (edges_of 6 S)) ≡ one
    first-state = ap (sweep S L 1 fits (fresh S)) (first_edge S no_loop an-edge) ∙ ap (take_or (fresh S)) tried

    last-valence : valence one.quads 2 ≡ k + 2
    last-valence = omega (arith, sum_same (uses 2) k (quad 0 2 1 4))

    valence-after : valence (state_in 1 unit_box (crowded k) 0 1).quads 2 ≡ k + 2
    unfolding crowded
    valence-after = ap (λ (s : State). valence s.quads 2) first-state ∙ last-valence

  valence-before : valence (state_in 1 unit_box (crowded k) 0 0).quads 2 + 1 ≡ k + 2
  unfolding crowded
  valence-before = omega (arith, valence-is 2)

-- ---- the theorem

reaches : (k : ℕ) → 0 < k → k + 2 ≤ limit → Reaches (crowded k) 2 (k + 2)
reaches k h l = record {
  accepted = admitted-just (crowded k) (accepted-of (crowded k) (crowded-fine k l));
  before = ap (λ (t : Sheet). valence (state_in 1 unit_box t 0 0).quads 2 + 1) (held-lent (crowded k)) ∙ valence-before k;
  after = ap (λ (t : Sheet). valence (state_in 1 unit_box t 0 1).quads 2) (held-lent (crowded k)) ∙ valence-after k h;
}

pub bound-reached : BoundReached
unfolding BoundReached
bound-reached = reaches 1048574 (omega arith) (omega arith)

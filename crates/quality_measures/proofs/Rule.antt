-- What the regions say of the rule. Assumes nothing.
use Prim.Native.Nat.{ℕ, ◌+◌, ◌-◌, ◌*◌, ◌^◌, ◌≤◌, ◌<◌}
use mathlib.Core.Path.{◌≡◌, refl, sym, ap, ◌∙◌}
use mathlib.Core.Bool.{Bool, true, false}
use mathlib.Core.List.{List, zip_with}
use native.Mathlib.Omega.{arith}
use lib.ListN.{length, get_or}
use lib.Ieee.{Float, nan}
use borrow.Rule.Slice.PartMut.{mid_of}
use Rattle.lists.specs.Regions.{part, Part, Out, Out3, Kept, Three}
use Rattle.lists.proofs.Regions.{lent_is, part_of, part-len, part-get, part-kept, part-as, kept_refl, kept_then, kept_less, region-end, region-other, RegionFilled}
use Rattle.rule_quality.specs.Floats.{sort_floats}
use Rattle.quality_sorting.specs.Floats.{Moving}
use Rattle.band.specs.declared.Band.{Band}
use Rattle.band.specs.Bands.{length_of}
use Rattle.rule_sheet.specs.declared.Counts.{Counts}
use Rattle.rule_sheet.specs.Quads.{all}
use Rattle.rule_sheet.specs.Sheet.{sheet_of}
use Rattle.rule_sheet.specs.Lent.{limit}
use Rattle.rule_quality.specs.declared.Measures.{Measures}
use Rattle.rule_quality.specs.Measure.{Cell, has_normal, cells_of, least_of, mean_of, invalid_of, p05_of, score_of, scores_of, summary_of, measures_of, measure_rule}
use Rattle.quality_readings.specs.Readings.{cells_to, Readings, Measurable}
use Rattle.quality_readings.proofs.Zips.{zip-tab}
use Rattle.quality_readings.proofs.Cells.{cells-flat}
use Rattle.std.specs.Prelude.{Ok, Err}
use Rattle.rule_sheet.specs.declared.Refusal.TheVariants.{Normal}

-- ---- the loop of the scores

-- the score at place q of the shapes and the areas
abbrev pub score_at : Float → ℕ → List Float → ℕ → Float
score_at m n F q = score_of m (get_or (part 0 n F) q nan) (get_or (part (2 * n) n F) q nan)

-- what a turn reads is what came
pub score-read : (m : Float) (n : ℕ) (F G : List Float) (q : ℕ) → 5 * n ≤ length F → RegionFilled (score_at m n F) (3 * n) n F G q → q < n
    → score_of m (get_or G q nan) (get_or G (2 * n + q) nan) ≡ score_at m n F q
score-read m n F G q h R l =
    let S = region-other R (part_of 0 n F (omega arith)) (λ i a b c d. omega arith) in
    let A = region-other R (part_of (2 * n) n F (omega arith)) (λ i a b c d. omega arith) in
    let z : 0 + q ≡ q = omega arith in
    let s : get_or G q nan ≡ get_or (part 0 n F) q nan = rw z at (part-get nan q S l) in
    rw (s, part-get nan q A l)

pub scores-end : (m : Float) (n : ℕ) (F G : List Float) (q : ℕ) → 5 * n ≤ length F → RegionFilled (score_at m n F) (3 * n) n F G q → n ≤ q
    → Part (3 * n) n (zip_with (score_of m) (part 0 n F) (part (2 * n) n F)) G × Kept (Out (3 * n) n) F G
scores-end m n F G q h R l =
    let E = region-end R l in
    let z = zip-tab (score_of m) nan nan (part 0 n F) (part (2 * n) n F) n (part-len (part_of 0 n F (omega arith))) (part-len (part_of (2 * n) n F (omega arith))) in
    (part-as E.0 (sym z), E.1)

-- ---- the sorted scores

-- what the sort of the scores asks
pub sort-ready : (n at : ℕ) (F G : List Float) (w : List ℕ) → n ≤ limit → at + (2 * n + 256) ≤ length w → 5 * n ≤ length F → Kept (Out (3 * n) n) F G
    → (n < 2 ^ 32) × (Moving (3 * n) (4 * n) n G × Three at n (at + n) n (at + 2 * n) 256 w)
sort-ready n at F G w h k l K =
    let e = K.len in (
      omega arith,
      (
        record { in_from = omega arith; in_to = omega arith; apart = λ i p q p' q'. omega arith },
        record {
          in_a = omega arith;
          in_b = omega arith;
          in_c = omega arith;
          ab = λ i p q p' q'. omega arith;
          ac = λ i p q p' q'. omega arith;
          bc = λ i p q p' q'. omega arith;
        },
      ),
    )

-- what is left by the scores, by the mean m of the areas, and by their sort
pub scores-sorted : (n at : ℕ) (F G H : List Float) (w w' : List ℕ) (m : Float) → m ≡ mean_of (mid_of (2 * n) (2 * n + n - 2 * n) F)
    → Part (3 * n) n (zip_with (score_of m) (part 0 n F) (part (2 * n) n F)) G × Kept (Out (3 * n) n) F G
    → Part (4 * n) n (sort_floats (part (3 * n) n G)) H × (Kept (Out (4 * n) n) G H × Kept (Out3 at n (at + n) n (at + 2 * n) 256) w w')
    → Part (4 * n) n (sort_floats (scores_of (part 0 n F) (part (2 * n) n F))) H × (Kept (Out (3 * n) (2 * n)) F H × Kept (Out at (2 * n + 256)) w w')
unfolding scores_of
scores-sorted n at F G H w w' m e A B =
    let a : m ≡ mean_of (part (2 * n) n F) = e ∙ ap mean_of (lent_is (2 * n) n F) in
    let s : part (3 * n) n G ≡ zip_with (score_of (mean_of (part (2 * n) n F))) (part 0 n F) (part (2 * n) n F) = A.0.is ∙ rw a in (
      part-as B.0 (ap sort_floats s),
      (
        kept_then A.1 B.1.0 (λ i o. (λ p q. o p (omega arith), λ p q. o (omega arith) (omega arith))),
        kept_less B.1.1 (λ i o. (λ p q. o p (omega arith), (λ p q. o (omega arith) (omega arith), λ p q. o (omega arith) (omega arith)))),
      ),
    )

-- ---- the measures

-- the measures of three regions
pub summary-is : (n k : ℕ) (F : List Float) (s p m j : Float) → s ≡ least_of (mid_of 0 (n - 0) F) → p ≡ p05_of (mid_of (4 * n) (4 * n + n - 4 * n) F)
    → m ≡ mean_of (mid_of (4 * n) (4 * n + n - 4 * n) F) → j ≡ least_of (mid_of n (n + n - n) F) → k ≡ invalid_of (mid_of n (n + n - n) F)
    → record {
      minimum_shape = s;
      shape_size_p05 = p;
      shape_size_mean = m;
      minimum_sampled_jacobian = j;
      invalid_cells = k;
    } ≡ summary_of (part 0 n F) (part n n F) (part (4 * n) n F)
unfolding summary_of
summary-is n k F s p m j es ep em ej ek =
    let z : n - 0 ≡ 0 + n - 0 = omega arith in
    let front : mid_of 0 (n - 0) F ≡ part 0 n F = ap (λ (i : ℕ). mid_of 0 i F) z ∙ lent_is 0 n F in
    rw (es ∙ ap least_of front, ep ∙ ap p05_of (lent_is (4 * n) n F), em ∙ ap mean_of (lent_is (4 * n) n F), ej ∙ ap least_of (lent_is n n F), ek ∙ ap invalid_of (lent_is n n F))

-- ---- the answers

module _ (b : Band) (c : Counts) (P : List Float) (Q labels : List ℕ) (M : Measurable c (length P) Q (length labels)) where
  -- the cells as the loop reads them, by the length of the band
  abbrev cells : Float → List Cell
  cells len = cells_to b.field len P Q labels c.quads

  -- what the loop says
  abbrev Read : Float → Bool → List Float → List Float → Type 0
  Read len g F G = (g ≡ all has_normal (cells len)) × ((g ≡ true → Readings c.quads (cells len) G) × Kept (Out 0 (3 * c.quads)) F G)

  same-cells : (len : Float) → len ≡ length_of b → cells_of b (sheet_of c P Q labels) ≡ cells len
  same-cells len e = cells-flat b c P Q labels M ∙ rw e

  -- a cell has no normal
  pub refused : (len : Float) (g : Bool) (at : ℕ) (F G : List Float) (w : List ℕ) → len ≡ length_of b → g ≡ false → Read len g F G
      → (Err Normal ≡ measure_rule b (sheet_of c P Q labels)) × (Kept (Out at (2 * c.quads + 256)) w w × Kept (Out 0 (5 * c.quads)) F G)
  unfolding measure_rule
  refused len g at F G w el t R =
      let e : all has_normal (cells len) ≡ false = sym R.0 ∙ t in
      (rw (same-cells len el, e) refl, (kept_refl _ w, kept_less R.1.1 (λ i o p q. o p (omega arith))))

  -- all cells are measured, and their scores are sorted
  pub measured : (len : Float) (g : Bool) (at : ℕ) (F G H : List Float) (w w' : List ℕ) (r : Measures) → len ≡ length_of b → g ≡ true → Read len g F G
      → Part (4 * c.quads) c.quads (sort_floats (scores_of (part 0 c.quads G) (part (2 * c.quads) c.quads G))) H
      × (Kept (Out (3 * c.quads) (2 * c.quads)) G H × Kept (Out at (2 * c.quads + 256)) w w')
      → r ≡ summary_of (part 0 c.quads H) (part c.quads c.quads H) (part (4 * c.quads) c.quads H)
      → (Ok r ≡ measure_rule b (sheet_of c P Q labels)) × (Kept (Out at (2 * c.quads + 256)) w w' × Kept (Out 0 (5 * c.quads)) F H)
  unfolding measure_rule measures_of
  measured len g at F G H w w' r el t R S u =
      let e : all has_normal (cells len) ≡ true = sym R.0 ∙ t in
      let A = R.1.0 t in
      let K = S.1.0 in
      let s = part-kept A.shapes K (λ i p q p' q'. omega arith) in
      let j = part-kept A.jacobians K (λ i p q p' q'. omega arith) in
      let v : r ≡ measures_of (cells len) = u ∙ rw (s.is, j.is, S.0.is, A.shapes.is, A.areas.is) in
      (rw (same-cells len el, e) (ap Ok v), (S.1.1, kept_then R.1.1 K (λ i o. (λ p q. o p (omega arith), λ p q. o (omega arith) (omega arith)))))

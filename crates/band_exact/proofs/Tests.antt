-- The two tests of a band and its lower level: who refuses one that is not finite, and who does not. Assumes nothing.
use Prim.Native.Nat.{suc}
use native.Mathlib.Omega.{arith}
use mathlib.Core.Path.{◌≡◌, refl, sym, ◌∙◌}
use mathlib.Core.Bool.{Bool, true, false, ◌&&◌, ◌||◌, and-true, and-false, false≢true}
use borrow.Author.Tests.{ne_eqb}
use lib.Ieee.{Float, nan, inf, fin, binary64, of_bits, div, neg, lt, eq}
use Rattle.numeric.specs.Num.{zero_f, finite_of}
use Rattle.points.specs.Points.{one}
use Rattle.band.specs.declared.Band.{Band}
use Rattle.band.specs.Bands.{length_of, normal_of, box_valid_of, levels_valid_of, measurable_levels_of, valid_of, measurable_of}
use Rattle.setting.specs.Settings.{Domain, Setting, band_in, domain_in, domain_of}
use Rattle.rule_sheet.specs.Sheet.{Sheet, sheet_verdict}
use Rattle.rule_sheet.specs.Lent.{Lent, Work, held, room_in, lent_verdict}
use Rattle.rule_sheet.specs.Outcomes.{Outcome, refuses, after_test}
use Rattle.rule_admission.specs.Admission.{and_then, domain_verdict, measurable_verdict, admits_after, admits}
use Rattle.rule_regularize.specs.Rule.{swap_rule}
use Rattle.rule_coarsen.specs.Rule.{coarsen_verdict, coarsen_rule}
use Rattle.rule_finer.specs.Subdivide.{subdivide_rule}
use Rattle.rule_rows.specs.Rows.{rows_rule}
use Rattle.rule_quality.specs.Measure.{cells_of, measure_rule}
use Rattle.rule_quality.specs.Quality.{quality_rule}
use Rattle.rule_corners.specs.Corners.{corners_rule}
use Rattle.rule_page.specs.Page.{page_rule}
use Rattle.rule_extract.specs.Drawing.{extract_rule}
use Rattle.band_exact.specs.Exact.{EveryTest, LowerNotFinite, box_after_lent, EveryRefusal, NoPass, EveryOldCore, band_from, EveryMeasure}
use Rattle.std.specs.Prelude.{Ok, Err}
use Rattle.rule_sheet.specs.Verdicts.{Verdict}
use Rattle.rule_sheet.specs.declared.Refusal.TheVariants.{Box}

-- ---- the two tests

-- by the answers of their parts: f, the lower level is finite; e, it is minus infinity; g and t, the upper one is finite
-- and above it; x, the box is one
by_parts : (f e g t x : Bool) → ((f && g && t) && x) ≡ ((((f || e) && g && t) && x) && f)
by_parts true e g t x = sym (and-true ((g && t) && x))
by_parts false e g t x = sym (and-false ((e && g && t) && x))

pub every-test : EveryTest
unfolding EveryTest valid_of measurable_of levels_valid_of measurable_levels_of
every-test b =
    by_parts (finite_of b.lower) (eq b.lower (div binary64 (neg one) zero_f)) (finite_of b.upper) (lt b.lower b.upper) (box_valid_of b)

-- ---- who refuses

not_valid : (d : Domain) → LowerNotFinite d → valid_of (band_in d) ≡ false
unfolding EveryTest
not_valid d h = every-test (band_in d) ∙ rw h (and-false (measurable_of (band_in d)))

not-admitted : (d : Domain) → LowerNotFinite d → domain_verdict d ≡ Err Box
unfolding domain_verdict
not-admitted d h = rw (not_valid d h)

-- 12 and 13 come before it, the tests of the sheet behind it
box-first : {A : Type 0} (u v : Verdict) (o : Outcome A) → after_test (and_then u (and_then (Err Box) v)) o ≡ after_test u (refuses Box)
box-first (Ok u) v o = refl
box-first (Err n) v o = refl

module _ (s : Setting) (h : LowerNotFinite (domain_in s)) where
  box-after : {A : Type 0} (x : Lent) (w : Work) (o : Outcome A) → after_test (admits s x w) o ≡ box_after_lent x w
  unfolding admits_after
  box-after x w o = rw (not-admitted (domain_in s) h) (box-first (lent_verdict x.counts (room_in x) w) (sheet_verdict (held x)) o)

pub every-refusal : EveryRefusal
unfolding EveryRefusal extract_rule swap_rule coarsen_rule coarsen_verdict subdivide_rule rows_rule
every-refusal s h = record {
  extract = λ cells w room. rw (not_valid (domain_in s) h);
  regularize = λ k x w. box-after s h x w _;
  improve = λ k x w. box-after s h x w _;
  coarsen = λ k x w. rw (ne_eqb (suc k) 0 (λ z. omega arith)) (box-after s h x w _);
  subdivide = λ x w room. box-after s h x w _;
  rows = λ x w room. box-after s h x w _;
}

pub no-pass : NoPass
unfolding NoPass coarsen_rule coarsen_verdict
no-pass s x w = refl

-- ---- who does not

-- minus infinity is below every finite number
below : (x : Float) → finite_of x ≡ true → measurable_levels_of (inf true) x ≡ true
unfolding measurable_levels_of of_bits div neg lt eq
below nan f = absurd (false≢true f)
below (inf s) f = absurd (false≢true f)
below (fin s m e) f = refl

pub every-old-core : EveryOldCore
unfolding EveryOldCore measurable_verdict measurable_of
every-old-core d i f g =
    let l : measurable_levels_of (band_in d).lower (band_in d).upper ≡ true = rw i (below (band_in d).upper f) in
    rw (l, g)

-- the lower level is read by the test alone
module _ (b : Band) (l : Float) where
  measurable-same : measurable_levels_of l b.upper ≡ true → measurable_levels_of b.lower b.upper ≡ true
      → measurable_verdict (domain_of (band_from l b)) ≡ measurable_verdict (domain_of b)
  unfolding measurable_verdict measurable_of box_valid_of length_of
  measurable-same e f = rw (e, f)

  measured-same : (s : Sheet) → measure_rule (domain_of (band_from l b)) s ≡ measure_rule (domain_of b) s
  unfolding measure_rule cells_of normal_of length_of
  measured-same s = refl

pub every-measure : EveryMeasure
unfolding EveryMeasure quality_rule corners_rule page_rule
every-measure b l e f x w n =
    let m = measurable-same b l e f in
    let g = measured-same b l (held x) in
    (rw (m, g), rw m, rw (m, g))

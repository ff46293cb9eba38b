-- `corners_per_point` is refused as `quality` is, apart from 11. Assumes nothing.
use Prim.Native.Nat.{ℕ}
use mathlib.Core.Path.{◌≡◌, refl, ap}
use mathlib.Core.Logic.{◌≢◌}
use native.Mathlib.Omega.{arith}
use lib.ListN.{length}
use Rattle.band.specs.Bands.{measurable_of}
use Rattle.setting.specs.Settings.{Domain, band_in}
use Rattle.rule_sheet.specs.Sheet.{counts_of}
use Rattle.rule_sheet.specs.Lent.{Lent, Work, held}
use Rattle.rule_sheet.specs.Outcomes.{Outcome, refuses, gives, after_test}
use Rattle.rule_admission.specs.Admission.{measurable_verdict, measurable}
use Rattle.rule_admission.proofs.Numbers.{Number, accepted, refused, either_number, said, SheetNumbers, admits-number}
use Rattle.rule_quality.specs.Measure.{measure_rule}
use Rattle.rule_quality.specs.declared.report.Assessment.{Assessment}
use Rattle.rule_quality.specs.Quality.{with_counts, quality_rule}
use Rattle.rule_quality.proofs.Numbers.{measured-number}
use Rattle.rule_corners.specs.declared.Ratio.{Ratio}
use Rattle.rule_corners.specs.Corners.{ratio_of, corners_rule}
use Rattle.corners_exact.specs.Exact.{EveryRefusal}
use Rattle.std.specs.Prelude.{Ok, Err}
use Rattle.rule_sheet.specs.Verdicts.{Verdict}
use Rattle.rule_sheet.specs.declared.Refusal.TheVariants.{Box, Normal}
use Rattle.rule_sheet.specs.declared.Refusal.{Refusal}
use Rattle.rule_sheet.specs.Numbers.{refusal_number}

-- ---- no test before the measures refuses with 11

abbrev Other : Refusal → Type 0
Other n = n ≢ Normal

sheet-numbers : SheetNumbers Other
sheet-numbers = record {
  at_large = λ e. let z = ap refusal_number e in omega arith;
  at_short = λ e. let z = ap refusal_number e in omega arith;
  at_bare = λ e. let z = ap refusal_number e in omega arith;
  is_corner = λ e. let z = ap refusal_number e in omega arith;
  is_clash = λ e. let z = ap refusal_number e in omega arith;
}

tests-other : (d : Domain) (x : Lent) (w : Work) → Number Other (measurable d x w)
unfolding measurable_verdict
tests-other d x w =
    admits-number Other sheet-numbers x w (either_number Other (measurable_of (band_in d)) (accepted Other) (refused Other Box (λ e. let z = ap refusal_number e in omega arith)))

-- ---- outcomes

-- the number of a refusal, n where there is none
abbrev number_or : {A : Type 0} → Refusal → Outcome A → Refusal
number_or n (refuses k) = k
number_or n (gives x) = n

there : (v : Verdict) (q : Ratio) (o : Outcome Assessment) (n : Refusal) → Number Other v → after_test v (gives q) ≡ refuses n → (after_test v o ≡ refuses n) × (n ≢ Normal)
there (Ok u) q o n p h = absurd (let z : ◌≡◌ {A = ℕ} 0 1 = cc in omega arith)
there (Err k) q o n p h = let e : k ≡ n = ap (number_or n) h in (ap refuses e, rw e at p.is)

here : (v : Verdict) (q : Ratio) (o : Outcome Assessment) (n : Refusal) → (o ≡ refuses n → n ≡ Normal) → after_test v o ≡ refuses n → n ≢ Normal → after_test v (gives q) ≡ refuses n
here (Ok u) q o n p h l = absurd (l (p h))
here (Err k) q o n p h l = let e : k ≡ n = ap (number_or n) h in ap refuses e

-- ---- the theorem

pub every-refusal : EveryRefusal
unfolding EveryRefusal corners_rule quality_rule
every-refusal d x w n =
    let q = ratio_of (counts_of (held x)) in
    let o = with_counts (length (held x).points) (held x).quads (measure_rule d (held x)) in
    (there (measurable d x w) q o n (tests-other d x w), here (measurable d x w) q o n (said (λ k. k ≡ Normal) (measured-number (λ k. k ≡ Normal) refl (length (held x).points) (held x).quads d (held x))))

-- The page is refused as `quality` is, or because its slice is too short. Assumes nothing.
use Prim.Native.Nat.{ℕ}
use mathlib.Core.Path.{◌≡◌, refl}
use mathlib.Core.Bool.{Bool, true, false, cond}
use mathlib.Core.List.{List}
use borrow.Author.Tests.{lt-ltb, le-ltb}
use lib.ListN.{length}
use Rattle.rule_sheet.specs.Sheet.{sheet_verdict}
use Rattle.rule_sheet.specs.Lent.{held, room_in, is_large, is_short, is_short_work, lent_verdict, before_verdict}
use Rattle.rule_sheet.specs.Outcomes.{Outcome, refuses, after_test}
use Rattle.rule_admission.specs.Admission.{and_then, measurable_verdict, admits_after}
use Rattle.rule_quality.specs.Measure.{measure_rule}
use Rattle.rule_quality.specs.declared.report.Assessment.{Assessment}
use Rattle.rule_quality.specs.Quality.{with_counts, quality_rule}
use Rattle.rule_page.specs.Page.{page_outcome, page_rule}
use Rattle.page_exact.specs.Exact.{EveryRefusal}
use Rattle.std.specs.Prelude.{Err}
use Rattle.rule_sheet.specs.Verdicts.{Verdict, Accepted}
use Rattle.rule_sheet.specs.declared.Refusal.TheVariants.{Large, Short}

-- what is above the limit `quality` refuses with 12 too
same-refusal : (a b c : Bool) (v : Verdict) (o : Outcome Assessment)
    → after_test (cond a (Err Large) (cond false (Err Short) Accepted)) (page_outcome (after_test (and_then (cond a (Err Large) (cond b (Err Short) (cond c (Err Short) Accepted))) v) o))
    ≡ page_outcome (after_test (and_then (cond a (Err Large) (cond b (Err Short) (cond c (Err Short) Accepted))) v) o)
same-refusal true b c v o = refl
same-refusal false b c v o = refl

short-refusal : (a : Bool) (o : Outcome (List ℕ)) → after_test (cond a (Err Large) (cond true (Err Short) Accepted)) o ≡ refuses (cond a Large Short)
short-refusal true o = refl
short-refusal false o = refl

pub every-refusal : EveryRefusal
unfolding EveryRefusal page_rule quality_rule before_verdict admits_after lent_verdict
every-refusal d x w n =
    let c = x.counts in
    let o = with_counts (length (held x).points) (held x).quads (measure_rule d (held x)) in (
      (λ h. rw (le-ltb n 328 h) (same-refusal (is_large c) (is_short c (room_in x)) (is_short_work c w) (and_then (measurable_verdict d) (sheet_verdict (held x))) o)),
      (λ h. rw (lt-ltb n 328 h) (short-refusal (is_large c) (page_outcome (quality_rule d x w)))),
    )

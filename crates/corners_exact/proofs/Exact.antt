-- Every answer of `corners_per_point` is exact. Assumes nothing.
use Prim.Native.Nat.{ℕ, ◌*◌, ◌/◌, ◌%◌, ◌<◌}
use mathlib.Core.Path.{◌≡◌, refl, ap, ◌∙◌}
use native.Mathlib.Omega.{arith}
use native.Mathlib.Nat.{div-add-mod', mod-lt, mod-eq_of_lt, div-eq_of_lt, mul-add-div_right, mul-add-mod_self_right}
use lib.ListN.{length}
use Rattle.lists.specs.Sort.{itself}
use Rattle.rule_sheet.specs.Quads.{valence}
use Rattle.rule_sheet.specs.Sheet.{Sheet, counts_of}
use Rattle.rule_sheet.specs.Lent.{held}
use Rattle.rule_sheet.specs.Outcomes.{Outcome, refuses, gives, after_test}
use Rattle.rule_sheet.specs.Sound.{AcceptedSheet}
use Rattle.rule_sheet.proofs.Sums.{sum-tab}
use Rattle.rule_admission.specs.Admission.{measurable_verdict, measurable}
use Rattle.sheet.proofs.Tests.{whole_of}
use Rattle.admission.proofs.Accepted.{lent-accepted}
use Rattle.safety_rules.proofs.Finer.{handshake}
use Rattle.safety_rules.proofs.Fine.{fine_of}
use Rattle.rule_corners.specs.declared.Ratio.{Ratio}
use Rattle.rule_corners.specs.Corners.{ratio_of, corners_rule}
use Rattle.corners_exact.specs.Exact.{Exact, corners_in, PerPoint, EveryAnswer}
use Rattle.std.specs.Prelude.{Ok, Err}
use Rattle.rule_sheet.specs.Verdicts.{Verdict}

-- ---- quotient and remainder

ratio-exact : (s : Sheet) → 0 < length s.points → Exact s (ratio_of (counts_of s))
unfolding ratio_of
ratio-exact s h = record { whole = div-add-mod' (4 * length s.quads) (length s.points); below = omega (arith, mod-lt (4 * length s.quads) h) }

same-ratio : {a b c d : ℕ} → a ≡ c → b ≡ d → ◌≡◌ {A = Ratio} (record { quotient = a; remainder = b }) (record { quotient = c; remainder = d })
same-ratio e f = rw (e, f)

ratio-only : (s : Sheet) (p : Ratio) → Exact s p → p ≡ ratio_of (counts_of s)
unfolding ratio_of
ratio-only s p E = same-ratio quotient remainder
  where
    n : ℕ
    n = length s.points

    quotient : p.quotient ≡ 4 * length s.quads / n
    quotient = omega (arith, ap (λ (k : ℕ). k / n) E.whole, mul-add-div_right {m = n} (omega (arith, E.below)) p.quotient p.remainder, div-eq_of_lt E.below)

    remainder : p.remainder ≡ 4 * length s.quads % n
    remainder = omega (arith, ap (λ (k : ℕ). k % n) E.whole, mul-add-mod_self_right p.quotient n p.remainder, mod-eq_of_lt E.below)

-- ---- the corners

corners-all : (s : Sheet) → AcceptedSheet s → corners_in s ≡ 4 * length s.quads
unfolding corners_in
corners-all s a = sum-tab (valence s.quads) itself (length s.points) ∙ handshake (length s.points) s.quads (fine_of s a).in_range

-- ---- the theorem

per-point : (s : Sheet) → AcceptedSheet s → PerPoint s (ratio_of (counts_of s))
per-point s a = record { exact = ratio-exact s (whole_of s a.not_bare).some_points; only = ratio-only s; corners = corners-all s a }

-- what is given, q where nothing is
abbrev given_or : Ratio → Outcome Ratio → Ratio
given_or q (refuses n) = q
given_or q (gives p) = p

pub every-answer : EveryAnswer
unfolding EveryAnswer corners_rule
every-answer d x w q e = go (measurable d x w) refl e
  where
    go : (v : Verdict) → measurable d x w ≡ v → after_test v (gives (ratio_of (counts_of (held x)))) ≡ gives q → PerPoint (held x) q
    go (Ok u) ev h = let r : ratio_of (counts_of (held x)) ≡ q = ap (given_or q) h in rw r at (per-point (held x) (lent-accepted (measurable_verdict d) x w ev))
    go (Err n) ev h = absurd (let z : ◌≡◌ {A = ℕ} 0 1 = cc in omega arith)

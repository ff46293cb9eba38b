-- What the exports are told of a band: the kind of its field, ten numbers, six bounds and two levels.
use Rattle.std.specs.Prelude.{ℕ, Bool, cond, ◌||◌, List, eqb, ltb, Float, length, get_or, Err}
use Rattle.std.specs.Float.{nan}
use Rattle.points.specs.Points.{point_at}
use Rattle.field.specs.declared.Field.{Field}
use Rattle.field.specs.declared.Field.TheVariants.{Plane, Ball, Quadric}
use Rattle.field.specs.declared.Coefficients.{Coefficients}
use Rattle.band.specs.declared.Band.{Band}
use Rattle.setting.specs.Settings.{Setting, setting_of}
use Rattle.rule_sheet.specs.declared.Counts.{Counts}
use Rattle.rule_sheet.specs.Lent.{Work, work_with, before_verdict}
use Rattle.rule_sheet.specs.Outcomes.{Outcome, after_test}
use Rattle.rule_sheet.specs.declared.Refusal.TheVariants.{Short}
use Rattle.rule_sheet.specs.Verdicts.{Accepted}

-- what an export is told of the band
pub record Told : Type 0 where
  pub kind : ℕ
  pub numbers : List Float
  pub bounds : List Float
  pub lower : Float
  pub upper : Float

abbrev pub told_of : ℕ → List Float → List Float → Float → Float → Told
told_of k n b l u = record { kind = k; numbers = n; bounds = b; lower = l; upper = u }

-- ten numbers as coefficients
abbrev pub coefficients_of : List Float → Coefficients
coefficients_of k = record {
  k0 = get_or k 0 nan;
  k1 = get_or k 1 nan;
  k2 = get_or k 2 nan;
  k3 = get_or k 3 nan;
  k4 = get_or k 4 nan;
  k5 = get_or k 5 nan;
  k6 = get_or k 6 nan;
  k7 = get_or k 7 nan;
  k8 = get_or k 8 nan;
  k9 = get_or k 9 nan;
}

-- the field of a kind: 0 is a plane, 1 a ball, any other a quadric
unfoldable pub field_of : ℕ → Coefficients → Field
field_of kind k =
    cond (eqb kind 0) (Plane k.k0 k.k1 k.k2 k.k3)
    (cond (eqb kind 1) (Ball k.k0 k.k1 k.k2 k.k3) (Quadric k))

-- the lower level of the band that is told. A kind above 2 is none: its band has a lower level that is not a number,
-- which every test of a band refuses, with 1 in its place.
unfoldable pub lower_of : ℕ → Float → Float
lower_of kind lower = cond (ltb 2 kind) nan lower

-- the band that is told; its bounds are low x, y, z, then high x, y, z
unfoldable pub band_of : Told → Band
band_of t = record {
  low = point_at t.bounds 0;
  high = point_at t.bounds 1;
  lower = lower_of t.kind t.lower;
  upper = t.upper;
  field = field_of t.kind (coefficients_of t.numbers);
}

-- 13, short: fewer than ten numbers or six bounds
abbrev pub is_short_told : Told → Bool
is_short_told t = ltb (length t.numbers) 10 || ltb (length t.bounds) 6

-- an operation on a lent sheet of these counts, by what its export is told, few where what it answers in is too
-- short: "12, 13 (counts or work), 1", every 13 before 1
abbrev pub by_told : {A : Type 0} → Counts → Bool → Told → (Setting → Outcome A) → Outcome A
by_told c few t rule = after_test (before_verdict c (few || is_short_told t)) (rule (setting_of (band_of t)))

-- extraction by what its export is told: without numbers and bounds there is no band, so their 13 comes first; then
-- "1, 2, 3, 13 (work)", of which 2 never occurs, where a short answer slice counts as no work
abbrev pub drawn_by_told : {A : Type 0} → Bool → Told → Work → (Setting → Work → Outcome A) → Outcome A
drawn_by_told few t w rule =
    after_test (cond (is_short_told t) (Err Short) Accepted)
    (rule (setting_of (band_of t)) (cond few (work_with 0 0) w))

-- What document 02, Point 12 says of the lower level of a band, of every operation.
use Rattle.std.specs.Prelude.{ℕ, suc, ◌≡◌, ◌≢◌, ◌⊎◌, Bool, true, false, ◌&&◌, List, Float}
use Rattle.std.specs.Float.{inf}
use Rattle.numeric.specs.Num.{finite_of}
use Rattle.band.specs.declared.Band.{Band}
use Rattle.band.specs.Bands.{box_valid_of, measurable_levels_of, valid_of, measurable_of}
use Rattle.setting.specs.Settings.{Domain, Setting, band_in, domain_in, domain_of}
use Rattle.rule_sheet.specs.declared.Counts.{Counts}
use Rattle.rule_sheet.specs.Lent.{Lent, Work, Room, held, room_in, lent_verdict}
use Rattle.rule_sheet.specs.Outcomes.{Outcome, refuses, gives, after_test}
use Rattle.rule_admission.specs.Admission.{measurable_verdict}
use Rattle.rule_regularize.specs.Rule.{regularize_rule, improve_rule}
use Rattle.rule_coarsen.specs.Rule.{coarsen_rule}
use Rattle.rule_finer.specs.Finer.{refine_rule}
use Rattle.rule_finer.specs.Subdivide.{subdivide_rule}
use Rattle.rule_rows.specs.Rows.{rows_rule}
use Rattle.rule_quality.specs.Quality.{quality_rule}
use Rattle.rule_corners.specs.Corners.{corners_rule}
use Rattle.rule_page.specs.Page.{page_rule}
use Rattle.rule_extract.specs.Drawing.{extract_rule}
use Rattle.rule_job.specs.Files.{Job}
use Rattle.rule_job.specs.Jobs.{JobRoom, save_rule, open_rule, sum_rule}
use Rattle.rule_exports.specs.Told.{Told, by_told, drawn_by_told}
use Rattle.rule_exports.specs.Exports.{with_answer}
use Rattle.rule_sheet.specs.declared.Refusal.TheVariants.{Box, Bottomless, Cells, Samples, Bare, Clash, Short}
use Rattle.rule_sheet.specs.declared.Refusal.{Refusal}
use Rattle.rule_sheet.specs.Numbers.{refusal_number}
use Rattle.rule_sheet.specs.Verdicts.{Accepted}

-- ---- the two tests of a band

-- a band passes the test of an operation exactly if it passes the old one and its lower level is finite
unfoldable pub EveryTest : Type 0
EveryTest = (b : Band) → valid_of b ≡ (measurable_of b && finite_of b.lower)

-- ---- who refuses

-- "a lower level that is not finite": an infinity or a NaN
abbrev pub LowerNotFinite : Domain → Type 0
LowerNotFinite d = finite_of (band_in d).lower ≡ false

-- 12 and 13 of what is lent, then 1
abbrev pub box_after_lent : {A : Type 0} → Lent → Work → Outcome A
box_after_lent x w = after_test (lent_verdict x.counts (room_in x) w) (refuses Box)

-- what each operation that tests a band answers to a call that brings s, on any sheet and with any slices; `coarsen`
-- tests one where it has a pass to make
pub record RefusedAsBox (s : Setting) : Type 0 where
  pub extract : (cells : ℕ) (w : Work) (room : Room) → extract_rule (domain_in s) cells w room ≡ refuses Box
  pub regularize : (k : ℕ) (x : Lent) (w : Work) → regularize_rule s k x w ≡ box_after_lent x w
  pub improve : (k : ℕ) (x : Lent) (w : Work) → improve_rule s k x w ≡ box_after_lent x w
  pub coarsen : (k : ℕ) (x : Lent) (w : Work) → coarsen_rule s (suc k) x w ≡ box_after_lent x w
  pub subdivide : (x : Lent) (w : Work) (room : Room) → subdivide_rule s x w room ≡ box_after_lent x w
  pub rows : (x : Lent) (w : Work) (room : Room) → rows_rule s x w room ≡ box_after_lent x w

-- "every operation that tests a band refuses a lower level that is not finite as box, number 1"
unfoldable pub EveryRefusal : Type 0
EveryRefusal = (s : Setting) → LowerNotFinite (domain_in s) → RefusedAsBox s

-- document 01: "Zero passes answer 0 and meet 12 and 13 only", with any band
unfoldable pub NoPass : Type 0
NoPass = (s : Setting) (x : Lent) (w : Work)
    → coarsen_rule s 0 x w
    ≡ after_test (lent_verdict x.counts (room_in x) w) (gives (record { left = held x; count = 0 }))

-- ---- who does not

-- "keeps the old rule .. so that old cores can be measured": minus infinity below a finite upper level is taken in any
-- box that is one
unfoldable pub EveryOldCore : Type 0
EveryOldCore = (d : Domain) → (band_in d).lower ≡ inf true → finite_of (band_in d).upper ≡ true
    → box_valid_of (band_in d) ≡ true → measurable_verdict d ≡ Accepted

-- a band with the lower level l in place of its own
abbrev pub band_from : Float → Band → Band
band_from l b = record { low = b.low; high = b.high; lower = l; upper = b.upper; field = b.field }

-- what is measured does not depend on the lower level: two that the old rule takes give the same
unfoldable pub EveryMeasure : Type 0
EveryMeasure = (b : Band) (l : Float) → measurable_levels_of l b.upper ≡ true
    → measurable_levels_of b.lower b.upper ≡ true → (x : Lent) (w : Work) (n : ℕ)
    → (quality_rule (domain_of (band_from l b)) x w ≡ quality_rule (domain_of b) x w)
    × (corners_rule (domain_of (band_from l b)) x w ≡ corners_rule (domain_of b) x w)
    × (page_rule (domain_of (band_from l b)) x w n ≡ page_rule (domain_of b) x w n)

-- ---- the numbers

-- n is 1, 3, 13, 4, 5 or 7
abbrev pub OfDrawing : Refusal → Type 0
OfDrawing n =
    (n ≡ Box) ⊎ ((n ≡ Cells) ⊎ ((n ≡ Short) ⊎ ((n ≡ Samples) ⊎ ((n ≡ Bare) ⊎ (n ≡ Clash)))))

-- a drawing is refused with no other number
unfoldable pub DrawingNumbers : Type 0
DrawingNumbers = (d : Domain) (cells : ℕ) (w : Work) (room : Room) (n : Refusal)
    → extract_rule d cells w room ≡ refuses n
    → OfDrawing n

-- "so number 2 never occurs": no operation refuses with it, whatever it is asked
pub record NeverBottomless : Type 0 where
  pub extract : (d : Domain) (cells : ℕ) (w : Work) (room : Room) → extract_rule d cells w room ≢ refuses Bottomless
  pub refine : (x : Lent) (w : Work) (room : Room) → refine_rule x w room ≢ refuses Bottomless
  pub subdivide : (s : Setting) (x : Lent) (w : Work) (room : Room) → subdivide_rule s x w room ≢ refuses Bottomless
  pub rows : (s : Setting) (x : Lent) (w : Work) (room : Room) → rows_rule s x w room ≢ refuses Bottomless
  pub regularize : (s : Setting) (k : ℕ) (x : Lent) (w : Work) → regularize_rule s k x w ≢ refuses Bottomless
  pub improve : (s : Setting) (k : ℕ) (x : Lent) (w : Work) → improve_rule s k x w ≢ refuses Bottomless
  pub coarsen : (s : Setting) (k : ℕ) (x : Lent) (w : Work) → coarsen_rule s k x w ≢ refuses Bottomless
  pub quality : (d : Domain) (x : Lent) (w : Work) → quality_rule d x w ≢ refuses Bottomless
  pub corners : (d : Domain) (x : Lent) (w : Work) → corners_rule d x w ≢ refuses Bottomless
  pub page : (d : Domain) (x : Lent) (w : Work) (n : ℕ) → page_rule d x w n ≢ refuses Bottomless
  pub save : (j : Job) (w n : ℕ) → save_rule j w n ≢ refuses Bottomless
  pub opened : (F : List ℕ) (room : JobRoom) → open_rule F room ≢ refuses Bottomless
  pub sum : (F : List ℕ) (too_short : Bool) → sum_rule F too_short ≢ refuses Bottomless

-- nor does an export: what it tests in front of an operation, with and without a band and in a drawing, refuses with
-- other numbers; and 2 is the number of no other refusal
pub record NeverShown : Type 1 where
  pub number : (n : Refusal) → refusal_number n ≡ 2 → n ≡ Bottomless
  pub answered : {A : Type 0} (c : Counts) (l : List ℕ) (o : Outcome A)
      → o ≢ refuses Bottomless → with_answer c l o ≢ refuses Bottomless
  pub told : {A : Type 0} (c : Counts) (few : Bool) (t : Told) (rule : Setting → Outcome A)
      → ((s : Setting) → rule s ≢ refuses Bottomless) → by_told c few t rule ≢ refuses Bottomless
  pub drawn : {A : Type 0} (few : Bool) (t : Told) (w : Work) (rule : Setting → Work → Outcome A)
      → ((s : Setting) (v : Work) → rule s v ≢ refuses Bottomless) → drawn_by_told few t w rule ≢ refuses Bottomless

-- What document 02, Point 8 says of the corners per point: of the two numbers, and of the refusals.
use Rattle.std.specs.Prelude.{ℕ, ◌+◌, ◌*◌, ◌<◌, ◌≡◌, ◌≢◌, length}
use Rattle.lists.specs.Sort.{tabulate, itself}
use Rattle.setting.specs.Settings.{Domain}
use Rattle.rule_sheet.specs.Quads.{sum, valence}
use Rattle.rule_sheet.specs.Sheet.{Sheet}
use Rattle.rule_sheet.specs.Lent.{Lent, Work, held}
use Rattle.rule_sheet.specs.Outcomes.{refuses, gives}
use Rattle.rule_quality.specs.Quality.{quality_rule}
use Rattle.rule_corners.specs.declared.Ratio.{Ratio}
use Rattle.rule_corners.specs.Corners.{corners_rule}
use Rattle.rule_sheet.specs.declared.Refusal.{Refusal}
use Rattle.rule_sheet.specs.declared.Refusal.TheVariants.{Normal}

-- "quotient × points + remainder is 4 × quads and the remainder is below points"
pub record Exact (s : Sheet) (q : Ratio) : Type 0 where
  pub whole : q.quotient * length s.points + q.remainder ≡ 4 * length s.quads
  pub below : q.remainder < length s.points

-- the corners of a sheet: the quads at each of its points, added over the points
unfoldable pub corners_in : Sheet → ℕ
corners_in s = sum (valence s.quads) (tabulate itself (length s.points))

-- what an answer q of the sheet s is: exact, the only one that is, and of all corners at its points
pub record PerPoint (s : Sheet) (q : Ratio) : Type 0 where
  pub exact : Exact s q
  pub only : (p : Ratio) → Exact s p → p ≡ q
  pub corners : corners_in s ≡ 4 * length s.quads

-- the first theorem: so is every answer
unfoldable pub EveryAnswer : Type 0
EveryAnswer = (d : Domain) (x : Lent) (w : Work) (q : Ratio) → corners_rule d x w ≡ gives q → PerPoint (held x) q

-- the second: "It is refused as quality refuses, apart from normal". A number other than 11 refuses both or neither,
-- 11 `quality` alone.
unfoldable pub EveryRefusal : Type 0
EveryRefusal = (d : Domain) (x : Lent) (w : Work) (n : Refusal)
    → (corners_rule d x w ≡ refuses n → (quality_rule d x w ≡ refuses n) × (n ≢ Normal))
    × (quality_rule d x w ≡ refuses n → n ≢ Normal → corners_rule d x w ≡ refuses n)

-- What document 02, Point 2 says of the page: of its bytes, and of the refusals.
use Rattle.std.specs.Prelude.{ℕ, zero, suc, ◌+◌, ◌-◌, ◌*◌, ◌%◌, ◌≤◌, ◌<◌, ◌≡◌, true, cond, eqb, leb, length, get_or}
use Rattle.std.specs.Prelude.{drop}
use mathlib.Core.List.{List, [], ◌∷◌, foldl}
use Rattle.lists.specs.Regions.{part}
use Rattle.setting.specs.Settings.{Domain}
use Rattle.rule_sheet.specs.Quads.{all}
use Rattle.rule_sheet.specs.Lent.{Lent, Work, limit, is_large}
use Rattle.rule_sheet.specs.Outcomes.{refuses, gives}
use Rattle.rule_quality.specs.declared.report.Quality.{Quality}
use Rattle.rule_quality.specs.declared.report.Assessment.{Assessment}
use Rattle.rule_quality.specs.Quality.{eight_counts, quality_rule}
use Rattle.rule_page.specs.Page.{space, line_end, page_size, page_outcome, page_rule}
use Rattle.rule_sheet.specs.declared.Refusal.TheVariants.{Large, Short}

-- ---- reading a page back

-- a number and the byte behind it: a space adds nothing, a digit is its next place
abbrev pub read_byte : ℕ → ℕ → ℕ
read_byte n b = cond (eqb b space) n (10 * n + (b - 48))

-- the number in the columns 24 to 39 of a line
abbrev pub count_in : List ℕ → ℕ
count_in line = foldl read_byte 0 (part 24 16 line)

-- the numbers of k lines of 41 bytes, one after the other
unfoldable pub counts_in : ℕ → List ℕ → List ℕ
counts_in zero p = []
counts_in (suc k) p = count_in p ∷ counts_in k (drop 41 p)

-- ---- the theorems

-- what the page p of a record q is: "each line ended by byte 10. Every line is 41 bytes and the page 328". Each count
-- has at most seven digits, so that it fits its 16 columns, and is read back
pub record Legible (q : Quality) (p : List ℕ) : Type 0 where
  pub size : length p ≡ page_size
  pub ends : (i : ℕ) → i < page_size → eqb (get_or p i 0) line_end ≡ eqb (i % 41) 40
  pub fit : all (λ n. leb n (4 * limit)) (eight_counts q) ≡ true
  pub read : counts_in 8 p ≡ eight_counts q

-- the first theorem: every page is that of the record that `quality` gives of the sheet
unfoldable pub EveryPage : Type 0
EveryPage = (d : Domain) (x : Lent) (w : Work) (n : ℕ) (p : List ℕ)
    → page_rule d x w n ≡ gives p → (a : Assessment) × (quality_rule d x w ≡ gives a) × Legible a.quality p

-- the second: the page "is refused as quality refuses" where its slice has 328 bytes; "too small a lent page is 13",
-- after 12, whatever the sheet and the band are
unfoldable pub EveryRefusal : Type 0
EveryRefusal = (d : Domain) (x : Lent) (w : Work) (n : ℕ)
    → (page_size ≤ n → page_rule d x w n ≡ page_outcome (quality_rule d x w))
    × (n < page_size → page_rule d x w n ≡ refuses (cond (is_large x.counts) Large Short))

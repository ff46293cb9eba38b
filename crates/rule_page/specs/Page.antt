-- The page for the kiln office: the eight counts of a sheet as text. Document 02, Point 2.
use Rattle.std.specs.Prelude.{ℕ, ◌+◌, ◌-◌, ◌/◌, ◌%◌, ◌^◌, ◌≡◌, cond, ◌&&◌, List, [], ◌∷◌, ◌++◌, eqb, ltb, Err}
use Prim.Native.Char.{code}
use Prim.Native.String.{String, len, char_at}
use Rattle.lists.specs.Sort.{tabulate}
use Rattle.setting.specs.Settings.{Domain}
use Rattle.rule_sheet.specs.Edges.{join_of}
use Rattle.rule_sheet.specs.Lent.{Lent, Work, before_verdict}
use Rattle.rule_sheet.specs.Outcomes.{Outcome, refuses, gives, after_test}
use Rattle.rule_sheet.specs.Results.{padded}
use Rattle.rule_quality.specs.declared.report.Quality.{Quality}
use Rattle.rule_quality.specs.declared.report.Assessment.{Assessment}
use Rattle.rule_quality.specs.Quality.{quality_rule}
use Rattle.rule_sheet.specs.Verdicts.{Verdict, Accepted}

-- ---- a line

-- the bytes of a text in ASCII
abbrev pub bytes_of : String → List ℕ
bytes_of s = tabulate (λ i. code (char_at s i)) (len s)

-- byte 32
abbrev pub space : ℕ
space = 32

-- "byte 10"
abbrev pub line_end : ℕ
line_end = 10

-- the column of a count with k columns to its right: its digit there, or a space in front of the first digit
unfoldable pub column_of : ℕ → ℕ → ℕ
column_of n k = cond (eqb (n / 10 ^ k) 0 && ltb 0 k) space (48 + n / 10 ^ k % 10)

-- "name left in 24 columns, count right in 16, filled with spaces, each line ended by byte 10"
unfoldable pub line_of : List ℕ → ℕ → List ℕ
line_of name n = padded space 24 name ++ tabulate (λ i. column_of n (15 - i)) 16 ++ (line_end ∷ [])

-- ---- the page

-- the name and the count of a line
pub record Line : Type 0 where
  pub name : String
  pub count : ℕ

abbrev pub line : String → ℕ → Line
line s n = record { name = s; count = n }

-- "The eight counts of the quality record go one to a line in the record's order"; "The names are quads, irregular,
-- boundary, nonmanifold, orientation, links, duplicates, invalid."
abbrev pub lines_of : Quality → List Line
lines_of q =
    line "quads" q.quads
    ∷ line "irregular" q.irregular_vertices
    ∷ line "boundary" q.boundary_edges
    ∷ line "nonmanifold" q.nonmanifold_edges
    ∷ line "orientation" q.orientation_errors
    ∷ line "links" q.bad_vertex_links
    ∷ line "duplicates" q.duplicate_faces
    ∷ line "invalid" q.invalid_cells
    ∷ []

-- lines one after the other
abbrev pub joined : List Line → List ℕ
joined ls = join_of (λ l. line_of (bytes_of l.name) l.count) ls

-- the page of a record
unfoldable pub page_of : Quality → List ℕ
page_of q = joined (lines_of q)

-- "Every line is 41 bytes and the page 328."
abbrev pub page_size : ℕ
page_size = 328

-- the page of what `quality` gives: "refused as quality refuses"
abbrev pub page_outcome : Outcome Assessment → Outcome (List ℕ)
page_outcome (refuses n) = refuses n
page_outcome (gives a) = gives (page_of a.quality)

-- `page` of the sheet in lent slices, in a slice of n bytes: "too small a lent page is 13, beside the 13 for counts
-- and work". 12, 13, 1, 5, 6, 7, 11
unfoldable pub page_rule : Domain → Lent → Work → ℕ → Outcome (List ℕ)
page_rule d x w n = after_test (before_verdict x.counts (ltb n page_size)) (page_outcome (quality_rule d x w))

-- ---- what a call leaves

-- the answer of an outcome
abbrev pub verdict_of : Outcome (List ℕ) → Verdict
verdict_of (refuses n) = Err n
verdict_of (gives p) = Accepted

-- the bytes that it shows: none where it is a refusal
abbrev pub bytes_shown : Outcome (List ℕ) → List ℕ
bytes_shown (refuses n) = []
bytes_shown (gives p) = p

-- the answer r of a call with a slice of n bytes, and the slice p at its end: the page and zeros behind it, all zeros
-- where it is a refusal
pub record Pages (o : Outcome (List ℕ)) (n : ℕ) (r : Verdict) (p : List ℕ) : Type 0 where
  pub answer : r ≡ verdict_of o
  pub page : p ≡ padded 0 n (bytes_shown o)

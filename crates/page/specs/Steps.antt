-- A line byte by byte, and the outcome of an answer of `quality`.
use Rattle.std.specs.Prelude.{ℕ, ◌-◌, cond, List, ltb, get_or, Ok, Err}
use Rattle.rule_sheet.specs.Outcomes.{Outcome, refuses, gives}
use Rattle.rule_page.specs.Page.{space, line_end, column_of, page_of}
use Rattle.rule_quality.specs.Quality.{Assessed}

-- byte i of a line
abbrev pub byte_of : List ℕ → ℕ → ℕ → ℕ
byte_of name n i = cond (ltb i 24) (get_or name i space) (cond (ltb i 40) (column_of n (39 - i)) line_end)

-- the outcome that an answer shows
abbrev pub shown_of : Assessed → Outcome (List ℕ)
shown_of (Ok a) = gives (page_of a.quality)
shown_of (Err n) = refuses n

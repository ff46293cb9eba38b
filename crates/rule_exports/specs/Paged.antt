-- What `quads_page` shows: a number, 0 if accepted, and the page in its slice.
use Rattle.std.specs.Prelude.{ℕ, ◌≡◌, List}
use Rattle.rule_sheet.specs.Outcomes.{Outcome}
use Rattle.rule_sheet.specs.Results.{padded}
use Rattle.rule_page.specs.Page.{verdict_of, bytes_shown}
use Rattle.rule_exports.specs.Exports.{answer_number}

-- the number k of the export with a slice of n bytes, and the slice p at its end: the page and zeros behind it, all
-- zeros where it is a refusal
pub record ShowsPage (o : Outcome (List ℕ)) (n k : ℕ) (p : List ℕ) : Type 0 where
  pub number : k ≡ answer_number (verdict_of o)
  pub page : p ≡ padded 0 n (bytes_shown o)

-- What an admitted call leaves in the work slice.
use Rattle.std.specs.Prelude.{ℕ, List, Ok, Err}
use Rattle.lists.specs.Regions.{Part}
use Rattle.rule_sheet.specs.Verdicts.{Verdict}

-- an admitted call leaves the masks of the n points from `at` on; of a refused one nothing is said
abbrev pub MasksAt : Verdict → ℕ → ℕ → List ℕ → List ℕ → Type 0
MasksAt (Ok u) at n masks w = Part at n masks w
MasksAt (Err k) at n masks w = Unit {0}

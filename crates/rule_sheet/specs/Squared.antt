-- The squared sum of demand 3.
use Rattle.std.specs.Prelude.{ℕ, ◌+◌, ◌*◌, ◌-◌, List}
use Rattle.lists.specs.Sort.{tabulate, itself}
use Rattle.rule_sheet.specs.Quads.{Quad, sum, valence}

-- "(quads minus 4) squared": one of the two differences is 0
abbrev pub sq : ℕ → ℕ
sq k = (k - 4) * (k - 4) + (4 - k) * (4 - k)

-- "demand 3's sum": (quads minus 4) squared added over n points
unfoldable pub squared : ℕ → List Quad → ℕ
squared n S = sum (λ v. sq (valence S v)) (tabulate itself n)

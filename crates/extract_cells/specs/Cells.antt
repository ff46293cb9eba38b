-- The kind of a cell, and its groups one pair of edges at a time.
use Rattle.std.specs.Prelude.{ℕ, zero, suc, ◌-◌, ◌/◌, ◌%◌, Bool, cond, not, ◌&&◌, ◌||◌, List, ltb, get_or}
use Rattle.lists.specs.Sort.{tabulate, itself}
use Rattle.rule_sheet.specs.Quads.{pack_to}
use Rattle.rule_extract.specs.Cells.{crosses, edges_on, four_on, Pair, pair, pairs_in, parted, merged}

-- ---- the kind of a cell as one number: bits 0 to 11 for the edges that cross, bits 12 to 17 for the faces with
-- four crossings

unfoldable pub kind_bit : (ℕ → Bool) → ℕ → Bool
kind_bit sign i = cond (ltb i 12) (crosses sign i) (four_on sign (i - 12))

unfoldable pub kind_of : (ℕ → Bool) → ℕ
kind_of sign = pack_to (kind_bit sign) 18

-- ---- the same one pair of edges at a time: pair t % 6 of face t / 6

abbrev pub pair_at : ℕ → Pair
pair_at t = get_or (pairs_in (edges_on (t / 6))) (t % 6) (pair 0 0)

-- a pair is joined, by the face's kind
unfoldable pub joined_by : (ℕ → Bool) → Bool → ℕ → Pair → Bool
joined_by sign centre f p =
    crosses sign p.first && crosses sign p.second && (not (four_on sign f) || parted sign centre p)

-- the groups with a pair joined where the test says so
unfoldable pub merged_if : (Pair → Bool) → List ℕ → Pair → List ℕ
merged_if test G p = cond (test p) (merged G p) G

-- the groups once the first t pairs are seen
unfoldable pub joined_to : (ℕ → Bool) → (ℕ → Bool) → ℕ → List ℕ
joined_to sign centre zero = tabulate itself 12
joined_to sign centre (suc t) =
    merged_if (joined_by sign (centre (t / 6)) (t / 6)) (joined_to sign centre t) (pair_at t)

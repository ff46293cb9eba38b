-- The table of document 01, "Numbers a setter may read", with the numbers of document 02, Points 1 and 9: every number
-- that an operation refuses with, and 2, which keeps its place. Not a rule: the numbers and the sentences of the words
-- stand in rule_sheet/specs/Numbers, and each rule cites its words. That the numbers differ, and that the table has
-- every word, are laws in rule_exports/proofs/Refusals.
use Rattle.std.specs.Prelude.{List, [], ◌∷◌}
use Rattle.rule_sheet.specs.declared.Refusal.{Refusal}
use Rattle.rule_sheet.specs.declared.Refusal.TheVariants.{Box, Bottomless, Cells, Samples, Bare, Corner, Clash, Edge}
use Rattle.rule_sheet.specs.declared.Refusal.TheVariants.{Astray, Row, Normal, Large, Short, Trailer, Sum}

-- 1 box, 2 bottomless, 3 cells, 4 samples, 5 bare, 6 corner, 7 clash, 8 edge, 9 astray, 10 row, 11 normal, 12 large,
-- 13 short, 14 trailer, 17 sum
abbrev pub refusals : List Refusal
refusals =
    Box
    ∷ Bottomless
    ∷ Cells
    ∷ Samples
    ∷ Bare
    ∷ Corner
    ∷ Clash
    ∷ Edge
    ∷ Astray
    ∷ Row
    ∷ Normal
    ∷ Large
    ∷ Short
    ∷ Trailer
    ∷ Sum
    ∷ []

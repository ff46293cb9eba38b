-- Numbers in the order of their first use in a list.
use Rattle.std.specs.Prelude.{ℕ, suc, cond, List, [], ◌∷◌, ◌++◌, eqb}
use Rattle.rule_sheet.specs.Quads.{is, sum}

-- the numbers of a list in the order of their first use, behind those seen
abbrev pub firsts : List ℕ → List ℕ → List ℕ
firsts seen [] = seen
firsts seen (x ∷ l) = firsts (cond (eqb (sum (is x) seen) 0) (seen ++ (x ∷ [])) seen) l

-- where x first stands in a list
abbrev pub place : ℕ → List ℕ → ℕ
place x [] = 0
place x (y ∷ l) = cond (eqb x y) 0 (suc (place x l))

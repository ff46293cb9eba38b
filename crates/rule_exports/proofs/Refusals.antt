-- The numbers of the table differ, and a number tells its refusal. Assumes nothing.
use Prim.Native.Nat.{ℕ}
use mathlib.Core.Path.{◌≡◌, refl, ap, sym, ◌∙◌}
use mathlib.Core.Bool.{Bool, true, ◌&&◌, not, cond}
use mathlib.Core.List.{List, [], ◌∷◌, map}
use lib.Dec.{eqb}
use Rattle.rule_sheet.specs.declared.Refusal.{Refusal}
use Rattle.rule_sheet.specs.declared.Refusal.TheVariants.{Box, Bottomless, Cells, Samples, Bare, Corner, Clash, Edge}
use Rattle.rule_sheet.specs.declared.Refusal.TheVariants.{Astray, Row, Normal, Large, Short, Trailer, Sum}
use Rattle.rule_sheet.specs.Quads.{all}
use Rattle.rule_sheet.specs.Numbers.{refusal_number}
use Rattle.rule_exports.specs.Refusals.{refusals}

-- no number of a list stands in it twice
abbrev pub differ : List ℕ → Bool
differ [] = true
differ (x ∷ xs) = all (λ y. not (eqb x y)) xs && differ xs

pub refusals-differ : differ (map refusal_number refusals) ≡ true
refusals-differ = refl

-- the first refusal of a list with a number, else Box
abbrev first_with : List Refusal → ℕ → Refusal
first_with [] n = Box
first_with (r ∷ rs) n = cond (eqb (refusal_number r) n) r (first_with rs n)

-- the table has every refusal at its number
in-table : (r : Refusal) → first_with refusals (refusal_number r) ≡ r
in-table Box = refl
in-table Bottomless = refl
in-table Cells = refl
in-table Samples = refl
in-table Bare = refl
in-table Corner = refl
in-table Clash = refl
in-table Edge = refl
in-table Astray = refl
in-table Row = refl
in-table Normal = refl
in-table Large = refl
in-table Short = refl
in-table Trailer = refl
in-table Sum = refl

-- two refusals of one number are the same
pub number-tells : (r s : Refusal) → refusal_number r ≡ refusal_number s → r ≡ s
number-tells r s e = sym (in-table r) ∙ ap (first_with refusals) e ∙ in-table s

-- Folds and counts of a whole list. Assumes nothing.
use Prim.Native.Nat.{ℕ, ◌+◌}
use mathlib.Core.Path.{◌≡◌, refl, ap, ◌∙◌}
use mathlib.Core.Bool.{Bool, true, false, cond}
use mathlib.Core.List.{List, [], ◌∷◌, foldl}
use native.Mathlib.Omega.{arith}
use lib.ListN.{length}
use Rattle.std.specs.List.{fold, filter}
use Rattle.rule_sheet.specs.Quads.{sum, num}

-- a fold of std is one of the rules
pub fold-is : {A B : Type 0} (g : B → A → B) (w : B) (s : List A) → fold g w s ≡ foldl g w s
fold-is g w [] = refl
fold-is g w (x ∷ s) = fold-is g (g w x) s

-- the elements that pass a test, counted
cons-if : {A : Type 0} (b : Bool) (x : A) (s : List A) → length (cond b (x ∷ s) s) ≡ num b + length s
cons-if true x s = omega arith
cons-if false x s = omega arith

pub count-is : {A : Type 0} (test : A → Bool) (s : List A) → length (filter test s) ≡ sum (λ x. num (test x)) s
count-is test [] = refl
count-is test (x ∷ s) = cons-if (test x) x (filter test s) ∙ ap (λ (n : ℕ). num (test x) + n) (count-is test s)

-- What the tests of a sheet's labels and corners say. Assumes nothing.
use mathlib.Core.Path.{◌≡◌}
use mathlib.Core.Logic.{◌≢◌}
use mathlib.Core.Bool.{true, not}
use Prim.Native.Nat.{ℕ}
use mathlib.Core.List.{List, [], ◌∷◌}
use lib.Dec.{eqb, leb}
use borrow.Author.Tests.{eq-eqb, leb-true}
use Rattle.lists.proofs.Every.{and_left, and_right}
use Rattle.rule_sheet.specs.Quads.{Quad, quad, all}
use Rattle.rule_sheet.specs.Tests.{in_range, distinct, proper, low_label}
use Rattle.rule_sheet.specs.Claims.{Low, Differ, All}
use Rattle.rule_passes.proofs.Choices.{not-true}

-- the labels are low
pub low_of : (labels : List ℕ) → all low_label labels ≡ true → Low labels
unfolding Low
low_of [] e = tt
low_of (l ∷ labels) e = (leb-true l 7 (and_left (leb l 7) (all low_label labels) e), low_of labels (and_right (leb l 7) (all low_label labels) e))

-- two numbers that a test finds different
pub apart : (x y : ℕ) → not (eqb x y) ≡ true → x ≢ y
apart x y h p = not-true (eqb x y) h (eq-eqb x y p)

-- the corners of a quad differ
pub differ_of : (q : Quad) → distinct q ≡ true → Differ q
unfolding distinct
differ_of (quad a b c d) e = (apart a b (search (and_left, and_right)), apart a c (search (and_left, and_right)), apart a d (search (and_left, and_right)), apart b c (search (and_left, and_right)), apart b d (search (and_left, and_right)), apart c d (search (and_left, and_right)))

-- so do those of each quad of a sheet that 6 accepts
pub all-differ : (n : ℕ) (S : List Quad) → all (proper n) S ≡ true → All Differ S
unfolding All
all-differ n [] e = tt
all-differ n (q ∷ S) e =
    let p = and_left (proper n q) (all (proper n) S) e in
    (differ_of q (and_right (in_range n q) (distinct q) p), all-differ n S (and_right (proper n q) (all (proper n) S) e))

-- Lists joined one after the other, as those of the cells and of the edges of a grid. Assumes nothing.
use Prim.Native.Nat.{ℕ, zero, suc, ◌+◌, ◌≤◌, ◌<◌}
use mathlib.Core.Path.{◌≡◌}
use mathlib.Core.Logic.{⊎_elim}
use mathlib.Core.List.{List, ◌++◌}
use native.Mathlib.Omega.{arith}
use native.Mathlib.Numerals.{add-one}
use lib.ListN.{length, length-append}
use Rattle.lists.proofs.Laws.{eq-or-ne}
use Rattle.rule_sheet.specs.Edges.{join_to}

pub length-join : {A : Type 0} (f : ℕ → List A) (n : ℕ) → length (join_to f (n + 1)) ≡ length (join_to f n) + length (f n)
unfolding join_to
length-join f n = rw (add-one n) (length-append (join_to f n) (f n))

pub join-below : {A : Type 0} (f : ℕ → List A) (k n : ℕ) → k < n → length (join_to f k) + length (f k) ≤ length (join_to f n)
unfolding join_to
join-below f k zero h = absurd (omega arith)
join-below f k (suc n) h = ⊎_elim
    (λ (e : k ≡ n). rw e (let q = length-append (join_to f n) (f n) in omega arith))
    (λ (ne : k ≡ n → ⊥). let i = join-below f k n (omega arith) in let q = length-append (join_to f n) (f n) in omega arith)
    (eq-or-ne k n)

-- one list more
pub join-suc : {A : Type 0} (f : ℕ → List A) (k : ℕ) → join_to f (k + 1) ≡ join_to f k ++ f k
unfolding join_to
join-suc f k = rw (add-one k)

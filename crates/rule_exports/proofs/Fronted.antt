-- Stores one after the other put a list into the front of a slice. Assumes nothing.
use Prim.Native.Nat.{ℕ, suc, ◌≤◌}
use mathlib.Core.Path.{◌≡◌, refl, ap, ◌∙◌}
use mathlib.Core.List.{List, [], ◌∷◌}
use native.Mathlib.Omega.{arith}
use lib.ListN.{length, set}
use Rattle.rule_exports.specs.Measured.{fronted}

-- s with the elements of l stored from place k on
abbrev pub stores : {A : Type 0} → ℕ → List A → List A → List A
stores k [] s = s
stores k (x ∷ l) s = stores (suc k) l (set s k x)

stores-behind : {A : Type 0} (k : ℕ) (l : List A) (y : A) (s : List A) → stores (suc k) l (y ∷ s) ≡ y ∷ stores k l s
stores-behind k [] y s = refl
stores-behind k (x ∷ l) y s = stores-behind (suc k) l y (set s k x)

pub stores-front : {A : Type 0} (l s : List A) → length l ≤ length s → stores 0 l s ≡ fronted l s
unfolding fronted
stores-front [] s h = refl
stores-front (x ∷ l) [] h = absurd (omega arith)
stores-front (x ∷ l) (y ∷ s) h = stores-behind 0 l x s ∙ ap (λ r. x ∷ r) (stores-front l s (omega arith))

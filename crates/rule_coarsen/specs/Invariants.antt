-- What holds between the visits of a pass of merges. Not a rule: the laws of the rule need it.
use Rattle.std.specs.Prelude.{ℕ, ◌<◌, ◌≡◌, ◌⊎◌, Bool, true, cond, List, length, get_or, eqb}
use Rattle.rule_sheet.specs.Quads.{Quad, corners, at, uses}
use Rattle.rule_passes.specs.Choices.{none_quad}
use Rattle.rule_coarsen.specs.Merges.{Slot, out, slot}
use Rattle.lists.specs.Sort.{tabulate}
use Rattle.rule_sheet.specs.Flat.{quad_at}

-- a weight of quads at the slots
abbrev pub weigh : (Quad → ℕ) → Slot → ℕ
weigh F out = 0
weigh F (slot q) = F q

-- point v is barred
unfoldable pub Used : List Bool → ℕ → Type 0
Used us v = get_or us v true ≡ true

-- the pass's invariant: a quad that has, or had, an unbarred corner stands as it stood at the start
pub record MInv (S0 : List Quad) (S : List Slot) (U : ℕ → Type 0) : Type 0 where
  pub len : length S ≡ length S0
  pub same : (v : ℕ) → ¬ U v → (j : ℕ) → j < length S0 → (0 < weigh (corners (at v (λ p n. 1))) (get_or S j out))
      ⊎ (0 < uses v (get_or S0 j none_quad)) → get_or S j out ≡ slot (get_or S0 j none_quad)

-- quad q: out where its mark in R is not 0, else as it reads now
abbrev pub slot_at : List ℕ → List ℕ → ℕ → Slot
slot_at Q R q = cond (eqb (get_or R q 0) 0) (slot (quad_at Q q)) out

-- the first n quads
unfoldable pub slots_of : ℕ → List ℕ → List ℕ → List Slot
slots_of n Q R = tabulate (slot_at Q R) n

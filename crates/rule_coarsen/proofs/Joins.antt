-- The merges that the rule allows, as a relation, without their order and without the points; and sums over the points in use. Assumes nothing.
use mathlib.Core.Path.{◌≡◌}
use mathlib.Core.Logic.{◌⊎◌, ◌≢◌}
use mathlib.Core.Bool.{cond}
use Prim.Native.Nat.{ℕ, suc, ◌+◌, ◌*◌, ◌-◌, ◌≤◌, ◌<◌}
use mathlib.Core.List.{List}
use lib.Dec.{eqb}
use lib.ListN.{length, get_or}
use Rattle.rule_sheet.specs.Quads.{Quad, quad, valence, side, touches}
use Rattle.rule_sheet.proofs.Sums.{upto}
use Rattle.rule_sheet.specs.Squared.{sq}
use Rattle.rule_sheet.specs.Quads.{turn}
use Rattle.rule_passes.specs.Choices.{none_quad}
use Rattle.rule_sheet.specs.Claims.{Has}
use Rattle.rule_coarsen.specs.Merges.{Slot, out, slot, merged}

-- The sum of (quads there minus 4) squared over the points below n that are in use.
abbrev pub sq_used : ℕ → ℕ
sq_used k = cond (eqb k 0) 0 (sq k)

unfoldable pub squared_used : ℕ → List Quad → ℕ
squared_used n S = upto n (λ v. sq_used (valence S v))

-- The points below n that are in use.
unfoldable pub in_use : ℕ → List Quad → ℕ
in_use n S = upto n (λ v. cond (eqb (valence S v) 0) 0 1)

-- What the rule asks of a merge of the corners a and c of quad k = (a, b, c, d), all of it read from the sheet S0 at
-- the pass's start but for the quad itself. U are the barred points.
pub record Mergeable (S0 : List Quad) (labels : List ℕ) (S : List Slot) (U : ℕ → Type 0) (k a b c d : ℕ) : Type 0 where
  pub face : Quad
  pub from : ℕ
  pub stands : get_or S k out ≡ slot face
  pub corners_are : turn from face ≡ quad a b c d
  pub free_a : ¬ U a
  pub free_b : ¬ U b
  pub free_c : ¬ U c
  pub free_d : ¬ U d
  pub four_b : 4 ≤ valence S0 b
  pub four_d : 4 ≤ valence S0 d
  pub share : (x : ℕ) → x ≢ b → x ≢ d → (side S0 a x + side S0 x a ≡ 0) ⊎ (side S0 c x + side S0 x c ≡ 0)
  pub no_more : (j : ℕ) → j < length S0 → j ≢ k → Has (get_or S0 j none_quad) a → ¬ Has (get_or S0 j none_quad) c
  pub masks : (j : ℕ) → 0 < touches S0 labels a (2 * j) + touches S0 labels c (2 * j) → touches S0 labels a (2 * j + 1) + touches S0 labels c (2 * j + 1) ≡ 0
  pub gain : sq (valence S0 a + valence S0 c - 2) + (sq (valence S0 b - 1) + sq (valence S0 d - 1)) ≤ sq (valence S0 a) + (sq (valence S0 b) + (sq (valence S0 c) + sq (valence S0 d)))

-- A merge bars every corner of all quads at either point.
abbrev pub BarPoints : List Quad → (ℕ → Type 0) → ℕ → ℕ → ℕ → Type 0
BarPoints S0 U a c v = U v ⊎ ((j : ℕ) × (j < length S0) × (Has (get_or S0 j none_quad) a ⊎ Has (get_or S0 j none_quad) c) × Has (get_or S0 j none_quad) v)

pub data Merges (S0 : List Quad) (labels : List ℕ) : List Slot → (ℕ → Type 0) → List Slot → ℕ → Type 1 where
  done : {S : List Slot} {U : ℕ → Type 0} → Merges S0 labels S U S 0
  merge : {S S' : List Slot} {U U₁ : ℕ → Type 0} {n : ℕ} (k a b c d : ℕ) → Mergeable S0 labels S U k a b c d
      → ((v : ℕ) → BarPoints S0 U a c v → U₁ v) → Merges S0 labels (merged S k a c) U₁ S' n → Merges S0 labels S U S' (suc n)

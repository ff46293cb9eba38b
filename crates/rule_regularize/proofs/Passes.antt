-- The swaps that the rule allows, as relations: the swaps of a pass, without their order and without the points. Assumes nothing.
use mathlib.Core.Path.{◌≡◌}
use mathlib.Core.Logic.{◌⊎◌, ◌≢◌}
use Prim.Native.Nat.{ℕ, suc, ◌+◌, ◌≤◌}
use mathlib.Core.List.{List}
use lib.ListN.{get_or}
use Rattle.rule_sheet.specs.Quads.{Quad, quad, valence, side}
use Rattle.rule_sheet.specs.Claims.{Has}
use Rattle.rule_regularize.specs.Swaps.{swap_one, swap_two}
use Rattle.rule_sheet.specs.Quads.{turn}
use Rattle.rule_passes.specs.Choices.{none_quad}

-- The six corners differ.
pub record Six (h0 h1 h2 h3 h4 h5 : ℕ) : Type 0 where
  pub n01 : h0 ≢ h1
  pub n02 : h0 ≢ h2
  pub n03 : h0 ≢ h3
  pub n04 : h0 ≢ h4
  pub n05 : h0 ≢ h5
  pub n12 : h1 ≢ h2
  pub n13 : h1 ≢ h3
  pub n14 : h1 ≢ h4
  pub n15 : h1 ≢ h5
  pub n23 : h2 ≢ h3
  pub n24 : h2 ≢ h4
  pub n25 : h2 ≢ h5
  pub n34 : h3 ≢ h4
  pub n35 : h3 ≢ h5
  pub n45 : h4 ≢ h5

-- v is one of the six corners.
pub data OneOf (v h0 h1 h2 h3 h4 h5 : ℕ) : Type 0 where
  is0 : v ≡ h0 → OneOf v h0 h1 h2 h3 h4 h5
  is1 : v ≡ h1 → OneOf v h0 h1 h2 h3 h4 h5
  is2 : v ≡ h2 → OneOf v h0 h1 h2 h3 h4 h5
  is3 : v ≡ h3 → OneOf v h0 h1 h2 h3 h4 h5
  is4 : v ≡ h4 → OneOf v h0 h1 h2 h3 h4 h5
  is5 : v ≡ h5 → OneOf v h0 h1 h2 h3 h4 h5

-- What the rule asks of a swap before it looks at the diagonals. S0 is the sheet at the pass's start, S the sheet now,
-- B the barred quads.
pub record Hexagon (labels : List ℕ) (S : List Quad) (B : ℕ → Type 0) (i j h0 h1 h2 h3 h4 h5 : ℕ) : Type 0 where
  pub free_i : ¬ B i
  pub free_j : ¬ B j
  pub ei : ℕ
  pub ej : ℕ
  pub here_i : turn ei (get_or S i none_quad) ≡ quad h0 h3 h4 h5
  pub here_j : turn ej (get_or S j none_quad) ≡ quad h3 h0 h1 h2
  pub six : Six h0 h1 h2 h3 h4 h5
  pub agree : get_or labels i 8 ≡ get_or labels j 8

-- A swap bars every quad at its six corners, as they stood at the pass's start.
abbrev pub Bar : List Quad → (ℕ → Type 0) → ℕ → ℕ → ℕ → ℕ → ℕ → ℕ → ℕ → Type 0
Bar S0 B h0 h1 h2 h3 h4 h5 k = B k ⊎ ((v : ℕ) × OneOf v h0 h1 h2 h3 h4 h5 × Has (get_or S0 k none_quad) v)

-- The swaps of one pass over S0, from the sheet S with the quads B barred; c counts them. Half the gain is at least m:
-- 1 for regularize, 0 for improve_layout. A pass takes some of the swaps that its rule allows, and bars at
-- least what the rule bars (B₁).
pub data Pass (S0 : List Quad) (labels : List ℕ) (m : ℕ) : List Quad → (ℕ → Type 0) → List Quad → ℕ → Type 1 where
  stop : {S : List Quad} {B : ℕ → Type 0} → Pass S0 labels m S B S 0
  one : {S S' : List Quad} {B B₁ : ℕ → Type 0} {c : ℕ} (i j h0 h1 h2 h3 h4 h5 : ℕ) → Hexagon labels S B i j h0 h1 h2 h3 h4 h5
      → side S0 h1 h4 + side S0 h4 h1 ≡ 0 → valence S h1 + valence S h4 + 2 + m ≤ valence S h0 + valence S h3
      → ((k : ℕ) → Bar S0 B h0 h1 h2 h3 h4 h5 k → B₁ k) → Pass S0 labels m (swap_one S i j h0 h1 h2 h3 h4 h5) B₁ S' c → Pass S0 labels m S B S' (suc c)
  two : {S S' : List Quad} {B B₁ : ℕ → Type 0} {c : ℕ} (i j h0 h1 h2 h3 h4 h5 : ℕ) → Hexagon labels S B i j h0 h1 h2 h3 h4 h5
      → side S0 h2 h5 + side S0 h5 h2 ≡ 0 → valence S h2 + valence S h5 + 2 + m ≤ valence S h0 + valence S h3
      → ((k : ℕ) → Bar S0 B h0 h1 h2 h3 h4 h5 k → B₁ k) → Pass S0 labels m (swap_two S i j h0 h1 h2 h3 h4 h5) B₁ S' c → Pass S0 labels m S B S' (suc c)

-- The loop over the corners in the order of their edges is a pass of the rule. Assumes nothing.
use Prim.Native.Nat.{ℕ, ◌+◌, ◌*◌, ◌≤◌, ◌<◌}
use native.Mathlib.Nat.{zero-add}
use mathlib.Core.Path.{◌≡◌, refl, sym, ap, ap₂, ◌∙◌}
use mathlib.Core.Bool.{Bool, true, false}
use mathlib.Core.List.{List}
use native.Mathlib.Omega.{arith}
use lib.ListN.{length, take}
use lib.Ieee.{Float}
use Rattle.lists.specs.Regions.{Out, Kept}
use Rattle.lists.proofs.Regions.{part_of, part-len, part-kept, kept_refl, kept_then}
use Rattle.rule_sheet.specs.Quads.{Quad}
use Rattle.rule_sheet.specs.Flat.{quads_of}
use Rattle.rule_sheet.specs.Edges.{edges_of}
use Rattle.sheet.proofs.Flat.{length-quads}
use Rattle.incidence.specs.Corners.{edge_order}
use Rattle.edges.specs.Steps.{pair_at}
use Rattle.rule_regularize.specs.Swaps.{State, sweep, fresh, swap_pass}
use Rattle.regularize_swap.specs.Steps.{step_at, steps_from}
use Rattle.pass_map.specs.Regions.{edges_in, was_at, edges_at, valences_at, was_in, start_in}
use Rattle.regularize_swap.specs.Regions.{state_of, edge_corner}
use Rattle.regularize_swap.specs.Conditions.{BeginPassLeaves}
use Rattle.regularize_swap.proofs.Fold.{steps-zero, steps-suc, steps-sweep}
use Rattle.regularize_pass.specs.declared.Trial.{Trial}
use Rattle.regularize_pass.specs.Steps.{fits_in, try_in, step_in, pass_in}
use Rattle.regularize_pass.specs.Conditions.{TryAsks, StepLeaves, SwapPassLeaves}

-- ---- one place

module _ {np nq : ℕ} {t : Trial} {P : List Float} {Q labels w : List ℕ} (T : TryAsks np nq t P Q labels w) (i count : ℕ) where
  pub no-pair : (b : Bool) → b ≡ pair_at (was_in np nq w) (4 * nq) (edges_in np nq w) i → b ≡ false → StepLeaves np nq (step_in np nq t P labels w i) count count Q w Q w
  unfolding step_at
  no-pair b e z =
      let no : pair_at (was_in np nq w) (4 * nq) (edges_in np nq w) i ≡ false = sym e ∙ z in
      record { holds = T.holds; is = rw no refl; kept = kept_refl _ w; most = omega arith }

  pub a_pair : {R w' : List ℕ} {r : ℕ} (b : Bool) (c d : ℕ) → b ≡ pair_at (was_in np nq w) (4 * nq) (edges_in np nq w) i → b ≡ true
      → c ≡ edge_corner np nq w i → d ≡ edge_corner np nq w (i + 1) → StepLeaves np nq (try_in np nq t P labels w c d) count r Q w R w' → StepLeaves np nq (step_in np nq t P labels w i) count r Q w R w'
  unfolding step_at
  a_pair {R} {w'} {r} b c d e z ec ed S =
      let yes : pair_at (was_in np nq w) (4 * nq) (edges_in np nq w) i ≡ true = sym e ∙ z in
      record {
        holds = S.holds;
        is = rw yes (S.is ∙ ap₂ (λ (x y : ℕ). try_in np nq t P labels w x y (state_of np nq Q w count)) ec ed);
        kept = S.kept;
        most = S.most;
      }

-- ---- the loop: Q and v are the slices as the pass begins

module _ (np nq : ℕ) (t : Trial) (P : List Float) (labels v : List ℕ) where
  abbrev step : State → ℕ → State
  step = step_at (start_in np nq v) (take nq labels) t.least (fits_in t np nq P labels) (was_in np nq v) (4 * nq) (edges_in np nq v)

pub record Sweeping (np nq : ℕ) (t : Trial) (P : List Float) (labels Q v R w : List ℕ) (count i : ℕ) : Type 0 where
  pub few : nq ≤ 1048576
  pub count≤ : count ≤ i
  pub len : length R ≡ length Q
  pub begun : BeginPassLeaves np nq Q v
  pub trying : TryAsks np nq t P R labels w
  pub kept : Kept (Out (valences_at np nq) (2 * (np + nq))) v w
  pub is : state_of np nq R w count ≡ steps_from (step np nq t P labels v) 0 i (fresh (quads_of nq Q))

pub sweeping-start : {np nq : ℕ} {t : Trial} {P : List Float} {labels Q v : List ℕ} → BeginPassLeaves np nq Q v → TryAsks np nq t P Q labels v → Sweeping np nq t P labels Q v Q v 0 0
sweeping-start {np} {nq} {t} {P} {labels} {Q} {v} B T = let s : state_of np nq Q v 0 ≡ fresh (quads_of nq Q) = rw (B.bars, length-quads nq Q) in record {
  few = T.holds.sheet.few;
  count≤ = omega arith;
  len = refl;
  begun = B;
  trying = T;
  kept = kept_refl _ v;
  is = s ∙ sym (steps-zero (step np nq t P labels v) 0 (fresh (quads_of nq Q)));
}

module _ {np nq : ℕ} {t : Trial} {P : List Float} {labels Q v R w : List ℕ} {count i : ℕ} (L : Sweeping np nq t P labels Q v R w count i) where
  start-same : was_in np nq w ≡ was_in np nq v
  start-same = (part-kept (part_of (was_at np nq) (4 * nq) v L.begun.holds.map.edges.in_was) L.kept (λ l p q r s. omega arith)).is

  edges-same : edges_in np nq w ≡ edges_in np nq v
  edges-same = (part-kept (part_of (edges_at np nq) (4 * nq) v L.begun.holds.map.edges.at.fits) L.kept (λ l p q r s. omega arith)).is

  pub sweeping-turn : {R' w' : List ℕ} {r : ℕ} → i < 4 * nq → length R' ≡ length R → StepLeaves np nq (step_in np nq t P labels w i) count r R w R' w' → Sweeping np nq t P labels Q v R' w' r (i + 1)
  sweeping-turn {R'} {w'} {r} h e S = record {
    few = L.few;
    count≤ = omega (arith, S.most, L.count≤);
    len = e ∙ L.len;
    begun = L.begun;
    trying = record { holds = S.holds; points = L.trying.points; labels≤ = L.trying.labels≤; least≤ = L.trying.least≤ };
    kept = kept_then L.kept S.kept (λ l o. (o, o));
    is = S.is
        ∙ ap₂ (λ (A B : List ℕ). step_at (quads_of nq A) (take nq labels) t.least (fits_in t np nq P labels) A (4 * nq) B (state_of np nq R w count) i) start-same edges-same
        ∙ ap (λ (s : State). step np nq t P labels v s i) L.is
        ∙ ap (step np nq t P labels v (steps_from (step np nq t P labels v) 0 i (fresh (quads_of nq Q)))) (sym (zero-add i))
        ∙ sym (steps-suc (step np nq t P labels v) 0 i (fresh (quads_of nq Q)));
  }

  all-steps : steps_from (step np nq t P labels v) 0 (4 * nq) (fresh (quads_of nq Q)) ≡ pass_in np nq t P labels (quads_of nq Q)
  unfolding swap_pass
  all-steps =
      let M = L.begun.holds.map.edges in
      let A = was_in np nq v in
      let E = edge_order np nq A in
      let n : 4 * nq ≡ length E = sym (part-len M.at) in
      ap₂ (λ (k : ℕ) (l : List ℕ). steps_from (step_at (quads_of nq A) (take nq labels) t.least (fits_in t np nq P labels) A k l) 0 k (fresh (quads_of nq Q))) n M.at.is
      ∙ steps-sweep np nq A (take nq labels) t.least (fits_in t np nq P labels) (fresh (quads_of nq Q))
      ∙ ap (λ (S : List Quad). sweep S (take nq labels) t.least (fits_in t np nq P labels) (fresh (quads_of nq Q)) (edges_of np S)) L.begun.start

  pub sweeping-end : i ≡ 4 * nq → SwapPassLeaves np nq t P labels Q R count
  sweeping-end e =
      let z : state_of np nq R w count ≡ pass_in np nq t P labels (quads_of nq Q) = L.is ∙ ap (λ (k : ℕ). steps_from (step np nq t P labels v) 0 k (fresh (quads_of nq Q))) e ∙ all-steps in
      record { sheet = L.trying.holds.sheet; differ = L.trying.holds.differ; quads = ap (λ (s : State). s.quads) z; count = ap (λ (s : State). s.count) z }

-- Passes one after the other are the rule's run; the count is capped after each. Assumes nothing.
use Prim.Native.Nat.{ℕ, suc, ◌+◌, ◌≤◌}
use mathlib.Core.Path.{◌≡◌, refl, sym, ap, ap₂, ◌∙◌}
use mathlib.Core.Bool.{false}
use mathlib.Core.List.{List}
use native.Mathlib.Omega.{arith}
use lib.Dec.{eqb}
use lib.ListN.{length, take}
use lib.Ieee.{Float}
use borrow.Author.Tests.{eq-eqb, ne_eqb}
use Rattle.rule_sheet.specs.Quads.{Quad}
use Rattle.rule_sheet.specs.Flat.{quads_of}
use Rattle.rule_passes.specs.Runs.{run, capped}
use Rattle.rule_sheet.specs.Outcomes.{RunEnd}
use Rattle.rule_passes.proofs.Runs.{idle, capped-add}
use Rattle.rule_regularize.proofs.Sweep.{pass-none}
use Rattle.regularize_pass.specs.declared.Trial.{Trial}
use Rattle.regularize_pass.specs.Steps.{fits_in, pass_in}
use Rattle.regularize_pass.specs.Conditions.{SwapPassAsks, SwapPassLeaves}
use Rattle.regularize.specs.Clauses.{RunPassesLeaves}

module _ (np nq : ℕ) (t : Trial) (P : List Float) (labels : List ℕ) where
  -- the count of a pass over S, and the quads that it leaves
  abbrev count_of : List Quad → ℕ
  count_of S = (pass_in np nq t P labels S).count

  abbrev next_of : List Quad → List Quad
  next_of S = (pass_in np nq t P labels S).quads

  -- what is left of the run
  abbrev pub run_from : ℕ → List Quad → ℕ → RunEnd (List Quad)
  run_from k S c = run count_of next_of k S c

-- after some passes: `left` of them may follow, and end as all k passes over the quads of Q
pub record Running (np nq : ℕ) (t : Trial) (P : List Float) (labels : List ℕ) (k : ℕ) (Q v R w : List ℕ) (total left : ℕ) : Type 0 where
  pub passable : SwapPassAsks np nq t P R labels w
  pub len : length R ≡ length Q
  pub room : length w ≡ length v
  pub swaps : ℕ
  pub total_is : total ≡ capped swaps
  pub same : run_from np nq t P labels left (quads_of nq R) swaps ≡ run_from np nq t P labels k (quads_of nq Q) 0

pub running-start : {np nq : ℕ} {t : Trial} {P : List Float} {labels : List ℕ} {k : ℕ} {Q v : List ℕ} → SwapPassAsks np nq t P Q labels v → Running np nq t P labels k Q v Q v 0 k
running-start A = record { passable = A; len = refl; room = refl; swaps = 0; total_is = omega arith; same = refl }

module _ {np nq : ℕ} {t : Trial} {P : List Float} {labels : List ℕ} {k : ℕ} {Q v R w : List ℕ} {total left : ℕ} (G : Running np nq t P labels k Q v R w total left) where
  abbrev S : List Quad
  S = quads_of nq R

  ends_as : {R' : List ℕ} → quads_of nq R' ≡ S → run_from np nq t P labels left S G.swaps ≡ record { left = S; count = G.swaps } → RunPassesLeaves np nq t P labels k Q R' total
  ends_as e f =
      let a = sym G.same ∙ f in
      record { quads = e ∙ ap (λ (x : RunEnd (List Quad)). x.left) (sym a); count = G.total_is ∙ ap (λ (x : RunEnd (List Quad)). capped x.count) (sym a) }

  -- no pass is left
  pub running-end : left ≤ 0 → RunPassesLeaves np nq t P labels k Q R total
  running-end h = let z : left ≡ 0 = omega arith in ends_as refl (ap (λ (l : ℕ). run_from np nq t P labels l S G.swaps) z)

  module _ {R' : List ℕ} {count : ℕ} (D : SwapPassLeaves np nq t P labels R R' count) where
    -- a pass that swaps nothing is the last
    pub running_none : count ≡ 0 → RunPassesLeaves np nq t P labels k Q R' total
    running_none e =
        let z : count_of np nq t P labels S ≡ 0 = sym D.count ∙ e in
        ends_as (D.quads ∙ (pass-none np (take nq labels) t.least (fits_in t np nq P labels) S z).0)
        (idle (count_of np nq t P labels) (next_of np nq t P labels) left S G.swaps (eq-eqb _ 0 z))

    one_more : (l : ℕ) → left ≡ suc l → (count ≡ 0 → ⊥) → run_from np nq t P labels left S G.swaps ≡ run_from np nq t P labels l (quads_of nq R') (G.swaps + count)
    one_more l e n =
        let z : eqb (count_of np nq t P labels S) 0 ≡ false = ne_eqb _ 0 (λ f. n (D.count ∙ f)) in
        ap (λ (x : ℕ). run_from np nq t P labels x S G.swaps) e ∙ step z ∙ ap₂ (λ (T : List Quad) (c : ℕ). run_from np nq t P labels l T (G.swaps + c)) (sym D.quads) (sym D.count)
      where
        step : eqb (count_of np nq t P labels S) 0 ≡ false
            → run_from np nq t P labels (suc l) S G.swaps ≡ run_from np nq t P labels l (next_of np nq t P labels S) (G.swaps + count_of np nq t P labels S)
        step z = rw (z, run) refl

    pub running_more : {w' : List ℕ} {more l : ℕ} → left ≡ suc l → (count ≡ 0 → ⊥) → length R' ≡ length R → length w' ≡ length w → more ≡ capped (total + count)
        → Running np nq t P labels k Q v R' w' more l
    running_more {w'} {more} {l} h n er ew e = record {
      passable = record {
        sheet = D.sheet;
        differ = D.differ;
        room = record { some = G.passable.room.some; few = G.passable.room.few; long = omega (arith, G.passable.room.long) };
        points = G.passable.points;
        labels≤ = G.passable.labels≤;
        least≤ = G.passable.least≤;
      };
      len = er ∙ G.len;
      room = ew ∙ G.room;
      swaps = G.swaps + count;
      total_is = e ∙ ap (λ (x : ℕ). capped (x + count)) G.total_is ∙ capped-add G.swaps count;
      same = sym (one_more l h n) ∙ G.same;
    }

-- What any passes leave of an accepted sheet is accepted and no larger; passes one after the other. Assumes nothing.
use Prim.Native.Nat.{ℕ, suc, ◌+◌, ◌≤◌}
use mathlib.Core.Path.{◌≡◌, refl, ap, ◌∙◌}
use mathlib.Core.Bool.{Bool, true, false}
use mathlib.Core.List.{List}
use native.Mathlib.Omega.{arith}
use lib.Dec.{eqb}
use lib.ListN.{length}
use lib.Seq.{length-take-le}
use lib.Ieee.{Float}
use borrow.Author.Tests.{le-ltb, eqb-false}
use Rattle.setting.specs.Settings.{Setting}
use Rattle.rule_sheet.specs.declared.Counts.{Counts}
use Rattle.rule_sheet.specs.Sheet.{Sheet, sheet_of, counts_of, sheet_verdict}
use Rattle.rule_sheet.specs.Lent.{limit, is_large}
use Rattle.rule_sheet.specs.Outcomes.{RunEnd}
use Rattle.rule_passes.specs.Runs.{run}
use Rattle.rule_passes.proofs.Runs.{idle, run-split, run-from}
use Rattle.rule_coarsen.specs.Coarse.{merge_pass, next_sheet}
use Rattle.rule_coarsen.specs.MergeFits.{merge_fits, merge_position}
use Rattle.rule_coarsen.specs.Rule.{coarse_sheet}
use Rattle.sheet.specs.Sheet.{Few, LentSheet}
use Rattle.sheet.proofs.Flat.{length-quads}
use Rattle.sheet.proofs.Tests.{length-points, tested, tests-accept}
use Rattle.coarsen_shapes.proofs.MergeFits.{merge-finite}
use Rattle.safety_rules.proofs.Fine.{Fine, fine_of, accepted-of}
use Rattle.safety_rules.proofs.Demand.{coarse-fine, coarse-fewer}
use Rattle.rule_sheet.specs.Verdicts.{Accepted}

pub not_large : (c : Counts) → Few c → is_large c ≡ false
unfolding is_large
not_large c f = rw (le-ltb limit c.points f.points≤, le-ltb limit c.quads f.quads≤, le-ltb limit c.labels f.labels≤)

-- ---- the sheet in lent slices

pub counts_of_lem : (c : Counts) (P : List Float) (Q labels : List ℕ) → c.labels ≤ length labels → counts_of (sheet_of c P Q labels) ≡ c
counts_of_lem c P Q labels h = rw (length-points c.points P, length-quads c.quads Q, length-take-le c.labels labels h)

pub fine-by : (c : Counts) (P : List Float) (Q labels : List ℕ) → LentSheet c (length P) (length Q) (length labels) → sheet_verdict (sheet_of c P Q labels) ≡ Accepted → Fine (sheet_of c P Q labels)
fine-by c P Q labels L e =
    let t = tested (sheet_of c P Q labels) e in
    fine_of (sheet_of c P Q labels) (record { not_large = rw (counts_of_lem c P Q labels L.labels) (not_large c L.few); not_bare = t.not_bare; corners = t.corners; masks = t.masks })

module _ (s : Setting) where
  -- ---- what passes leave

  pub passes-fine : (k : ℕ) (t : Sheet) → Fine t → Fine (coarse_sheet s k t).left
  passes-fine k t f = coarse-fine (merge_fits s) (merge_position s) (merge-finite s) k t f

  pub passes-accepted : (k : ℕ) (t : Sheet) → Fine t → sheet_verdict (coarse_sheet s k t).left ≡ Accepted
  passes-accepted k t f = let a = accepted-of _ (passes-fine k t f) in tests-accept _ (record { not_bare = a.not_bare; corners = a.corners; masks = a.masks })

  -- no more points, and as many quads less as merges were made
  pub passes-fewer : (k : ℕ) (t : Sheet) → Fine t → (length (coarse_sheet s k t).left.points ≤ length t.points) × (length (coarse_sheet s k t).left.quads + (coarse_sheet s k t).count ≡ length t.quads)
  passes-fewer k t f = coarse-fewer (merge_fits s) (merge_position s) (merge-finite s) k t f

  -- ---- passes one after the other

  -- the merges of a pass, and what it leaves
  abbrev merges : Sheet → ℕ
  merges t = (merge_pass (merge_fits s) (merge_position s) t).count

  abbrev next : Sheet → Sheet
  next t = next_sheet (merge_pass (merge_fits s) (merge_position s)) t

  -- at most k passes over t, after m merges
  abbrev pub run_from : ℕ → Sheet → ℕ → RunEnd Sheet
  run_from k t m = run merges next k t m

  -- one pass, and then l
  pub run-next : (l : ℕ) (t : Sheet) (m : ℕ) → run_from (suc l) t m ≡ run_from l (coarse_sheet s 1 t).left (m + (coarse_sheet s 1 t).count)
  run-next l t m =
      let e : run_from 1 t m ≡ record { left = (coarse_sheet s 1 t).left; count = m + (coarse_sheet s 1 t).count } = ap (run_from 1 t) (plus m) ∙ run-from merges next 1 t m 0 in
      ap (λ (n : ℕ). run_from n t m) (one l) ∙ run-split merges next 1 l t m ∙ ap (λ (a : RunEnd Sheet). run_from l a.left a.count) e
    where
      plus : (m : ℕ) → m ≡ m + 0
      plus m = omega arith

      one : (l : ℕ) → suc l ≡ 1 + l
      one l = omega arith

  -- a pass that merges nothing is the last, and leaves the sheet
  pub run-last : (l : ℕ) (t : Sheet) (m : ℕ) → (coarse_sheet s 1 t).count ≡ 0 → (run_from l t m ≡ record { left = t; count = m }) × ((coarse_sheet s 1 t).left ≡ t)
  run-last l t m e = let z = go (eqb (merges t) 0) refl e in (idle merges next l t m z, ap (λ (a : RunEnd Sheet). a.left) (idle merges next 1 t 0 z))
    where
      go : (y : Bool) → eqb (merges t) 0 ≡ y → (elim y as (λ z. RunEnd Sheet) [ true ↦ record { left = t; count = 0 } | false ↦ record { left = next t; count = 0 + merges t } ]).count ≡ 0
          → eqb (merges t) 0 ≡ true
      go true e h = e
      go false e h = absurd (eqb-false (merges t) 0 e (omega arith))

-- One pass over an accepted sheet in slices, and the renumbering after it, are the rule's. Assumes nothing.
use Prim.Native.Nat.{ℕ, ◌+◌, ◌*◌}
use mathlib.Core.Path.{◌≡◌, refl, sym, ap, ap₂, ◌∙◌}
use mathlib.Core.Bool.{true, false}
use mathlib.Core.List.{List}
use native.Mathlib.Omega.{arith}
use lib.Dec.{eqb}
use lib.ListN.{length, take}
use lib.Seq.{length-take-le}
use lib.Ieee.{Float}
use borrow.Author.Tests.{eq-eqb, ne_eqb}
use Rattle.lists.specs.Every.{every}
use Rattle.points.specs.declared.Point.{Point}
use Rattle.band.specs.declared.Band.{Band}
use Rattle.rule_sheet.specs.declared.Counts.{Counts}
use Rattle.rule_sheet.specs.Quads.{Quad}
use Rattle.rule_sheet.specs.Flat.{quads_of}
use Rattle.rule_sheet.specs.Tests.{good_corners}
use Rattle.sheet.specs.Tests.{good_quad_at}
use Rattle.rule_sheet.specs.Sheet.{Sheet, sheet_of}
use Rattle.sheet.proofs.Flat.{length-quads}
use Rattle.sheet.proofs.Tests.{length-points, corners-tested}
use Rattle.sheet.specs.Results.{HoldsCounts}
use Rattle.sheet.proofs.Results.{length-flat-points, length-flat-quads}
use Rattle.sheet.proofs.Fronts.{points-front, quads-front}
use Rattle.rule_passes.specs.Runs.{run}
use Rattle.rule_sheet.specs.Outcomes.{RunEnd}
use Rattle.rule_passes.proofs.Runs.{idle}
use Rattle.rule_coarsen.specs.Merges.{Slot}
use Rattle.rule_coarsen.specs.Coarse.{MergeState, compact, next_sheet}
use Rattle.coarsen_merge.specs.Regions.{removed_at, removed_in}
use Rattle.coarsen_compact.specs.Compact.{compacted, Begins, Compacting}
use Rattle.rule_coarsen.specs.Invariants.{slots_of}
use Rattle.safety_rules.proofs.Fine.{Fine, accepted-of}
use Rattle.coarsen_pass.specs.Steps.{sheet_in, band_pass}
use Rattle.coarsen_pass.specs.Conditions.{MergePassAsks, MergePassLeaves}
use Rattle.coarsen_pass.proofs.Pass.{passed_none}
use Rattle.rule_coarsen.specs.Rule.{coarse_sheet}
use Rattle.coarsen_passes.specs.Passes.{Coarsenable, Remains}
use Rattle.coarsen_passes.proofs.Fine.{fine-by}

-- slices that begin with a sheet hold it
begins-sheet : {s : Sheet} {d : Counts} {P : List Float} {Q labels : List ℕ} → Begins s d P Q labels → sheet_of d P Q labels ≡ s
begins-sheet {s} {d} {P} {Q} {labels} B =
    rw B.counts (rw (points-front s.points P (length s.points) B.points refl, quads-front s.quads Q (length s.quads) B.quads refl, B.labelled.is) refl)

begins-room : {s : Sheet} {d : Counts} {P : List Float} {Q labels : List ℕ} → Begins s d P Q labels → HoldsCounts d (length P) (length Q) (length labels)
begins-room {s} B =
    rw B.counts (record {
      points = omega (arith, B.points.fits, length-flat-points s.points);
      quads = omega (arith, B.quads.fits, length-flat-quads s.quads);
      labels = B.labelled.fits;
    })

module _ {c : Counts} {P : List Float} {Q labels w : List ℕ} {f : ℕ} (A : Coarsenable 1 c P Q labels w f) where
  -- the sheet
  abbrev held : Sheet
  held = sheet_of c P Q labels

  pub fine : Fine held
  fine = fine-by c P Q labels A.sheet (A.accepted (omega arith))

  same_count : c.labels ≡ c.quads
  same_count = sym (length-take-le c.labels labels A.sheet.labels) ∙ fine.labelled ∙ length-quads c.quads Q

  all-good : every (good_quad_at c.points Q labels) c.quads ≡ true
  all-good =
      let g : good_corners c.points (quads_of c.quads Q) (take c.labels labels) ≡ true = rw (length-points c.points P) at (accepted-of held fine).corners in
      corners-tested c.points c.quads Q labels (omega (arith, same_count, A.sheet.labels)) ∙ rw same_count at g

  pub mergeable : MergePassAsks c.points c.quads P Q labels w
  mergeable = record {
    few = A.sheet.few.points≤;
    few_quads = A.sheet.few.quads≤;
    some = omega (arith, fine.some_quads, length-quads c.quads Q);
    points = A.sheet.points;
    quads = A.sheet.quads;
    labelled = omega (arith, same_count, A.sheet.labels);
    good = all-good;
    work = A.work.work;
  }

  sheet-in : sheet_in c.points c.quads P Q labels ≡ held
  sheet-in = rw (← same_count) refl

  -- after a pass with r merges
  module _ {b : Band} {r : ℕ} {P' : List Float} {Q' w' : List ℕ} (D : MergePassLeaves b c.points c.quads (sheet_in c.points c.quads P Q labels) r P' Q' w') where
    pass_of : band_pass b (sheet_in c.points c.quads P Q labels) ≡ band_pass b held
    pass_of = ap (band_pass b) sheet-in

    counted : (band_pass b held).count ≡ r
    counted = sym (D.count ∙ ap (λ (t : MergeState). t.count) pass_of)

    -- none
    run_none : r ≡ 0 → coarse_sheet b 1 held ≡ record { left = held; count = 0 }
    unfolding band_pass
    run_none e = idle (λ (t : Sheet). (band_pass b t).count) (next_sheet (band_pass b)) 1 held 0 (eq-eqb _ 0 (counted ∙ e))

    pub once-none : r ≡ 0 → length P' ≡ length P → length Q' ≡ length Q → Remains (coarse_sheet b 1 held) (record { count = r; sheet = c }) P' Q' labels
    once-none e lp lq = let n = passed_none D e in record {
      count = e ∙ ap (λ (a : RunEnd Sheet). a.count) (sym (run_none e));
      sheet = ap₂ (λ (ps : List Point) (S : List Quad). record { points = ps; quads = S; labels = take c.labels labels }) n.0 n.1 ∙ ap (λ (a : RunEnd Sheet). a.left) (sym (run_none e));
      room = record { points = omega (arith, A.sheet.points); quads = omega (arith, A.sheet.quads); labels = A.sheet.labels };
    }

    -- some
    run-some : (r ≡ 0 → ⊥) → coarse_sheet b 1 held ≡ record { left = next_sheet (band_pass b) held; count = 0 + (band_pass b held).count }
    unfolding band_pass
    run-some n = step (ne_eqb _ 0 (λ e. n (sym counted ∙ e)))
      where
        step : eqb (band_pass b held).count 0 ≡ false
            → coarse_sheet b 1 held ≡ record { left = next_sheet (band_pass b) held; count = 0 + (band_pass b held).count }
        step z = rw (z, run) refl

    slots-are : slots_of c.quads Q' (removed_in c.points c.quads w') ≡ (band_pass b held).slots
    slots-are = D.slots ∙ ap (λ (t : MergeState). t.slots) pass_of

    next_is : compacted c.points c.quads P' Q' labels (removed_in c.points c.quads w') ≡ next_sheet (band_pass b) held
    next_is =
        ap₂ (λ (S : List Slot) (ps : List Point). compact S (take c.quads labels) ps) slots-are (D.points ∙ ap (λ (t : MergeState). t.points) pass_of)
        ∙ ap (λ (k : ℕ). compact (band_pass b held).slots (take k labels) (band_pass b held).points) (sym same_count)

    pub compacting : length P' ≡ length P → length w' ≡ length w → Compacting c.points c.quads (length P') Q' (length labels) (removed_at c.points c.quads) (24 * (c.points + c.quads)) w' f
    compacting lp lw = record {
      sheet = D.sheet;
      points = A.sheet.few.points≤;
      held = omega (arith, A.sheet.points);
      labels = omega (arith, same_count, A.sheet.labels);
      floats = omega (arith, A.work.floats);
      in_removed = omega (arith, A.work.work);
      in_numbers = omega (arith, A.work.work);
    }

    pub once-some : {d : Counts} {P'' : List Float} {Q'' labels'' : List ℕ} → (r ≡ 0 → ⊥) → Begins (compacted c.points c.quads P' Q' labels (removed_in c.points c.quads w')) d P'' Q'' labels''
        → Remains (coarse_sheet b 1 held) (record { count = r; sheet = d }) P'' Q'' labels''
    once-some {d} {P''} {Q''} {labels''} n B = record {
      count = let e = ap (λ (a : RunEnd Sheet). a.count) (run-some n) in omega (arith, e, counted);
      sheet = begins-sheet B ∙ next_is ∙ ap (λ (a : RunEnd Sheet). a.left) (sym (run-some n));
      room = begins-room B;
    }

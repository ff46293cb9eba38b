-- The answers are the rule's, and so are the slices once what lies behind the sheet is cleared. Assumes nothing.
use Prim.Native.Nat.{ℕ, zero, suc, ◌*◌}
use mathlib.Core.Path.{◌≡◌, refl, sym, ap, ap₂, ◌∙◌}
use mathlib.Core.List.{List}
use native.Mathlib.Omega.{arith}
use lib.ListN.{length}
use lib.Seq.{length-take-le}
use lib.Ieee.{Float}
use borrow.Author.Tests.{ne_eqb}
use Rattle.numeric.specs.Num.{zero_f}
use Rattle.setting.specs.Settings.{Setting}
use Rattle.rule_sheet.specs.declared.Counts.{Counts}
use Rattle.rule_sheet.specs.declared.Tally.{Tally}
use Rattle.rule_sheet.specs.Flat.{flat_quads}
use Rattle.rule_sheet.specs.Sheet.{Sheet, flat_points, counts_of}
use Rattle.rule_sheet.specs.Lent.{Lent, Work, held, room_in, lent_verdict}
use Rattle.rule_sheet.specs.Outcomes.{gives, RunEnd}
use Rattle.rule_sheet.specs.Results.{padded, shown_counts, Alters}
use Rattle.rule_admission.specs.Admission.{setting_verdict, admits}
use Rattle.rule_coarsen.specs.Rule.{coarse_sheet, coarsen_verdict, coarsen_rule}
use Rattle.sheet.specs.Results.{cleared, Fills}
use Rattle.sheet.proofs.Tests.{lent_is}
use Rattle.sheet.proofs.Results.{fills-leaves}
use Rattle.sheet.proofs.Fronts.{front-points, front-quads}
use Rattle.admission.proofs.Admitted.{admitted}
use Rattle.coarsen_passes.specs.Passes.{Coarsenable, Remains}
use Rattle.coarsen_passes.proofs.Fine.{counts_of_lem}
use Rattle.std.specs.Prelude.{Ok, Err}
use Rattle.rule_sheet.specs.Verdicts.{Verdict, Accepted}
use Rattle.rule_sheet.specs.declared.Refusal.{Refusal}

-- ---- what the passes leave, once it is cleared behind the sheet

module _ {a : RunEnd Sheet} {t : Tally} {P : List Float} {Q labels : List ℕ} (R : Remains a t P Q labels) where
  counts : t.sheet ≡ counts_of a.left
  counts = sym (counts_of_lem t.sheet P Q labels R.room.labels) ∙ ap counts_of R.sheet

  fills : Fills (gives a.left) (Ok (record { count = 0; sheet = t.sheet })) P Q labels
  fills = record {
    answer = ap (λ (c : Counts). Ok (record { count = 0; sheet = c })) counts;
    points = rw (← R.sheet) (front-points t.sheet.points P R.room.points);
    quads = rw (← R.sheet) (front-quads t.sheet.quads Q R.room.quads);
    labelled = rw (← R.sheet) (record { fits = omega (arith, length-take-le t.sheet.labels labels R.room.labels); is = rw (length-take-le t.sheet.labels labels R.room.labels) refl });
  }

  remains-alters : (x : Lent) → length P ≡ length x.points → length Q ≡ length x.quads → length labels ≡ length x.labels
      → Alters (gives a) x (Ok t) (cleared zero_f (3 * t.sheet.points) P) (cleared 0 (4 * t.sheet.quads) Q) (cleared 0 t.sheet.labels labels)
  unfolding shown_counts
  remains-alters x lp lq ll = let F = fills-leaves fills in record {
    answer = ap₂ (λ (n : ℕ) (d : Counts). Ok (record { count = n; sheet = d })) R.count counts;
    points = F.points ∙ ap (λ (n : ℕ). padded zero_f n (flat_points a.left.points)) lp;
    quads = F.quads ∙ ap (λ (n : ℕ). padded 0 n (flat_quads a.left.quads)) lq;
    labelled = F.labelled ∙ ap (λ (n : ℕ). padded 0 n a.left.labels) ll;
  }

-- ---- the tests, and the answers

module _ (s : Setting) (k : ℕ) (x : Lent) (w : Work) where
  pub verdict-zero : {r : Verdict} → k ≡ 0 → r ≡ lent_verdict x.counts (room_in x) w → r ≡ coarsen_verdict s k x w
  unfolding coarsen_verdict
  verdict-zero z e = rw z e

  pub verdict-some : {r : Verdict} → (k ≡ 0 → ⊥) → r ≡ admits s x w → r ≡ coarsen_verdict s k x w
  unfolding coarsen_verdict
  verdict-some z e = rw (ne_eqb k 0 z) e

  pub rule-refused : {n : Refusal} → coarsen_verdict s k x w ≡ Err n → Alters (coarsen_rule s k x w) x (Err n) x.points x.quads x.labels
  unfolding coarsen_rule
  rule-refused e = rw e (record { answer = refl; points = refl; quads = refl; labelled = refl })

  pub rule-done : {t : Tally} {P P' : List Float} {Q labels Q' labels' : List ℕ} → coarsen_verdict s k x w ≡ Accepted → Remains (coarse_sheet s k (held x)) t P Q labels
      → length P ≡ length x.points → length Q ≡ length x.quads → length labels ≡ length x.labels
      → P' ≡ cleared zero_f (3 * t.sheet.points) P → Q' ≡ cleared 0 (4 * t.sheet.quads) Q → labels' ≡ cleared 0 t.sheet.labels labels → Alters (coarsen_rule s k x w) x (Ok t) P' Q' labels'
  unfolding coarsen_rule
  rule-done e R lp lq ll ep eq el = rw (e, ep, eq, el) (remains-alters R x lp lq ll)

-- where they find nothing the passes may be made
pub coarsenable : (s : Setting) (k : ℕ) (x : Lent) (w : Work) {u : List ℕ} → length u ≡ w.numbers → coarsen_verdict s k x w ≡ Accepted → Coarsenable k x.counts x.points x.quads x.labels u w.floats
unfolding coarsen_verdict
coarsenable s zero x w l e =
    let L = lent_is x.counts (length x.points) (length x.quads) (length x.labels) w.numbers w.floats e in
    record { sheet = L.0; work = rw l L.1; accepted = λ h. absurd (omega arith) }
coarsenable s (suc k) x w l e =
    let A = admitted (setting_verdict s) x w (rw (ne_eqb (suc k) 0 (λ z. omega arith)) at e) in
    record { sheet = A.sheet; work = rw l A.work; accepted = λ h. A.accepted }

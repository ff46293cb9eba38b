-- The clean-up of an accepted sheet is the rule's, and so are the refusals. Assumes nothing.
use Prim.Native.Nat.{ℕ, ◌*◌, ◌≤◌}
use mathlib.Core.Path.{◌≡◌, refl, sym, ap, ap₂, ◌∙◌}
use mathlib.Core.Bool.{true}
use mathlib.Core.List.{List}
use native.Mathlib.Omega.{arith}
use lib.ListN.{length, take}
use lib.Seq.{length-take-le}
use lib.Ieee.{Float}
use Rattle.band.specs.declared.Band.{Band}
use Rattle.band.specs.Bands.{length_of}
use Rattle.setting.specs.Settings.{Setting, setting_of}
use Rattle.rule_sheet.specs.declared.Counts.{Counts}
use Rattle.rule_sheet.specs.Quads.{Quad}
use Rattle.rule_sheet.specs.Flat.{quads_of, flat_quads}
use Rattle.rule_sheet.specs.Tests.{good_corners}
use Rattle.rule_sheet.specs.Sheet.{sheet_of, points_of}
use Rattle.rule_sheet.specs.Lent.{Lent, Work, lent_of, held}
use Rattle.rule_sheet.specs.Outcomes.{RunEnd, gives}
use Rattle.rule_sheet.specs.Results.{padded, AltersQuads}
use Rattle.rule_admission.specs.Admission.{admits, setting_verdict}
use Rattle.rule_passes.specs.Runs.{capped}
use Rattle.rule_regularize.specs.Swaps.{swap_run}
use Rattle.rule_regularize.specs.SwapFits.{fits_with, swap_fits}
use Rattle.rule_regularize.specs.Rule.{swap_sheet, swap_rule}
use Rattle.rule_regularize.proofs.Tests.{all-differ}
use Rattle.sheet.specs.Results.{cleared}
use Rattle.sheet.proofs.Flat.{length-quads}
use Rattle.sheet.proofs.Fronts.{front-quads}
use Rattle.sheet.proofs.Results.{length-flat-quads}
use Rattle.sheet.proofs.Tests.{length-points, Tested, tested, Whole, whole_of, proper-of}
use Rattle.admission.proofs.Admitted.{admitted}
use Rattle.incidence.proofs.Corners.{cornered}
use Rattle.regularize_pass.specs.Conditions.{SwapPassAsks}
use Rattle.regularize.specs.Clauses.{RunPassesLeaves, CleanAcceptedAsks}
use Rattle.std.specs.Prelude.{Ok, Err}
use Rattle.rule_sheet.specs.Verdicts.{Answer, Accepted}
use Rattle.rule_sheet.specs.declared.Refusal.{Refusal}

-- ---- the quads of a slice, flat

cleared-quads : (n : ℕ) (R : List ℕ) → 4 * n ≤ length R → cleared 0 (4 * n) R ≡ padded 0 (length R) (flat_quads (quads_of n R))
unfolding cleared padded
cleared-quads n R h =
    let k : length (flat_quads (quads_of n R)) ≡ 4 * n = length-flat-quads (quads_of n R) ∙ ap (λ (m : ℕ). 4 * m) (length-quads n R) in
    rw (k, rw k at (front-quads n R h).is)

-- ---- an accepted sheet

counts-are : (c : Counts) {p q l : ℕ} → p ≡ c.points → q ≡ c.quads → l ≡ c.labels → c ≡ record { points = p; quads = q; labels = l }
counts-are c ep eq el = rw (ep, eq, el)

module _ {least : ℕ} {c : Counts} {P : List Float} {Q labels w : List ℕ} (A : CleanAcceptedAsks least (lent_of c P Q labels) w) where
  found : Tested (sheet_of c P Q labels)
  found = tested (sheet_of c P Q labels) A.accepted

  whole : Whole (sheet_of c P Q labels)
  whole = whole_of (sheet_of c P Q labels) found.not_bare

  same_count : c.labels ≡ c.quads
  same_count = sym (length-take-le c.labels labels A.sheet.labels) ∙ whole.labelled ∙ length-quads c.quads Q

  pub passable : (b : Band) (x : Float) → x ≡ length_of b → SwapPassAsks c.points c.quads (record { least = least; field = b.field; length = x }) P Q labels w
  passable b x e =
      let n = length-points c.points P in
      let g : good_corners c.points (quads_of c.quads Q) (take c.labels labels) ≡ true = rw n at found.corners in
      record {
        sheet = cornered c.points c.quads Q (take c.labels labels) g A.sheet.few.quads≤ A.sheet.quads;
        differ = all-differ c.points (quads_of c.quads Q) (proper-of c.points (quads_of c.quads Q) (take c.labels labels) g);
        room = record { some = rw n at whole.some_points; few = A.sheet.few.points≤; long = A.work };
        points = A.sheet.points;
        labels≤ = omega (arith, A.sheet.labels, same_count);
        least≤ = A.least≤;
      }

  pub quads-fit : (R : List ℕ) → length R ≡ length Q → 4 * c.quads ≤ length R
  quads-fit R e = omega (arith, A.sheet.quads)

  -- the run over what the slices hold is that over the sheet
  run_is : (b : Band) (k : ℕ) → swap_run c.points (take c.quads labels) least (fits_with b.field (length_of b) (points_of c.points P) (take c.quads labels)) k (quads_of c.quads Q)
      ≡ swap_run (length (points_of c.points P)) (take c.labels labels) least (swap_fits (setting_of b) (points_of c.points P) (take c.labels labels)) k (quads_of c.quads Q)
  unfolding swap_fits
  run_is b k = rw (length-points c.points P, same_count)

  -- the passes, and the zeros behind the quads
  pub cleans-of : {R Z : List ℕ} {k r : ℕ} (b : Band) (x : Float) → x ≡ length_of b → RunPassesLeaves c.points c.quads (record { least = least; field = b.field; length = x }) P labels k Q R r
      → length R ≡ length Q → Z ≡ cleared 0 (4 * c.quads) R
      → AltersQuads (gives (swap_sheet least (setting_of b) k (sheet_of c P Q labels))) (lent_of c P Q labels) (Ok (record { count = r; sheet = c })) Z
  cleans-of {R} {Z} {k} {r} b x e G l z =
      let f = ap (λ (y : Float). swap_run c.points (take c.quads labels) least (fits_with b.field y (points_of c.points P) (take c.quads labels)) k (quads_of c.quads Q)) e ∙ run_is b k in
      let q = G.quads ∙ ap (λ (a : RunEnd (List Quad)). a.left) f in
      record {
        answer =
            ap₂ (λ (n : ℕ) (d : Counts). Ok (record { count = n; sheet = d })) (G.count ∙ ap (λ (a : RunEnd (List Quad)). capped a.count) f)
            (counts-are c (length-points c.points P) (ap length (sym q) ∙ length-quads c.quads R) (length-take-le c.labels labels A.sheet.labels));
        quads = z ∙ cleared-quads c.quads R (quads-fit R l) ∙ rw (l, q);
      }

-- ---- the rule

module _ (m : ℕ) (s : Setting) (x : Lent) (w : Work) where
  pub rule-refuses : {n : Refusal} (k : ℕ) → admits s x w ≡ Err n → AltersQuads (swap_rule m s k x w) x (Err n) x.quads
  unfolding swap_rule
  rule-refuses k e = rw e (record { answer = refl; quads = refl })

  pub rule-cleans : {r : Answer} {R : List ℕ} (k : ℕ) → admits s x w ≡ Accepted → AltersQuads (gives (swap_sheet m s k (held x))) x r R → AltersQuads (swap_rule m s k x w) x r R
  unfolding swap_rule
  rule-cleans k e C = rw e C

  pub cleanable : {u : List ℕ} → admits s x w ≡ Accepted → m ≤ 1 → length u ≡ w.numbers → CleanAcceptedAsks m x u
  cleanable e h l =
      let A = admitted (setting_verdict s) x w e in
      record { least≤ = h; sheet = A.sheet; work = omega (arith, A.work.work); accepted = A.accepted }

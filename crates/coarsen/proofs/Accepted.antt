-- No pass after the first can refuse: the tests accept what any passes leave of a sheet that they accept. Assumes nothing.
use Prim.Native.Nat.{ℕ, zero, suc, ◌+◌, ◌*◌, ◌≤◌}
use mathlib.Core.Path.{◌≡◌, refl, sym, ap, ◌∙◌}
use mathlib.Core.Bool.{Bool, true, false}
use native.Mathlib.Omega.{arith}
use lib.Dec.{eqb}
use lib.Seq.{length-take-le}
use borrow.Author.Tests.{le-ltb, ne_eqb, eqb-true}
use Rattle.setting.specs.Settings.{Setting}
use Rattle.rule_sheet.specs.declared.Counts.{Counts}
use Rattle.rule_sheet.specs.Sheet.{Sheet, counts_of, sheet_verdict}
use Rattle.rule_sheet.specs.Lent.{Lent, Room, Work, held, room_in, is_short, is_short_work, lent_verdict}
use Rattle.rule_sheet.specs.Outcomes.{Outcome, gives, RunEnd, after_test}
use Rattle.rule_admission.specs.Admission.{and_then, setting_verdict, admits_after, admits}
use Rattle.rule_coarsen.specs.Rule.{coarse_sheet, coarsen_verdict, coarsen_rule}
use Rattle.sheet.specs.Sheet.{LentSheet, LentWork}
use Rattle.sheet.proofs.Flat.{length-quads}
use Rattle.sheet.proofs.Tests.{length-points}
use Rattle.admission.proofs.Admitted.{admitted}
use Rattle.safety_rules.proofs.Fine.{Fine}
use Rattle.coarsen.specs.Tested.{tested_run}
use Rattle.coarsen_passes.proofs.Fine.{not_large, fine-by, passes-fine, passes-accepted, passes-fewer, run_from, run-next, run-last}
use Rattle.std.specs.Prelude.{Ok, Err}
use Rattle.rule_sheet.specs.Verdicts.{Verdict, Accepted}

-- ---- 12 and 13

-- slices that hold a sheet hold a smaller one
lent-fewer : (c d : Counts) (r : Room) (w : Work) → LentSheet c r.points r.quads r.labels → LentWork c w.numbers w.floats
    → d.points ≤ c.points → d.quads ≤ c.quads → d.labels ≤ c.labels → lent_verdict d r w ≡ Accepted
unfolding lent_verdict is_short is_short_work
lent-fewer c d r w S W hp hq hl =
    rw (
      not_large d (record { points≤ = omega (arith, S.few.points≤); quads≤ = omega (arith, S.few.quads≤); labels≤ = omega (arith, S.few.labels≤) }),
      le-ltb r.points (3 * d.points) (omega (arith, S.points)),
      le-ltb r.quads (4 * d.quads) (omega (arith, S.quads)),
      le-ltb r.labels d.labels (omega (arith, S.labels)),
      le-ltb w.numbers (64 * (d.points + d.quads)) (omega (arith, W.work)),
      le-ltb w.floats (16 * (d.points + d.quads)) (omega (arith, W.floats)),
    )

module _ (s : Setting) where
  -- "No pass after the first can refuse": where the tests of the first pass find nothing, those of the pass after any k passes find nothing in what these leave, in the same slices
  pub no-pass-refuses : (k : ℕ) (x : Lent) (w : Work) → admits s x w ≡ Accepted
      → (lent_verdict (counts_of (coarse_sheet s k (held x)).left) (room_in x) w ≡ Accepted) × (and_then (setting_verdict s) (sheet_verdict (coarse_sheet s k (held x)).left) ≡ Accepted)
  no-pass-refuses k x w e =
      let c = x.counts in
      let A = admitted (setting_verdict s) x w e in
      let F = fine-by c x.points x.quads x.labels A.sheet A.accepted in
      let G = passes-fine s k (held x) F in
      let h = passes-fewer s k (held x) F in (
        lent-fewer c (counts_of (coarse_sheet s k (held x)).left) (room_in x) w A.sheet A.work
            (omega (arith, h.0, length-points c.points x.points))
            (omega (arith, h.1, length-quads c.quads x.quads))
            (omega (arith, h.1, G.labelled, F.labelled, length-quads c.quads x.quads, length-take-le c.labels x.labels A.sheet.labels)),
        rw A.brought (passes-accepted s k (held x) F),
      )

  -- ---- tests before each pass

  -- of an accepted sheet they find nothing
  tested-run : setting_verdict s ≡ Accepted → (k : ℕ) (t : Sheet) (m : ℕ) → Fine t → sheet_verdict t ≡ Accepted → tested_run s k t m ≡ gives (run_from s k t m)
  tested-run v zero t m f e = refl
  tested-run v (suc k) t m f e =
      let one = coarse_sheet s 1 t in
      rw (v, e) (go (eqb one.count 0) refl (tested-run v k one.left (m + one.count) (passes-fine s 1 t f) (passes-accepted s 1 t f) ∙ ap gives (sym (run-next s k t m))))
    where
      go : (y : Bool) → eqb (coarse_sheet s 1 t).count 0 ≡ y
          → tested_run s k (coarse_sheet s 1 t).left (m + (coarse_sheet s 1 t).count) ≡ gives (run_from s (suc k) t m)
          → ◌≡◌ {A = Outcome (RunEnd Sheet)} (elim y as (λ z. Outcome (RunEnd Sheet)) [ true ↦ gives (record { left = t; count = m }) | false ↦ tested_run s k (coarse_sheet s 1 t).left (m + (coarse_sheet s 1 t).count) ])
          (gives (run_from s (suc k) t m))
      go true e ih = ap gives (sym (run-last s (suc k) t m (eqb-true _ 0 e)).0)
      go false e ih = ih

  -- so the passes of 000, with tests before each, are those of the rule, with tests before the first
  pub tests-once : (k : ℕ) (x : Lent) (w : Work) → coarsen_rule s k x w ≡ after_test (lent_verdict x.counts (room_in x) w) (tested_run s k (held x) 0)
  unfolding coarsen_rule coarsen_verdict admits_after
  tests-once zero x w = refl
  tests-once (suc k) x w =
      rw (ne_eqb (suc k) 0 (λ z. omega arith)) (both (lent_verdict x.counts (room_in x) w) (and_then (setting_verdict s) (sheet_verdict (held x))) _ _ (λ e.
      let A = admitted (setting_verdict s) x w e in
      let F = fine-by x.counts x.points x.quads x.labels A.sheet A.accepted in
      sym (rw (A.brought, A.accepted) at (tested-run A.brought (suc k) (held x) 0 F A.accepted))))
    where
      both : (u v : Verdict) (o p : Outcome (RunEnd Sheet)) → (and_then u v ≡ Accepted → o ≡ p) → after_test (and_then u v) o ≡ after_test u (after_test v p)
      both (Ok u) (Ok w) o p h = h refl
      both (Ok u) (Err n) o p h = refl
      both (Err n) v o p h = refl

-- No valence in any state of a call passes the limit. Assumes nothing.
use Prim.Native.Nat.{ℕ, ◌+◌, ◌≤◌}
use mathlib.Core.Path.{◌≡◌, refl, sym, ap, ◌∙◌}
use mathlib.Core.Bool.{Bool, true, false}
use mathlib.Core.List.{List}
use native.Mathlib.Omega.{arith}
use lib.Dec.{eqb}
use lib.ListN.{length, take, replicate, length-replicate}
use lib.Seq.{take-length}
use borrow.Author.Tests.{eqb-true}
use Rattle.setting.specs.Settings.{Setting}
use Rattle.rule_sheet.specs.Quads.{Quad, valence}
use Rattle.rule_sheet.specs.Edges.{Pair, edges_of}
use Rattle.rule_sheet.specs.Claims.{All, Differ}
use Rattle.rule_sheet.specs.Sheet.{Sheet}
use Rattle.rule_sheet.specs.Lent.{Lent, Work, held, limit}
use Rattle.rule_sheet.specs.Outcomes.{RunEnd, gives, after_test}
use Rattle.rule_sheet.specs.Sound.{AcceptedSheet}
use Rattle.rule_sheet.proofs.Bound.{valence-le}
use Rattle.rule_admission.specs.Admission.{admits, setting_verdict}
use Rattle.admission.proofs.Accepted.{lent-accepted}
use Rattle.rule_passes.specs.Runs.{run}
use Rattle.rule_passes.proofs.Runs.{run-split}
use Rattle.rule_regularize.specs.Swaps.{Fits, State, fresh, sweep, swap_pass, swap_run}
use Rattle.rule_regularize.specs.SwapFits.{swap_fits}
use Rattle.rule_regularize.specs.Rule.{swap_sheet, swap_rule}
use Rattle.rule_regularize.proofs.Gains.{half_of}
use Rattle.rule_regularize.proofs.SwapPass.{inv-start}
use Rattle.rule_regularize.proofs.Sweep.{Barred, Swept, sweep-pass, pass-none}
use Rattle.safety_rules.proofs.Fine.{Fine, fine_of}
use Rattle.safety.proofs.Caps.{pass-fell, Proper, passes-ran}
use Rattle.valence_bound.specs.Valences.{start_of, EveryPass, NonePasses, EveryCall}
use Rattle.std.specs.Prelude.{Ok, Err}
use Rattle.rule_sheet.specs.Verdicts.{Verdict}

-- ---- the states of a pass

module _ (n : ℕ) (labels : List ℕ) (m : ℕ) (fits : Fits) where
  -- the states of a pass over S
  abbrev state : List Quad → List Pair → State
  state S l = sweep S labels m fits (fresh S) l

  -- any edges keep the number of quads, and their corners different
  state-fell : (S : List Quad) (l : List Pair) → Proper n labels m fits S → (All Differ (state S l).quads) × (length (state S l).quads ≡ length S)
  state-fell S l (b, d) =
      let w : Swept S labels m fits (fresh S) (state S l) = sweep-pass S labels m fits l (fresh S) (length-replicate (length S) false) in
      let f = pass-fell S labels (half_of m) n S (Barred (replicate (length S) false)) (state S l).quads w.swaps w.passed (inv-start S (Barred (replicate (length S) false))) d b in
      (f.four, f.len)

  -- the same behind j passes
  few-at : (j : ℕ) (l : List Pair) (S : List Quad) → Proper n labels m fits S → (v : ℕ) → valence (state (swap_run n labels m fits j S).left l).quads v ≤ length S
  few-at j l S p v =
      let r = passes-ran n labels m fits j S p in
      let T = (swap_run n labels m fits j S).left in
      let f = state-fell T l r.good in
      omega (arith, valence-le (state T l).quads v f.0, f.1, r.kept.0)

  -- one pass more
  one_more : (j : ℕ) (S : List Quad) → (swap_pass n labels m fits (swap_run n labels m fits j S).left).quads ≡ (swap_run n labels m fits (j + 1) S).left
  one_more j S = go (eqb (swap_pass n labels m fits T).count 0) refl ∙ ap (λ (e : RunEnd (List Quad)). e.left) (sym (run-split count next j 1 S 0))
    where
      count : List Quad → ℕ
      count U = (swap_pass n labels m fits U).count

      next : List Quad → List Quad
      next U = (swap_pass n labels m fits U).quads

      T : List Quad
      T = (run count next j S 0).left

      c : ℕ
      c = (run count next j S 0).count

      go : (b : Bool) → eqb (swap_pass n labels m fits T).count 0 ≡ b
          → next T ≡ (elim b as (λ y. RunEnd (List Quad)) [ true ↦ record { left = T; count = c } | false ↦ record { left = next T; count = c + count T } ]).left
      go true e = (pass-none n labels m fits T (eqb-true _ 0 e)).0
      go false e = refl

pub every-pass : EveryPass
unfolding EveryPass swap_pass
every-pass m s t j =
    let n = length t.points in
    let fits = swap_fits s t.points t.labels in
    let S = start_of m s t j in
    ap (λ (l : List Pair). (sweep S t.labels m fits (fresh S) l).quads) (take-length (edges_of n S)) ∙ one_more n t.labels m fits j t.quads

-- ---- every call

none_passes : (m : ℕ) (s : Setting) (t : Sheet) → AcceptedSheet t → NonePasses m s t
none_passes m s t a j i v =
    let f : Fine t = fine_of t a in
    let n = length t.points in
    let l = take i (edges_of n (start_of m s t j)) in
    omega (arith, few-at n t.labels m (swap_fits s t.points t.labels) j l t.quads (f.in_range, f.differ) v, f.few_quads)

accepted-call : (m : ℕ) (s : Setting) (k : ℕ) (x : Lent) (w : Work) (e : RunEnd Sheet) → swap_rule m s k x w ≡ gives e → AcceptedSheet (held x)
unfolding swap_rule
accepted-call m s k x w e h = go (admits s x w) refl h
  where
    go : (v : Verdict) → admits s x w ≡ v → after_test v (gives (swap_sheet m s k (held x))) ≡ gives e → AcceptedSheet (held x)
    go (Ok u) q g = lent-accepted (setting_verdict s) x w q
    go (Err n) q g = absurd (let z : ◌≡◌ {A = ℕ} 0 1 = cc in omega arith)

pub every_call : EveryCall
every_call = record {
  regularize = λ s k x w e h. none_passes 1 s (held x) (accepted-call 1 s k x w e h);
  improve = λ s k x w e h. none_passes 0 s (held x) (accepted-call 0 s k x w e h);
}

-- An accepted call of `regularize` was lent an accepted sheet, and its answer is the number of its swaps. Assumes nothing.
use Prim.Native.Nat.{ℕ}
use mathlib.Core.Path.{◌≡◌, refl, ◌∙◌}
use mathlib.Core.List.{List}
use native.Mathlib.Omega.{arith}
use lib.ListN.{length}
use Rattle.setting.specs.Settings.{Setting}
use Rattle.rule_sheet.specs.declared.Tally.{Tally}
use Rattle.rule_sheet.specs.Sheet.{Sheet, sheet_verdict}
use Rattle.rule_sheet.specs.Lent.{Lent, Work, held}
use Rattle.rule_sheet.specs.Sound.{AcceptedSheet}
use Rattle.rule_sheet.specs.Outcomes.{gives, after_test}
use Rattle.rule_sheet.specs.Results.{AltersQuads}
use Rattle.rule_admission.specs.Admission.{setting_verdict, admits}
use Rattle.sheet.proofs.Tests.{tests-accept}
use Rattle.admission.proofs.Admitted.{Admitted, admitted}
use Rattle.admission.proofs.Accepted.{lent-accepted}
use Rattle.rule_regularize.specs.Swaps.{swap_run}
use Rattle.rule_regularize.specs.SwapFits.{swap_fits}
use Rattle.rule_regularize.specs.Rule.{swap_sheet, swap_rule}
use Rattle.safety.specs.Calls.{Contract, regularize_call}
use Rattle.safety.proofs.Caps.{uncapped}
use Rattle.std.specs.Prelude.{Ok, Err}
use Rattle.rule_sheet.specs.Verdicts.{Verdict, Accepted}

-- what 5, 6 and 7 accept passes their tests
pub passes : (s : Sheet) → AcceptedSheet s → sheet_verdict s ≡ Accepted
passes s a = tests-accept s (record { not_bare = a.not_bare; corners = a.corners; masks = a.masks })

module _ (s : Setting) (k : ℕ) (x : Lent) (w : Work) (t : Tally) (Q : List ℕ) (C : Contract (regularize_call s k x w (Ok t) Q)) where
  -- the call passed its tests
  pub done-tested : admits s x w ≡ Accepted
  unfolding swap_rule
  done-tested = go _ refl C
    where
      go : (u : Verdict) → admits s x w ≡ u → AltersQuads (after_test u (gives (swap_sheet 1 s k (held x)))) x (Ok t) Q → admits s x w ≡ Accepted
      go (Err i) e L = absurd (let z : ◌≡◌ {A = ℕ} 0 1 = cc L.answer in omega arith)
      go (Ok u) e L = e

  abbrev pub done_admitted : Admitted (setting_verdict s) x w
  done_admitted = admitted (setting_verdict s) x w done-tested

  done-accepted : AcceptedSheet (held x)
  done-accepted = lent-accepted (setting_verdict s) x w done-tested

  -- "Regularize's count is the swaps made in all its passes", on every accepted sheet
  pub done-count : t.count ≡ (swap_run (length (held x).points) (held x).labels 1 (swap_fits s (held x).points (held x).labels) k (held x).quads).count
  unfolding swap_rule
  done-count =
      let A : AltersQuads (gives (swap_sheet 1 s k (held x))) x (Ok t) Q = rw done-tested at C in
      let e : t.count ≡ (swap_sheet 1 s k (held x)).count = cc A.answer in
      e ∙ uncapped (held x) (swap_fits s (held x).points (held x).labels) k done-accepted

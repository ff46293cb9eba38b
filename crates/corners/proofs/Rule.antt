-- What an admitted sheet allows, and the answers in the order of the rule. Assumes nothing.
use Prim.Native.Nat.{ℕ, ◌≤◌, ◌<◌}
use mathlib.Core.Path.{◌≡◌}
use Rattle.setting.specs.Settings.{Domain}
use Rattle.rule_sheet.specs.Lent.{Lent, Work, held, limit}
use Rattle.rule_admission.specs.Admission.{measurable_verdict, measurable}
use Rattle.sheet.proofs.Tests.{length-points, tested, whole_of}
use Rattle.admission.proofs.Admitted.{admitted}
use Rattle.admission.proofs.Accepted.{counts-held}
use Rattle.rule_corners.specs.declared.Ratio.{Ratio}
use Rattle.rule_corners.specs.Corners.{ratio_of, corners_rule, divided_of}
use Rattle.std.specs.Prelude.{Ok, Err}
use Rattle.rule_sheet.specs.declared.Refusal.{Refusal}
use Rattle.rule_sheet.specs.Verdicts.{Accepted}

module _ (d : Domain) (x : Lent) (w : Work) where
  -- an admitted sheet has a point, and no more quads than the limit
  pub divisible : measurable d x w ≡ Accepted → (0 < x.counts.points) × (x.counts.quads ≤ limit)
  divisible e =
      let A = admitted (measurable_verdict d) x w e in
      (rw (length-points x.counts.points x.points) at (whole_of (held x) (tested (held x) A.accepted).not_bare).some_points, A.sheet.few.quads≤)

  -- 12, 13, 1, 5, 6 or 7
  pub rule-refused : {n : Refusal} → measurable d x w ≡ Err n → Err n ≡ divided_of (corners_rule d x w)
  unfolding corners_rule
  rule-refused e = rw e

  -- the two numbers
  pub rule-divided : {q : Ratio} → measurable d x w ≡ Accepted → q ≡ ratio_of x.counts → Ok q ≡ divided_of (corners_rule d x w)
  unfolding corners_rule
  rule-divided e g = rw (e, counts-held x (admitted (measurable_verdict d) x w e).sheet, g)

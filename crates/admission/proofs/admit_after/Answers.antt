-- `admission::admit_after` meets its contract. Assumes nothing.
use native.Mathlib.Omega.{arith}
use Prim.Native.Nat.{◌+◌, ◌*◌, ◌≤◌}
use mathlib.Core.Path.{◌≡◌, sym, ◌∙◌}
use lib.ListN.{length}
use Rattle.rule_sheet.specs.Lent.{lent_verdict, room_of, work_with}
use Rattle.sheet.specs.Sheet.{LentSheet, LentWork}
use Rattle.sheet.proofs.Tests.{lent_is}
use Rattle.rule_sheet.proofs.Exits.{exited}
use Rattle.admission.proofs.Admitted.{lent-refuses, brought-refuses, sheet-decides, region-fits, region-small}
use Rattle.admission.proofs.admit_after.Goals.{After-struct_known-1}
use Rattle.admission.proofs.admit_after.Goals as goal
use Rattle.rule_sheet.specs.Verdicts.{Accepted}

accepted : (c : After-struct_known-1) →
    lent_verdict c.args.c (room_of c.args.points.now c.args.quads.now c.args.labels.now) (work_with (length c.args.w.now) c.args.floats) ≡ Accepted
accepted c = sym c.lent.ensures ∙ c.in_ok-lent.was

held : (c : After-struct_known-1) →
    LentSheet c.args.c (length c.args.points.now) (length c.args.quads.now) (length c.args.labels.now) × LentWork c.args.c (length c.args.w.now) c.args.floats
held c = lent_is c.args.c (length c.args.points.now) (length c.args.quads.now) (length c.args.labels.now) (length c.args.w.now) c.args.floats (accepted c)

fits : (c : After-struct_known-1) → c.args.masks * (c.args.c.points + c.args.c.quads) + c.args.c.points ≤ length c.args.w.now
fits c = region-fits c.args.masks (c.args.c.points + c.args.c.quads) c.args.c.points (length c.args.w.now) c.requires (omega arith) (held c).1.work

pub returns-in_err-lent : goal.returns-in_err-lent
returns-in_err-lent c =
    rw (exited _ _ c.from_residual.ensures.1) (record { value = lent-refuses _ _ _ (sym c.lent.ensures ∙ c.in_err-lent.was); masks_at = tt })

pub returns-in_err-brought : goal.returns-in_err-brought
returns-in_err-brought c =
    rw (exited _ _ c.from_residual-in_err-brought.ensures.1)
    (record { value = brought-refuses _ _ _ (sym c.lent.ensures ∙ c.in_ok-lent.was) c.in_err-brought.was; masks_at = tt })

pub overflow_add-c : goal.overflow_add-c
overflow_add-c c = let f = (held c).0.few in omega (arith, f.points≤, f.quads≤)

pub overflow_mul-masks : goal.overflow_mul-masks
overflow_mul-masks c =
    let f = (held c).0.few in omega (arith, region-small c.args.masks c.args.c.points c.args.c.quads c.requires f.points≤ f.quads≤)

pub test_sheet-requires : goal.test_sheet-requires
test_sheet-requires c =
    record { lent_sheet = (held (goal.at.test_sheet-requires c).After-struct_known-1).0; points_in_bounds = fits (goal.at.test_sheet-requires c).After-struct_known-1 }

pub returns : goal.returns
returns c =
    record { value = sheet-decides _ _ _ (accepted (goal.at.returns c).After-struct_known-1) c.in_ok-brought.was c.test_sheet.ensures.value; masks_at = c.test_sheet.ensures.masks_at }

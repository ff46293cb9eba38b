-- The theorem of every call of `subdivide` that is not refused. Assumes nothing.
use Prim.Native.Nat.{ℕ}
use mathlib.Core.Path.{◌≡◌, refl}
use mathlib.Core.Bool.{Bool, true, false, cond, ◌||◌}
use native.Mathlib.Omega.{arith}
use lib.ListN.{length}
use Rattle.lists.specs.Every.{every}
use Rattle.rule_sheet.specs.declared.Counts.{Counts}
use Rattle.rule_sheet.specs.Sheet.{Sheet, counts_of, sheet_verdict}
use Rattle.rule_sheet.specs.Lent.{held, is_large, is_short}
use Rattle.rule_sheet.specs.Outcomes.{refuses, gives, after_test}
use Rattle.rule_admission.specs.Admission.{setting_verdict, admits}
use Rattle.rule_finer.specs.Finer.{finer_sheet}
use Rattle.rule_finer.specs.Smoothed.{paired, smooth_sheet}
use Rattle.rule_finer.specs.Subdivide.{lands_at, projected_sheet, projected, subdivided, subdivide_rule}
use Rattle.admission.proofs.Accepted.{lent-accepted}
use Rattle.subdivide_exact.specs.Paper.{Subdivided, EverySheet, EveryCall}
use Rattle.subdivide_exact.proofs.Paper.{catmull-clark}
use Rattle.std.specs.Prelude.{Ok, Err}
use Rattle.rule_sheet.specs.Verdicts.{Verdict}
use Rattle.rule_sheet.specs.declared.Refusal.TheVariants.{Edge, Astray, Short}
use Rattle.rule_sheet.specs.declared.Refusal.{Refusal}

-- a refusal makes no sheet
not_made : {A : Type 0} (n : Refusal) (t : Sheet) → refuses n ≡ gives t → A
not_made n t e = absurd (let z : ◌≡◌ {A = ℕ} 0 1 = cc in omega arith)

pub every_call : EveryCall
unfolding EveryCall EverySheet subdivide_rule subdivided projected
every_call s x w room t =
    go (admits s x w) refl (is_large c || is_short c room) (paired (length (held x).points) (held x).quads) refl (sheet_verdict y) (every (lands_at s y) (length y.points))
  where
    c : Counts
    c = counts_of (finer_sheet (held x))

    y : Sheet
    y = smooth_sheet (held x)

    go : (u : Verdict) → admits s x w ≡ u → (over pairs : Bool) → paired (length (held x).points) (held x).quads ≡ pairs → (z : Verdict) (lands : Bool)
        → after_test u (cond over (refuses Short) (cond pairs (after_test z (cond lands (gives (projected_sheet s y)) (refuses Astray))) (refuses Edge))) ≡ gives t → Subdivided s x t
    go (Err n) a over pairs p z lands e = not_made n t e
    go (Ok u) a true pairs p z lands e = not_made Short t e
    go (Ok u) a false false p z lands e = not_made Edge t e
    go (Ok u) a false true p (Err n) lands e = not_made n t e
    go (Ok u) a false true p (Ok o) false e = not_made Astray t e
    go (Ok u) a false true p (Ok o) true e = record { projection = cc; paper = λ at. catmull-clark (held x) at (lent-accepted (setting_verdict s) x w a) p }

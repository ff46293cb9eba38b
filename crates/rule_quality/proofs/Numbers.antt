-- Measuring refuses with 11 and no other number. Assumes nothing.
use Prim.Native.Nat.{ℕ}
use mathlib.Core.Bool.{Bool, true, false, cond}
use mathlib.Core.List.{List}
use Rattle.setting.specs.Settings.{Domain}
use Rattle.rule_sheet.specs.Quads.{Quad, all}
use Rattle.rule_sheet.specs.Sheet.{Sheet}
use Rattle.rule_admission.proofs.Numbers.{Refuses, given, refusing}
use Rattle.rule_quality.specs.declared.Measures.{Measures}
use Rattle.rule_quality.specs.Measure.{has_normal, cells_of, measures_of, measure_rule}
use Rattle.rule_quality.specs.Quality.{with_counts}
use Rattle.std.specs.Prelude.{Ok, Err}
use Rattle.rule_sheet.specs.declared.Refusal.{Refusal}
use Rattle.rule_sheet.specs.declared.Refusal.TheVariants.{Normal}

-- what is said of 11 is said of its refusals
pub measured-number : (P : Refusal → Type 0) → P Normal → (n : ℕ) (S : List Quad) (d : Domain) (s : Sheet) → Refuses P (with_counts n S (measure_rule d s))
unfolding measure_rule
measured-number P p n S d s = go (all has_normal (cells_of d s)) (measures_of (cells_of d s))
  where
    go : (b : Bool) (m : Measures) → Refuses P (with_counts n S (cond b (Ok m) (Err Normal)))
    go true m = given P _
    go false m = refusing P Normal p

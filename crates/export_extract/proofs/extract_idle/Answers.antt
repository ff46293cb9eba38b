-- `export_extract::extract_idle` meets its contract. Assumes nothing.
use Prim.Native.Nat.{ℕ}
use mathlib.Core.List.{List, [], ◌++◌}
use lib.Ieee.{Float}
use Rattle.rule_sheet.specs.Results.{Cleared}
use Rattle.export_extract.proofs.extract_idle.Goals as goal

-- slices of which none was lent are cleared whole
idle-cleared : {W W' X : List ℕ} {F F' Y : List Float} → Cleared [] [] X Y → Cleared (X ++ W) (Y ++ F) W' F' → Cleared W F W' F'
idle-cleared a b = rw (a.work, a.floats) at b

pub returns : goal.returns
returns c =
    record { fact = c.extract_candidate-r.ensures.sheet; cleared = idle-cleared c.extract_candidate-r.ensures.cleared c.clear_work.ensures }

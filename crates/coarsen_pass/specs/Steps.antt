-- The sheet in slices, and the rule's pass of merges with a band. Document 01, "The merged sheet".
use Rattle.std.specs.Prelude.{ℕ, List, Float}
use Rattle.band.specs.declared.Band.{Band}
use Rattle.rule_sheet.specs.Sheet.{Sheet, sheet_of}
use Rattle.rule_coarsen.specs.Coarse.{MergeState, merge_pass}
use Rattle.rule_coarsen.specs.MergeFits.{merge_fits, merge_position}

-- the sheet of np points and nq quads in slices
abbrev pub sheet_in : ℕ → ℕ → List Float → List ℕ → List ℕ → Sheet
sheet_in np nq P Q labels = sheet_of (record { points = np; quads = nq; labels = nq }) P Q labels

-- the rule's pass with a band
unfoldable pub band_pass : Band → Sheet → MergeState
band_pass b s = merge_pass (merge_fits b) (merge_position b) s

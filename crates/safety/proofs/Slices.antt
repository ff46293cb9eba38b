-- Padded slices hold the sheet that stands at their front. Assumes nothing.
use Prim.Native.Nat.{ℕ, ◌-◌, ◌≤◌}
use mathlib.Core.Path.{◌≡◌, refl}
use mathlib.Core.List.{List}
use native.Mathlib.Omega.{arith}
use lib.ListN.{length, replicate, length-append, length-replicate}
use lib.Seq.{take-append_seam}
use Rattle.numeric.specs.Num.{zero_f}
use Rattle.rule_sheet.specs.Quads.{Quad}
use Rattle.rule_sheet.specs.Flat.{quads_of, flat_quads}
use Rattle.rule_sheet.specs.Sheet.{Sheet, sheet_of, flat_points}
use Rattle.rule_sheet.specs.Results.{padded}
use Rattle.rule_sheet.specs.Sheet.{counts_of}
use Rattle.sheet.specs.Results.{Front}
use Rattle.sheet.proofs.Fronts.{points-front, quads-front}

front-padded : {A : Type 0} (z : A) (n : ℕ) (l : List A) → Front l (padded z n l)
unfolding padded
front-padded z n l = record { fits = omega (arith, length-append l (replicate (n - length l) z)); is = take-append_seam l (replicate (n - length l) z) }

pub length-padded : {A : Type 0} (z : A) (n : ℕ) (l : List A) → length l ≤ n → length (padded z n l) ≡ n
unfolding padded
length-padded z n l h = rw (length-append, length-replicate) (omega arith)

-- the quads that stand in a slice
pub quads-padded : (S : List Quad) (n q : ℕ) → length S ≡ n → quads_of n (padded 0 q (flat_quads S)) ≡ S
quads-padded S n q e = quads-front S (padded 0 q (flat_quads S)) n (front-padded 0 q (flat_quads S)) e

-- a sheet in slices of any lengths
pub held-padded : (t : Sheet) (p q l : ℕ) → sheet_of (counts_of t) (padded zero_f p (flat_points t.points)) (padded 0 q (flat_quads t.quads)) (padded 0 l t.labels) ≡ t
held-padded t p q l =
    rw (
      points-front t.points (padded zero_f p (flat_points t.points)) (length t.points) (front-padded zero_f p (flat_points t.points)) refl,
      quads-padded t.quads (length t.quads) q refl,
      (front-padded 0 l t.labels).is,
    )

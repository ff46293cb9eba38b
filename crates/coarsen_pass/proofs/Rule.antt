-- The visits of a pass are the rule's: what its parameters read of the sheet at the start is in the work slice. Assumes nothing.
use mathlib.Core.Path.{◌≡◌, refl, ap, ◌∙◌, fun_ext}
use Prim.Native.Nat.{ℕ, ◌+◌}
use mathlib.Core.List.{List, []}
use native.Mathlib.Omega.{arith}
use lib.Ieee.{Float}
use lib.ListN.{take}
use Rattle.points.specs.declared.Point.{Point}
use Rattle.band.specs.declared.Band.{Band}
use Rattle.rule_sheet.specs.Quads.{Quad}
use Rattle.rule_sheet.specs.Flat.{quads_of}
use Rattle.rule_sheet.specs.Sheet.{Sheet, points_of}
use Rattle.sheet.proofs.Flat.{length-quads}
use Rattle.sheet.proofs.Tests.{length-points}
use Rattle.rule_coarsen.specs.Coarse.{MergeState, merge_pass}
use Rattle.coarsen_merge.specs.Steps.{state_of}
use Rattle.rule_coarsen.specs.MergeFits.{moved_to, fits_at, merge_fits, merge_position}
use Rattle.coarsen_pass.specs.Conditions.{PrepareLeaves, MergePassLeaves}
use Rattle.coarsen_search.specs.Steps.{state_in, visits_from}
use Rattle.coarsen_search.specs.Conditions.{VisitAllLeaves}
use Rattle.coarsen_pass.specs.Steps.{sheet_in, band_pass}
use Rattle.coarsen_pass.proofs.Start.{start_is, state-is}
use Rattle.std.specs.Prelude.{Some, None, Option}

-- ---- the parameters of the rule read the quads and labels of the start, and no points

module _ (b : Band) (S : List Quad) (labels : List ℕ) (p q : List Point) where
  abbrev sheet_with : List Point → Sheet
  sheet_with ps = record { points = ps; quads = S; labels = labels }

  fits-at : (ps : List Point) (f a c : ℕ) (x : Option Point) → fits_at b (sheet_with p) ps f a c x ≡ fits_at b (sheet_with q) ps f a c x
  fits-at ps f a c (Some y) = refl
  fits-at ps f a c None = refl

  fits-same : merge_fits b (sheet_with p) ≡ merge_fits b (sheet_with q)
  unfolding merge_fits moved_to
  fits-same = fun_ext (λ ps. fun_ext (λ T. fun_ext (λ f. fun_ext (λ a. fun_ext (λ c. fits-at ps f a c (moved_to b (sheet_with p) ps a c))))))

  position-same : merge_position b (sheet_with p) ≡ merge_position b (sheet_with q)
  unfolding merge_position moved_to
  position-same = refl

-- ---- the pass

module _ (b : Band) {np nq : ℕ} {Q labels w : List ℕ} (P : List Float) (S : PrepareLeaves np nq Q labels w) where
  -- the visits from the start on are the rule's pass
  pass-is : visits_from b np nq labels w nq 0 (state_in np nq P Q w 0) ≡ band_pass b (sheet_in np nq P Q labels)
  unfolding band_pass merge_pass
  pass-is = rw (state-is S P, start_is S, length-points np P, length-quads nq Q, fits-same b (quads_of nq Q) (take nq labels) [] (points_of np P), position-same b (quads_of nq Q) (take nq labels) [] (points_of np P))

  -- what the visits leave is what the rule's pass leaves
  pub passed-of : {r : ℕ} {P' : List Float} {Q' w' : List ℕ} → VisitAllLeaves b np nq labels r P Q w P' Q' w' → MergePassLeaves b np nq (sheet_in np nq P Q labels) r P' Q' w'
  unfolding state_of
  passed-of {r} {P'} {Q'} {w'} A =
      let e = A.state 0 ∙ pass-is in
      record { count = zero-add r ∙ ap (λ (s : MergeState). s.count) e; slots = ap (λ (s : MergeState). s.slots) e; points = ap (λ (s : MergeState). s.points) e; sheet = A.holds.sheet; most = A.most }
    where
      zero-add : (n : ℕ) → n ≡ 0 + n
      zero-add n = omega arith

-- The test of the smoothed sheet in `subdivide` finds nothing but 5: of an accepted sheet it has good corners, good masks and a label for each quad. Assumes nothing.
use Prim.Native.Nat.{ℕ, ◌<◌}
use mathlib.Core.Path.{◌≡◌, refl, sym, ap, ◌∙◌}
use mathlib.Core.Bool.{Bool, true, false, cond, not, ◌||◌}
use mathlib.Core.Logic.{◌⊎◌, inl, inr}
use mathlib.Core.List.{List}
use native.Mathlib.Omega.{arith}
use lib.ListN.{length}
use Rattle.lists.specs.Every.{every}
use Rattle.points.specs.Points.{finite_p}
use Rattle.setting.specs.Settings.{Setting}
use Rattle.rule_sheet.specs.declared.Counts.{Counts}
use Rattle.rule_sheet.specs.Quads.{Quad, all}
use Rattle.rule_sheet.specs.Tests.{good_corners, good_masks}
use Rattle.rule_sheet.specs.Sheet.{Sheet, is_bare, quads_verdict, sheet_verdict}
use Rattle.rule_sheet.specs.Lent.{Room, is_large, is_short}
use Rattle.sheet.proofs.Tests.{Tested, tested, Whole, whole_of, bare-finite}
use Rattle.rule_sheet.specs.Outcomes.{refuses, gives, after_test}
use Rattle.rule_sheet.specs.Sheet.{counts_of}
use Rattle.rule_finer.specs.Finer.{finer, four_labels, finer_sheet}
use Rattle.refine.specs.Finer.{finer_count}
use Rattle.rule_finer.specs.Smoothed.{paired, smooth_sheet}
use Rattle.rule_finer.specs.Subdivide.{lands_at, projected_sheet, projected, subdivided}
use Rattle.safety_rules.proofs.Numbers.{finer-length}
use Rattle.safety_rules.proofs.Fine.{Passing, passing-of, passing-good}
use Rattle.safety_rules.proofs.Demand.{finer-passing}
use Rattle.safety.proofs.Finer.{smooth-count}
use Rattle.std.specs.Prelude.{Ok, Err}
use Rattle.rule_sheet.specs.Verdicts.{Verdict, Accepted}
use Rattle.rule_sheet.specs.declared.Refusal.TheVariants.{Bare, Edge, Astray, Short}
use Rattle.rule_sheet.specs.declared.Refusal.{Refusal}

module _ (s : Sheet) (T : Tested s) where
  abbrev n : ℕ
  n = length s.points

  abbrev S : List Quad
  S = s.quads

  abbrev t : Sheet
  t = smooth_sheet s

  whole : Whole s
  whole = whole_of s T.not_bare

  old : Passing n S s.labels
  old = passing-of n S s.labels whole.labelled T.corners T.masks

  four : Passing (finer_count n S) (finer n S) (four_labels s.labels)
  four = finer-passing n S s.labels old

  -- 6 and 7 find nothing
  smooth-good : (good_corners (length t.points) t.quads t.labels ≡ true) × (good_masks (length t.points) t.quads t.labels ≡ true)
  unfolding smooth_sheet finer_sheet
  smooth-good =
      let g = passing-good (finer_count n S) (finer n S) (four_labels s.labels) four in
      (ap (λ k. good_corners k t.quads t.labels) (smooth-count s) ∙ g.0, ap (λ k. good_masks k t.quads t.labels) (smooth-count s) ∙ g.1)

  some_points : 0 < length t.points
  unfolding finer_count
  some_points = omega (arith, smooth-count s, whole.some_points)

  smooth-bare : is_bare t ≡ not (all finite_p t.points)
  unfolding smooth_sheet finer_sheet
  smooth-bare = bare-finite t some_points (omega (arith, finer-length n S old.in_range old.differ, whole.some_quads)) four.labelled

  -- of the tests only that of the points is left
  smooth-verdict : sheet_verdict t ≡ cond (all finite_p t.points) Accepted (Err Bare)
  unfolding sheet_verdict quads_verdict
  smooth-verdict = rw (smooth-bare, smooth-good.0, smooth-good.1) (go (all finite_p t.points))
    where
      go : (f : Bool) → cond (not f) (Err Bare) Accepted ≡ cond f Accepted (Err Bare)
      go true = refl
      go false = refl

-- "Then subdivide 8, 5, 9": the test of the smoothed sheet of an accepted one finds nothing or 5
pub smooth-test : (s : Sheet) → sheet_verdict s ≡ Accepted → (sheet_verdict (smooth_sheet s) ≡ Accepted) ⊎ (sheet_verdict (smooth_sheet s) ≡ Err Bare)
smooth-test s e = go (all finite_p (smooth_sheet s).points) (smooth-verdict s (tested s e))
  where
    go : (f : Bool) → sheet_verdict (smooth_sheet s) ≡ cond f Accepted (Err Bare) → (sheet_verdict (smooth_sheet s) ≡ Accepted) ⊎ (sheet_verdict (smooth_sheet s) ≡ Err Bare)
    go true h = inl h
    go false h = inr h

-- so after the tests of the lent sheet `subdivide` refuses with 13, 8, 5 or 9 only
pub numbers-left : (w : Setting) (s : Sheet) (room : Room) (n : Refusal) → sheet_verdict s ≡ Accepted → subdivided w s room ≡ refuses n → (n ≡ Short) ⊎ ((n ≡ Edge) ⊎ ((n ≡ Bare) ⊎ (n ≡ Astray)))
unfolding subdivided projected
numbers-left w s room n e = go (is_large c || is_short c room) (paired (length s.points) s.quads) (sheet_verdict t) refl (every (lands_at w t) (length t.points))
  where
    t : Sheet
    t = smooth_sheet s

    c : Counts
    c = counts_of (finer_sheet s)

    go : (over pairs : Bool) (v : Verdict) → sheet_verdict t ≡ v → (lands : Bool)
        → cond over (refuses Short) (cond pairs (after_test v (cond lands (gives (projected_sheet w t)) (refuses Astray))) (refuses Edge)) ≡ refuses n
        → (n ≡ Short) ⊎ ((n ≡ Edge) ⊎ ((n ≡ Bare) ⊎ (n ≡ Astray)))
    go true pairs v h lands x = inl (cc)
    go false false v h lands x = inr (inl (cc))
    go false true (Err k) h lands x = inr (inr (inl (last (smooth-test s e))))
      where
        last : (sheet_verdict t ≡ Accepted) ⊎ (sheet_verdict t ≡ Err Bare) → n ≡ Bare
        last (inl a) = absurd (let z : ◌≡◌ {A = ℕ} 0 1 = cc in omega arith)
        last (inr a) = let r : Err k ≡ Err Bare = sym h ∙ a in let i : refuses k ≡ refuses n = x in cc
    go false true (Ok u) h true x = absurd (let z : ◌≡◌ {A = ℕ} 0 1 = cc in omega arith)
    go false true (Ok u) h false x = inr (inr (inr (cc)))

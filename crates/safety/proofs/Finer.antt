-- The sheet that an accepted `subdivide` makes is the finer sheet with finite points, so it keeps what demand 3 claims. Assumes nothing.
use Prim.Native.Nat.{ℕ, ◌+◌}
use mathlib.Core.Bool.{true, false}
use mathlib.Core.Path.{◌≡◌, sym, ap, ◌∙◌}
use mathlib.Core.List.{List, [], map}
use native.Mathlib.Omega.{arith}
use lib.ListN.{length, length-append, length-map}
use Rattle.lists.specs.Sort.{tabulate}
use Rattle.lists.specs.Every.{every}
use Rattle.lists.proofs.Laws.{length-tab}
use Rattle.lists.proofs.Every.{every-at, every-each}
use Rattle.points.specs.declared.Point.{Point}
use Rattle.points.specs.Points.{finite_p, point_in}
use Rattle.setting.specs.Settings.{Setting}
use Rattle.rule_sheet.specs.Quads.{Quad, all, mask_of}
use Rattle.rule_sheet.specs.Sheet.{Sheet}
use Rattle.rule_sheet.specs.Lent.{is_large}
use Rattle.sheet.proofs.Tests.{few-of, all-tab}
use Rattle.rule_sheet.specs.Sheet.{counts_of}
use Rattle.rule_finer.specs.Finer.{finer, four_labels, finer_sheet, new_points, position_of, made, requests}
use Rattle.refine.specs.Finer.{finer_count, key_of}
use Rattle.refine.proofs.Requests.{asked-made}
use Rattle.rule_finer.specs.Smoothed.{point_of, smooth_places, smooth_sheet}
use Rattle.rule_finer.specs.Subdivide.{landing, lands_at, projected_sheet}
use Rattle.projection.specs.Project.{onto_of}
use Rattle.projection.proofs.Finite.{onto-finite}
use Rattle.safety_rules.specs.Commands.{refined}
use Rattle.safety_rules.proofs.Numbers.{finer-length}
use Rattle.safety_rules.proofs.Demand.{Good, Keeps, finer-kept}

-- how many points the smoothed sheet has
pub smooth-count : (s : Sheet) → length (smooth_sheet s).points ≡ finer_count (length s.points) s.quads
unfolding smooth_sheet smooth_places finer_count
smooth-count s = simp (length-append, length-tab, length-map)

module _ (b : Setting) (s : Sheet) where
  abbrev n : ℕ
  n = length s.points

  abbrev S : List Quad
  S = s.quads

  -- where the points of the finer sheet come to
  abbrev placed : ℕ → Point
  placed v = onto_of (landing b (smooth_sheet s) v)

  finer-count : length (finer_sheet s).points ≡ finer_count n S
  unfolding finer_sheet new_points finer_count
  finer-count =
      let l = made [] (requests (point_in s.points) n 0 S) in
      length-append s.points (map position_of l) ∙ ap (λ (k : ℕ). n + k) (length-map l position_of ∙ sym (length-map l key_of) ∙ ap length (asked-made (point_in s.points) n S))

  made-is : projected_sheet b (smooth_sheet s) ≡ refined s placed
  unfolding projected_sheet smooth_sheet finer_sheet
  made-is = ap {B = Sheet} (λ (k : ℕ). record { points = tabulate placed k; quads = finer n S; labels = four_labels s.labels }) (smooth-count s)

  made-finite : every (lands_at b (smooth_sheet s)) (length (smooth_sheet s).points) ≡ true → all finite_p (refined s placed).points ≡ true
  unfolding landing
  made-finite e =
      all-tab finite_p placed (finer_count n S)
      ∙ every-each (λ v. finite_p (placed v)) (finer_count n S)
      (λ v l. onto-finite b (point_of (smooth_sheet s) v) (mask_of (smooth_sheet s).quads (smooth_sheet s).labels v) (every-at (lands_at b (smooth_sheet s)) _ v e (omega (arith, smooth-count s))))

  pub made_kept : Good s → is_large (counts_of (finer_sheet s)) ≡ false → every (lands_at b (smooth_sheet s)) (length (smooth_sheet s).points) ≡ true → Keeps s (projected_sheet b (smooth_sheet s)) 0
  unfolding finer_sheet
  made_kept a e f =
      let F = few-of (counts_of (finer_sheet s)) e in
      rw made-is (finer-kept s placed (omega (arith, finer-count, F.points≤)) (omega (arith, finer-length n S a.fine.in_range a.fine.differ, F.quads≤)) (made-finite f) a)

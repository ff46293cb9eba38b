-- The stages of the smoothed sheet, from the gathering to the three slices. Assumes nothing.
use Prim.Native.Nat.{ℕ, ◌+◌, ◌*◌, ◌%◌, ◌<◌}
use mathlib.Core.Path.{◌≡◌, sym, ◌∙◌}
use mathlib.Core.Bool.{true}
use mathlib.Core.List.{List, ◌++◌}
use native.Mathlib.Omega.{arith}
use lib.ListN.{length, get_or, take}
use lib.Ieee.{Float}
use Rattle.lists.specs.Sort.{tabulate}
use Rattle.lists.specs.Regions.{part, Kept}
use Rattle.lists.proofs.Laws.{length-tab, get_or-tab, tab-ext}
use Rattle.lists.proofs.Regions.{part_of, part-get, part-kept}
use Rattle.rule_sheet.specs.Quads.{mask_of}
use Rattle.rule_sheet.specs.Flat.{quads_of, flat_quads}
use Rattle.rule_sheet.specs.Sheet.{points_of, flat_points}
use Rattle.sheet.specs.Sheet.{masks_of}
use Rattle.sheet.proofs.Tests.{length-points}
use Rattle.sheet.specs.Results.{Front}
use Rattle.incidence.specs.Corners.{edge_order}
use Rattle.rule_finer.specs.Finer.{finer_sheet}
use Rattle.refine.specs.Requests.{firsts_of, own, child_at, label_at}
use Rattle.refine.specs.Loops.{made_to, firsts_at, numbers_at, Finished}
use Rattle.lists.specs.Steps.{nth}
use Rattle.refine.proofs.Edges.{sorted}
use Rattle.refine.proofs.Requests.{labels-flat}
use Rattle.refine.proofs.Rule.{writing-of, quads-put}
use Rattle.refine.proofs.Sheet.{quads_are}
use Rattle.rule_finer.specs.Smoothed.{smooth_sheet}
use Rattle.subdivide_points.specs.Steps.{Ends, Seconds, corner_of, moved_point, place_at, flat_sheet, masks_at, seconds_at, BeforeScratch, Listed, Gathered, moved_in, Placing, Gathering, Smoothable}
use Rattle.subdivide_points.proofs.Places.{first-corner, points-are}
use Rattle.subdivide_points.proofs.Lists.{order_below}
use Rattle.sheet.proofs.Fronts.{points-front}

-- what the gathering leaves
abbrev pub Ready : ℕ → ℕ → List ℕ → List ℕ → List ℕ → List ℕ → Type 0
Ready np nq Q H u w =
    Ends nq Q (edge_order np nq Q) H × (Listed np nq Q H w × (Seconds (seconds_at np nq) (edge_order np nq Q) (2 * nq) w × Kept (BeforeScratch np nq) u w))

module _ {np nq : ℕ} {P : List Float} {Q labels u : List ℕ} {p q l : ℕ} (S : Smoothable np nq P Q labels u p q l) where
  pub gathering-of : (room : ℕ) → room ≡ q → Gathering np nq Q room u
  gathering-of room e = record {
    cornered = S.finished.held.cornered;
    few = S.few;
    some = S.some;
    in_ends = omega (arith, S.finished.in_quads);
    work = S.work;
    order = S.finished.worked.order;
  }

  module _ {H w : List ℕ} (R : Ready np nq Q H u w) where
    -- the finer sheet is still numbered
    pub still-finished : Finished np nq P Q labels w p q l
    still-finished = record {
      held = S.finished.held;
      worked = record {
        order = part-kept S.finished.worked.order R.1.1.1 (λ i r s. omega arith);
        firsts = part-kept S.finished.worked.firsts R.1.1.1 (λ i r s. omega arith);
        numbers = part-kept S.finished.worked.numbers R.1.1.1 (λ i r s. omega arith);
      };
      labelled = S.finished.labelled;
      in_points = S.finished.in_points;
      in_quads = S.finished.in_quads;
      in_labels = S.finished.in_labels;
    }

    pub gathered-of : Gathered np nq P Q labels H w
    gathered-of = record {
      points = S.finished.held.points;
      labelled = S.finished.labelled;
      order = order_below S.finished.held.cornered still-finished.worked.order;
      listed = R.1.0;
    }

    second_at : (k : ℕ) → k < 2 * nq → get_or (part (seconds_at np nq) (4 * nq) w) (get_or (edge_order np nq Q) (2 * k) 0) 0 ≡ get_or (edge_order np nq Q) (2 * k + 1) 0
    second_at k h =
        let len : length w ≡ length u = R.1.1.1.len in
        sym (part-get 0 (get_or (edge_order np nq Q) (2 * k) 0) (part_of (seconds_at np nq) (4 * nq) w (omega (arith, S.work))) ((sorted S.finished.held.cornered).below (2 * k) (omega arith))) ∙ R.1.1.0 k h

    -- the first request of an edge has a second corner
    known : (t : ℕ) → t < 5 * nq → own (firsts_of np nq Q) t ≡ true → (t % 5 ≡ 4 → ⊥) → get_or w (seconds_at np nq + corner_of t) 0 < 4 * nq
    known t h o ne =
        let F = first-corner S.finished.held.cornered S.good S.pairs t h ne o in
        rw (← F.at, R.1.1.0 F.k F.k<) ((sorted S.finished.held.cornered).below (2 * F.k + 1) (omega (arith, F.k<)))

    pub placing-of : (room : ℕ) → room ≡ p → Placing np nq P Q labels (firsts_at np nq) (numbers_at np nq) (seconds_at np nq) (part (firsts_at np nq) (5 * nq) w) (part (numbers_at np nq) (5 * nq) w) w room
    placing-of room e = record {
      writing = writing-of still-finished room e;
      labelled = S.finished.labelled;
      in_second = omega (arith, S.work, R.1.1.1.len);
      known = rw still-finished.worked.firsts.is known;
    }

    mask_at : (v : ℕ) → v < np → get_or w (masks_at np nq + v) 0 ≡ mask_of (quads_of nq Q) (take nq labels) v
    unfolding masks_of
    mask_at v h = part-get 0 v (part-kept S.masks R.1.1.1 (λ i r s. omega arith)) h ∙ get_or-tab (mask_of (quads_of nq Q) (take nq labels)) np v 0 h

    -- the points
    pub smooth-points : {B A : List Float} → Front (flat_points (tabulate (moved_in np nq P Q labels H w) np)) B
        → Front (flat_points (points_of np B ++ made_to (part (firsts_at np nq) (5 * nq) w) (place_at P Q labels (part (seconds_at np nq) (4 * nq) w)) (5 * nq))) A
        → Front (flat_points (smooth_sheet (flat_sheet np nq P Q labels)).points) A
    smooth-points {B} {A} F G =
        let e = points-front (tabulate (moved_in np nq P Q labels H w) np) B np F (length-tab (moved_in np nq P Q labels H w) np) in
        let x = points-are S.finished.held.cornered S.good S.pairs P labels (part (seconds_at np nq) (4 * nq) w) second_at H (λ v. get_or w (masks_at np nq + v) 0) R.0 mask_at in
        let m : tabulate (moved_in np nq P Q labels H w) np ≡ tabulate (λ v. moved_point nq P Q labels (edge_order np nq Q) H (get_or w (masks_at np nq + v) 0) v) np =
        tab-ext _ _ np (λ v h. rw still-finished.worked.order.is) in
        rw (← x) (rw (e, m, still-finished.worked.firsts.is) at G)

    -- the quads
    pub smooth-quads : {A : List ℕ} → Front (flat_quads (tabulate (child_at (nth (part (numbers_at np nq) (5 * nq) w)) Q) (4 * nq))) A → Front (flat_quads (smooth_sheet (flat_sheet np nq P Q labels)).quads) A
    unfolding smooth_sheet finer_sheet
    smooth-quads {A} F = rw (length-points np P, ← quads_are S.finished.held.cornered) (quads-put still-finished F)

  -- the labels
  pub smooth-labels : {A : List ℕ} → Front (tabulate (label_at labels) (4 * nq)) A → Front (smooth_sheet (flat_sheet np nq P Q labels)).labels A
  unfolding smooth_sheet finer_sheet
  smooth-labels {A} F = rw (labels-flat nq labels S.finished.labelled) F

-- A sheet that can be merged can be prepared, and what is prepared can be visited. Assumes nothing.
use mathlib.Core.Path.{◌≡◌, sym, ap, ◌∙◌, subst}
use mathlib.Core.Bool.{true, false, cond, not}
use Prim.Native.Nat.{ℕ, ◌*◌, ◌<◌}
use mathlib.Core.List.{List, map}
use native.Mathlib.Omega.{arith}
use native.Mathlib.Decide.{ℕ_discrete}
use lib.Dec.{eqb}
use lib.Ieee.{Float}
use lib.ListN.{length, get_or, take, replicate, get_or-replicate, length-map}
use Rattle.lists.proofs.Every.{and_left, and_right, every-at}
use Rattle.lists.proofs.Laws.{is-table, tab-ext, always, tab-same}
use Rattle.rule_sheet.specs.Quads.{is, all}
use Rattle.sheet.specs.Flat.{from}
use Rattle.rule_sheet.specs.Flat.{quad_at, quads_of}
use Rattle.rule_sheet.specs.Tests.{in_range, low_label, good_corners}
use Rattle.sheet.specs.Tests.{good_quad_at}
use Rattle.sheet.proofs.Flat.{valence-flat, count-upto, length-quads}
use Rattle.rule_sheet.proofs.FirstUse.{is-other}
use Rattle.sheet.proofs.Tests.{corners-tested, length-points}
use Rattle.incidence.specs.Corners.{Cornered}
use Rattle.incidence.proofs.Corners.{cornered}
use Rattle.edges.proofs.Maps.{quads-take}
use Rattle.rule_sheet.specs.Claims.{Low, Below, Differ}
use Rattle.rule_passes.specs.Choices.{none_quad}
use Rattle.rule_regularize.proofs.Tests.{low_of, differ_of}
use Rattle.rule_coarsen.specs.Merges.{out, slot}
use Rattle.rule_coarsen.specs.Coarse.{fresh_merge}
use Rattle.coarsen_merge.specs.Steps.{is_marked, used_of, state_of}
use Rattle.rule_coarsen.specs.Invariants.{slot_at, slots_of}
use Rattle.rule_coarsen.proofs.Slots.{slot-at, inv-fresh}
use Rattle.pass_map.specs.Regions.{start_in}
use Rattle.coarsen_merge.proofs.Around.{Positive, upto-find, quad-get}
use Rattle.coarsen_pass.specs.Conditions.{PrepareAsks, PrepareLeaves, MergePassAsks}
use Rattle.coarsen_search.specs.Conditions.{MergePassHolds}
use Rattle.coarsen_search.specs.Steps.{state_in}
use Rattle.coarsen_pass.specs.Steps.{sheet_in}

-- ---- what the corners say

-- a point with a quad is one of the np
below_of : {np nq : ℕ} {Q : List ℕ} → Cornered np nq Q → Below np (quads_of nq Q)
unfolding Below
below_of {np} {nq} {Q} C v h = go (ℕ_discrete (from Q F.i) v)
  where
    F : Positive (λ c. is (from Q c) v) (4 * nq)
    F = upto-find (λ c. is (from Q c) v) (4 * nq) (rw (valence-flat nq Q v, count-upto (from Q) v (4 * nq)) at h)

    go : Dec (from Q F.i ≡ v) → v < np
    go (yes e) = subst (λ x. x < np) e (C.points F.i F.i<)
    go (no n) = absurd (omega (arith, F.more, is-other (from Q F.i) v n))

-- ---- what a pass asks

module _ {np nq : ℕ} {P : List Float} {Q labels w : List ℕ} (M : MergePassAsks np nq P Q labels w) where
  good-corners : good_corners np (quads_of nq Q) (take nq labels) ≡ true
  good-corners = sym (corners-tested np nq Q labels M.labelled) ∙ M.good

  pub sheet-of : Cornered np nq Q
  sheet-of = cornered np nq Q (take nq labels) good-corners M.few_quads M.quads

  -- a corner is a point
  some_points : 0 < np
  some_points = let c = sheet-of.points 0 (omega (arith, M.some)) in omega arith

  pub prepare-asks : PrepareAsks np nq Q labels w
  prepare-asks = record {
    map = record { sheet = sheet-of; work = record { some = some_points; few = M.few; long = M.work } };
    holds = record { quads = M.quads; labels≤ = M.labelled };
    good = M.good;
  }

  low : Low (take nq labels)
  unfolding good_corners
  low = low_of (take nq labels) (and_left (all low_label (take nq labels)) _ good-corners)

  differ : (j : ℕ) → j < nq → Differ (quad_at Q j)
  differ j h = differ_of (quad_at Q j) (and_right (in_range np (quad_at Q j)) _ (and_right (low_label (get_or labels j 0)) _ (every-at (good_quad_at np Q labels) nq j M.good h)))

-- ---- the state at the start

-- no quad is out
slots-fresh : (nq : ℕ) (Q : List ℕ) → slots_of nq Q (replicate nq 0) ≡ map slot (quads_of nq Q)
unfolding slots_of
slots-fresh nq Q = sym (is-table out (map slot (quads_of nq Q)) (slot_at Q (replicate nq 0)) nq (length-map (quads_of nq Q) slot ∙ length-quads nq Q)
    (λ q h. slot-at (quads_of nq Q) q (rw (length-quads nq Q) h) ∙ (ap slot (quad-get nq Q q h) ∙ sym (ap (λ (m : ℕ). cond (eqb m 0) (slot (quad_at Q q)) out) (get_or-replicate nq q 0 0 h)))))

-- no point is barred
used-fresh : (np : ℕ) → used_of np (replicate np 0) ≡ replicate np false
unfolding used_of
used-fresh np = tab-ext (is_marked (replicate np 0)) (always false) np (λ v h. ap (λ (m : ℕ). not (eqb m 0)) (get_or-replicate np v 0 0 h)) ∙ tab-same false np

module _ {np nq : ℕ} {Q labels w : List ℕ} (S : PrepareLeaves np nq Q labels w) where
  -- the quads at the start are those of the slice
  pub start_is : start_in np nq w ≡ quads_of nq Q
  start_is = ap (quads_of nq) S.quads.is ∙ quads-take nq Q

  -- the slices have the rule's state at the start of a pass
  pub state-is : (P : List Float) → state_in np nq P Q w 0 ≡ fresh_merge (sheet_in np nq P Q labels)
  unfolding state_of
  state-is P = rw (S.removed, S.used, slots-fresh nq Q, used-fresh np, length-points np P)

  -- a sheet that was prepared can be visited
  pub holds_of : {P : List Float} {v : List ℕ} → MergePassAsks np nq P Q labels v → MergePassHolds np nq labels (length P) Q w
  holds_of {P} {v} M = record {
    start = S.start;
    touched = S.touched;
    masked = S.masked;
    labelled = M.labelled;
    points = M.points;
    sheet = sheet-of M;
    low = low M;
    below = subst (λ s. Below np s) (sym start_is) (below_of (sheet-of M));
    differ = subst (λ s. (j : ℕ) → j < length s → Differ (get_or s j none_quad)) (sym start_is) (λ j l. let k : j < nq = omega (arith, length-quads nq Q) in subst Differ (sym (quad-get nq Q j k)) (differ M j k));
    inv = rw (start_is, S.removed, slots-fresh nq Q) (inv-fresh (quads_of nq Q) _);
  }

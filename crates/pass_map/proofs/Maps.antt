-- The map of a pass's start: the calls that make it, one after the other, and what keeps it. Assumes nothing.
use mathlib.Core.Path.{◌≡◌, ap, ◌∙◌}
use Prim.Native.Nat.{ℕ, ◌+◌, ◌*◌, ◌≤◌, ◌<◌}
use mathlib.Core.List.{List}
use native.Mathlib.Omega.{arith}
use lib.ListN.{length, take}
use Rattle.lists.specs.Sort.{tabulate}
use Rattle.lists.specs.Regions.{Part, Out, Out3, Apart, Kept, Three}
use Rattle.lists.proofs.Regions.{part_of, part-kept, kept_then}
use Rattle.rule_sheet.specs.Quads.{valence}
use Rattle.rule_sheet.specs.Flat.{quads_of}
use Rattle.rule_sheet.specs.Claims.{All, Differ}
use Rattle.rule_sheet.specs.Lent.{limit}
use Rattle.incidence.specs.Corners.{edge_order, corners_at, first_at}
use Rattle.incidence.specs.Bounds.{Bounded}
use Rattle.edges.specs.Steps.{first_edge}
use Rattle.edges.proofs.Maps.{mapped, standing, mapped-kept, standing-kept, quads-take}
use Rattle.pass_map.specs.Regions.{was_at, work_at, edge_starts_at, edges_at, point_starts_at, points_at, valences_at, Beside, was_in, start_in}
use Rattle.pass_map.specs.Conditions.{WorkFits, MapAsks, MapHolds, MapLeaves}

-- ---- the regions that the sorts ask for, in any slice as long

module _ {np nq : ℕ} {u : List ℕ} (w : List ℕ) (F : WorkFits np nq u) (e : length w ≡ length u) where
  pub edge-room : Three (work_at np nq) (4 * nq) (edge_starts_at np nq) (np + 1) (edges_at np nq) (4 * nq) w
  edge-room =
      let r = F.long in let s = F.some in
      record { in_a = omega arith; in_b = omega arith; in_c = omega arith; ab = λ i a b c d. omega arith; ac = λ i a b c d. omega arith; bc = λ i a b c d. omega arith }

  pub point-room : Three (work_at np nq) (4 * nq) (point_starts_at np nq) (np + 1) (points_at np nq) (4 * nq) w
  point-room =
      let r = F.long in let s = F.some in
      record { in_a = omega arith; in_b = omega arith; in_c = omega arith; ab = λ i a b c d. omega arith; ac = λ i a b c d. omega arith; bc = λ i a b c d. omega arith }

pub valence-room : {np nq m : ℕ} {u : List ℕ} → WorkFits np nq u → m ≡ length u → (valences_at np nq + np ≤ m) × Apart (point_starts_at np nq) (np + 1) (valences_at np nq) np
valence-room F e = let r = F.long in let s = F.some in (omega arith, λ i a b c d. omega arith)

-- ---- what the four calls leave, one after the other

module _ {np nq : ℕ} {Q u v x y w : List ℕ} (M : MapAsks np nq Q u)
    (A : Part (was_at np nq) (4 * nq) (take (4 * nq) Q) v × Kept (Out (was_at np nq) (4 * nq)) u v)
    (B : Part (edges_at np nq) (4 * nq) (edge_order np nq Q) x × (Part (edge_starts_at np nq) (np + 1) (tabulate (first_edge np nq Q) (np + 1)) x
    × Kept (Out3 (work_at np nq) (4 * nq) (edge_starts_at np nq) (np + 1) (edges_at np nq) (4 * nq)) v x))
    (C : Part (point_starts_at np nq) (np + 1) (tabulate (first_at nq Q) (np + 1)) y × (Part (points_at np nq) (4 * nq) (corners_at np nq Q) y
    × Kept (Out3 (work_at np nq) (4 * nq) (point_starts_at np nq) (np + 1) (points_at np nq) (4 * nq)) x y))
    (D : Part (valences_at np nq) np (tabulate (valence (quads_of nq Q)) np) w × (Kept (Out (valences_at np nq) np) y w
    × (All Differ (quads_of nq Q) → nq ≤ limit → Bounded (valences_at np nq) np w))) where
  was : Part (was_at np nq) (4 * nq) (take (4 * nq) Q) w
  was =
      part-kept (part-kept (part-kept A.0 B.1.1 (λ i p q. ((λ a b. omega arith), ((λ a b. omega arith), (λ a b. omega arith)))))
      C.1.1 (λ i p q. ((λ a b. omega arith), ((λ a b. omega arith), (λ a b. omega arith)))))
      D.1.0 (λ i p q. λ a b. omega arith)

  order : Part (edges_at np nq) (4 * nq) (edge_order np nq Q) w
  order = part-kept (part-kept B.0 C.1.1 (λ i p q. ((λ a b. omega arith), ((λ a b. omega arith), (λ a b. omega arith))))) D.1.0 (λ i p q. λ a b. omega arith)

  starts : Part (edge_starts_at np nq) (np + 1) (tabulate (first_edge np nq Q) (np + 1)) w
  starts =
      let s = M.work.some in
      part-kept (part-kept B.1.0 C.1.1 (λ i p q. ((λ a b. omega arith), ((λ a b. omega arith), (λ a b. omega arith))))) D.1.0 (λ i p q. λ a b. omega arith)

  beside : Kept (Beside np nq) u w
  beside =
      let s = M.work.some in
      kept_then {R = Beside np nq}
      (kept_then {R = Beside np nq}
      (kept_then {R = Beside np nq} A.1 B.1.1
      (λ i o. ((λ a b. o (omega arith) (omega arith)), ((λ a b. o (omega arith) (omega arith)), ((λ a b. o (omega arith) (omega arith)), (λ a b. o (omega arith) (omega arith)))))))
      C.1.1 (λ i o. (o, ((λ a b. o (omega arith) (omega arith)), ((λ a b. o (omega arith) (omega arith)), (λ a b. o (omega arith) (omega arith)))))))
      D.1.0 (λ i o. (o, (λ a b. o (omega arith) (omega arith))))

  pub map-made : MapLeaves np nq Q u w
  map-made =
      let s = M.work.some in
      record {
        map = record {
          work = record { some = s; few = M.work.few; long = omega (arith, M.work.long, beside.len) };
          points = standing M.sheet was (part-kept C.1.0 D.1.0 (λ i p q. λ a b. omega arith)) (part-kept C.0 D.1.0 (λ i p q. λ a b. omega arith));
          edges = mapped M.sheet was order starts;
        };
        quads = was;
        valences = D.0;
        bounded = λ d. D.1.1 d M.sheet.few;
        kept = beside;
      }

-- the quads of the start are those of the sheet
pub start_is : {np nq : ℕ} {Q w w' : List ℕ} → MapLeaves np nq Q w w' → start_in np nq w' ≡ quads_of nq Q
start_is {np} {nq} {Q} {w} {w'} L = ap (quads_of nq) L.quads.is ∙ quads-take nq Q

-- ---- what keeps the map

pub work-kept : {np nq : ℕ} {v w : List ℕ} → WorkFits np nq v → length w ≡ length v → WorkFits np nq w
work-kept F e = record { some = F.some; few = F.few; long = omega (arith, F.long) }

-- every index in front of the valences, but the masks, has P
abbrev pub Fixed : ℕ → ℕ → (ℕ → Type 0) → Type 0
Fixed np nq P = (i : ℕ) → was_at np nq ≤ i → i < valences_at np nq → P i

module _ {np nq : ℕ} {v w : List ℕ} {P : ℕ → Type 0} (M : MapHolds np nq v) (K : Kept P v w) (f : Fixed np nq P) where
  pub map-kept : MapHolds np nq w
  map-kept =
      let s = M.work.some in
      record {
        work = work-kept M.work K.len;
        points = standing-kept M.points K (λ i p q. f i (omega arith) (omega arith)) (λ i p q. f i (omega arith) (omega arith)) (λ i p q. f i (omega arith) (omega arith));
        edges = mapped-kept M.edges K (λ i p q. f i (omega arith) (omega arith)) (λ i p q. f i (omega arith) (omega arith)) (λ i p q. f i (omega arith) (omega arith));
      }

  pub was-kept : was_in np nq w ≡ was_in np nq v
  was-kept = (part-kept (part_of (was_at np nq) (4 * nq) v M.points.in_was) K (λ i p q. f i (omega arith) (omega arith))).is

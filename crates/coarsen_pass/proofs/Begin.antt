-- The start of a pass of merges: the masks, the map of its quads, and no marks. Assumes nothing.
use mathlib.Core.Path.{◌≡◌, ap, ◌∙◌}
use Prim.Native.Nat.{ℕ, ◌+◌, ◌-◌, ◌*◌, ◌≤◌}
use mathlib.Core.Bool.{true}
use mathlib.Core.List.{List}
use native.Mathlib.Omega.{arith}
use lib.ListN.{length, take, replicate}
use borrow.Rule.Slice.PartMut.{mid_of, put_mid}
use Rattle.lists.specs.Every.{every}
use Rattle.lists.specs.Sort.{tabulate}
use Rattle.lists.specs.Regions.{Part, Out, Out2, Kept}
use Rattle.lists.proofs.Regions.{Lent, lent, lent-all, length-lent, part-kept, part-as, kept_then}
use Rattle.lists.proofs.Laws.{length-tab}
use Rattle.rule_sheet.specs.Quads.{mask_of}
use Rattle.rule_sheet.specs.Flat.{quads_of}
use Rattle.sheet.specs.Flat.{mask_in}
use Rattle.sheet.specs.Tests.{good_quad_at}
use Rattle.sheet.specs.Sheet.{masks_of}
use Rattle.edges.proofs.Maps.{quads-take}
use Rattle.pass_map.specs.Regions.{was_at, start_in}
use Rattle.pass_map.specs.Conditions.{MapAsks, MapLeaves}
use Rattle.pass_map.proofs.Maps.{work-kept, start_is}
use Rattle.coarsen_merge.specs.Regions.{used_at, removed_at, touched_at}
use Rattle.coarsen_merge.specs.Conditions.{StartHolds}
use Rattle.coarsen_merge.proofs.Start.{start-kept}
use Rattle.coarsen_bars.proofs.Bars.{touched-fresh}
use Rattle.coarsen_pass.specs.Conditions.{ClearMarksLeaves, PrepareAsks, PrepareLeaves}

-- ---- masks

pub masks-ready : (Q labels : List ℕ) (nq : ℕ) (u v : List ℕ) → length v ≡ length u → v ≡ replicate (length u) 0 → every (good_quad_at (length u) Q labels) nq ≡ true
    → (every (good_quad_at (length v) Q labels) nq ≡ true) × (v ≡ replicate (length v) 0)
masks-ready Q labels nq u v l e h = rw l (h, e)

pub masks-are : (Q labels : List ℕ) (nq : ℕ) (u v w : List ℕ) → length v ≡ length u → w ≡ tabulate (mask_in Q labels nq) (length v) → w ≡ masks_of (length u) (quads_of nq Q) (take nq labels)
unfolding masks_of
masks-are Q labels nq u v w l h = rw l at h

pub masks-lent : (np nq : ℕ) (Q labels w y : List ℕ) → np ≤ length w → y ≡ masks_of (length (mid_of 0 (0 + np - 0) w)) (quads_of nq Q) (take nq labels)
    → Part 0 np (masks_of np (quads_of nq Q) (take nq labels)) (put_mid 0 (0 + np - 0) w y) × Kept (Out 0 np) w (put_mid 0 (0 + np - 0) w y)
unfolding masks_of
masks-lent np nq Q labels w y h e =
    let n : length (mid_of 0 (0 + np - 0) w) ≡ np = length-lent 0 np w (omega arith) in
    let d : y ≡ tabulate (mask_of (quads_of nq Q) (take nq labels)) np = rw n at e in
    let l : length y ≡ np = ap length d ∙ length-tab (mask_of (quads_of nq Q) (take nq labels)) np in
    let L = lent 0 np w y (omega arith) l in
    (part-as L.part d, L.kept)

-- ---- marks

-- w once its n elements from `at` on came back as y
abbrev put : ℕ → ℕ → List ℕ → List ℕ → List ℕ
put at n w y = put_mid at (at + n - at) w y

-- how many there are
abbrev many : ℕ → ℕ → List ℕ → ℕ
many at n w = length (mid_of at (at + n - at) w)

-- the three clears: u is the slice as it came, and a, b, c are the regions as they came back
pub cleared : {np nq : ℕ} (u a b c : List ℕ) → 64 * (np + nq) ≤ length u → a ≡ replicate (many (used_at np nq) np u) 0 → b ≡ replicate (many (removed_at np nq) nq (put (used_at np nq) np u a)) 0
    → c ≡ replicate (many (touched_at np nq) np (put (removed_at np nq) nq (put (used_at np nq) np u a) b)) 0
    → ClearMarksLeaves np nq u (put (touched_at np nq) np (put (removed_at np nq) nq (put (used_at np nq) np u a) b) c)
cleared {np} {nq} u a b c r e f g =
    let v = put (used_at np nq) np u a in
    let w = put (removed_at np nq) nq v b in
    let U : Lent (used_at np nq) np u (replicate np 0) v = lent-all 0 (used_at np nq) np u a (omega arith) e in
    let R : Lent (removed_at np nq) nq v (replicate nq 0) w = lent-all 0 (removed_at np nq) nq v b (omega (arith, U.kept.len)) f in
    let T = lent-all 0 (touched_at np nq) np w c (omega (arith, U.kept.len, R.kept.len)) g in
    record {
      used = part-kept (part-kept U.part R.kept (λ i p q. λ a b. omega arith)) T.kept (λ i p q. λ a b. omega arith);
      removed = part-kept R.part T.kept (λ i p q. λ a b. omega arith);
      touched = T.part;
      kept = kept_then (kept_then {R = Out2 (used_at np nq) np (removed_at np nq) nq} U.kept R.kept (λ i o. o)) T.kept (λ i o. (((λ a b. omega arith), (λ a b. omega arith)), (λ a b. omega arith)));
    }

-- ---- the whole start: u, v, x, w are the slice as it came, with masks, with the map, without marks

pub asks-kept : {np nq : ℕ} {Q u v : List ℕ} → MapAsks np nq Q u → length v ≡ length u → MapAsks np nq Q v
asks-kept M e = record { sheet = M.sheet; work = work-kept M.work e }

pub prepared : {np nq : ℕ} {u v x w : List ℕ} (Q labels : List ℕ) → PrepareAsks np nq Q labels u
    → Part 0 np (masks_of np (quads_of nq Q) (take nq labels)) v → Kept (Out 0 np) u v → MapLeaves np nq Q v x → ClearMarksLeaves np nq x w
    → PrepareLeaves np nq Q labels w
prepared {np} {nq} {u} {v} {x} {w} Q labels S P K M C =
    let X : StartHolds np nq x = record { map = M.map; valences = rw (start_is M) M.valences } in
    let G = start-kept X C.kept in
    let W : Part (was_at np nq) (4 * nq) (take (4 * nq) Q) w = part-kept M.quads C.kept (λ i p q. omega arith) in
    let same : start_in np nq w ≡ quads_of nq Q = ap (quads_of nq) W.is ∙ quads-take nq Q in
    let N : Part 0 np (masks_of np (quads_of nq Q) (take nq labels)) w = part-kept (part-kept P M.kept (λ i p q a b. omega arith)) C.kept (λ i p q. omega arith) in
    record {
      start = G;
      quads = W;
      masked = rw same N;
      used = C.used.is;
      removed = C.removed.is;
      touched = touched-fresh G C.used.is C.touched.is;
    }

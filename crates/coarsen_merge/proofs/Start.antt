-- What the regions of a pass's start give: the corners of a point, how many quads it has. Assumes nothing.
use mathlib.Core.Path.{◌≡◌, refl, sym, ap, ◌∙◌}
use mathlib.Core.Bool.{Bool, ◌&&◌}
use Prim.Native.Nat.{ℕ, ◌+◌, ◌-◌, ◌*◌, ◌/◌, ◌%◌, ◌≤◌, ◌<◌}
use mathlib.Core.List.{List}
use native.Mathlib.Omega.{arith}
use lib.Dec.{leb}
use lib.ListN.{length, get_or}
use borrow.Rule.Slice.PartMut.{mid_of}
use Rattle.lists.specs.Every.{every}
use Rattle.lists.specs.Regions.{Kept, part}
use Rattle.lists.proofs.Laws.{get_or-tab, length-tab, bucket-le}
use Rattle.lists.proofs.Order.{each-bucket, below-tab}
use Rattle.lists.proofs.Regions.{part_of, part-len, part-get, part-kept}
use Rattle.rule_sheet.specs.Quads.{Quad, valence}
use Rattle.sheet.specs.Flat.{from, to, before}
use Rattle.sheet.specs.Edges.{all_corners, point_corners}
use Rattle.sheet.proofs.Flat.{valence-flat}
use Rattle.incidence.specs.Marks.{Incident}
use Rattle.incidence.proofs.Marks.{Around, around}
use Rattle.pass_map.proofs.Maps.{map-kept, was-kept}
use Rattle.rule_coarsen.specs.Coarse.{near_free}
use Rattle.coarsen_merge.specs.declared.Span.{Span}
use Rattle.coarsen_merge.specs.declared.Sums.{Sums}
use Rattle.coarsen_masks.specs.Masks.{masks_joined}
use Rattle.coarsen_merge.specs.Steps.{not_further, shares_at, shares_none, free_around, none_further, shared_only, used_of, no_labels, meet_only, gain_of, worth_it}
use Rattle.coarsen_merge.specs.Conditions.{ListAsks, StartHolds, CornersOfLeaves, FaceAsks}
use Rattle.pass_map.specs.Regions.{was_at, point_starts_at, points_at, valences_at, was_in, start_in}
use Rattle.coarsen_merge.specs.Regions.{used_at, removed_at, used_in, Steady, touched_at}
use Rattle.coarsen_merge.proofs.Around.{further-is, further-turned, free-is, share-is, share-turned}

-- ---- the corners of a point

incident : {np nq : ℕ} {w : List ℕ} → StartHolds np nq w → Incident np nq (was_in np nq w) (point_starts_at np nq) (points_at np nq) (removed_at np nq) w
incident {np} {nq} {w} G =
    let r = G.map.work.long in let s = G.map.work.some in
    record {
      sheet = G.map.points.sheet;
      begin = G.map.points.begin;
      at = G.map.points.at;
      in_barred = omega arith;
      starts_barred = λ i a b c d. omega arith;
      order_barred = λ i a b c d. omega arith;
    }

pub corners-around : {np nq : ℕ} {w : List ℕ} (v : ℕ) → StartHolds np nq w → v < np → Around np nq (was_in np nq w) v (point_starts_at np nq) (points_at np nq) (removed_at np nq) w
corners-around v G h = around (incident G) h

pub spanned : {np nq : ℕ} {w : List ℕ} (v a b : ℕ) → StartHolds np nq w → v < np → a ≡ get_or w (point_starts_at np nq + v) 0 → b ≡ get_or w (point_starts_at np nq + v + 1) 0
    → CornersOfLeaves np nq v (record { from = points_at np nq + a; to = points_at np nq + b }) w
spanned {np} {nq} {w} v a b G h p q =
    let A = corners-around v G h in
    let l : a ≤ b = omega (arith, A.s≤) in
    let k : b ≤ 4 * nq = omega (arith, A.e≤) in
    let e : points_at np nq + b - (points_at np nq + a) ≡ b - a = omega arith in
    record {
      begin = omega arith;
      low = omega arith;
      end = omega arith;
      high = omega (arith, A.fits);
      list = rw e (rw (p, q) A.list);
    }

-- the corners of a point are corners of the sheet
pub corners-listed : {np nq : ℕ} {w : List ℕ} (v : ℕ) → StartHolds np nq w → ListAsks np nq (point_corners (was_in np nq w) nq v) (was_in np nq w)
corners-listed {np} {nq} {w} v G = record {
  sheet = G.map.points.sheet;
  known = each-bucket 0 (λ x. x < 4 * nq) (from (was_in np nq w)) v (all_corners nq) (below-tab (4 * nq)).each;
}

gap : (a n : ℕ) → a + n - a ≡ n
gap a n = omega arith

-- the lent parts: the corners of a point, the quads, the marks
pub lent-quads : (np nq : ℕ) (w : List ℕ) → mid_of (was_at np nq) (was_at np nq + 4 * nq - was_at np nq) w ≡ was_in np nq w
lent-quads np nq w = rw (gap (was_at np nq) (4 * nq)) refl

pub lent-used : (np nq : ℕ) (w : List ℕ) → mid_of (used_at np nq) (used_at np nq + np - used_at np nq) w ≡ used_in np nq w
lent-used np nq w = rw (gap (used_at np nq) np) refl

pub used-length : {np nq : ℕ} {w : List ℕ} → StartHolds np nq w → length (used_in np nq w) ≡ np
used-length {np} {nq} {w} G = part-len (part_of (used_at np nq) np w (omega (arith, G.map.work.long)))

pub listed-lent : {np nq v : ℕ} {s : Span} {w : List ℕ} → StartHolds np nq w → CornersOfLeaves np nq v s w → ListAsks np nq (mid_of s.from (s.to - s.from) w) (mid_of (was_at np nq) (was_at np nq + 4 * nq - was_at np nq) w)
listed-lent {np} {nq} {v} {s} {w} G S = rw (lent-quads np nq w) (rw S.list (corners-listed v G))

pub listed_start : {np nq v : ℕ} {s : Span} {w : List ℕ} → StartHolds np nq w → CornersOfLeaves np nq v s w → ListAsks np nq (mid_of s.from (s.to - s.from) w) (was_in np nq w)
listed_start {np} {nq} {v} {s} {w} G S = rw S.list (corners-listed v G)

pub length-lent-used : {np nq : ℕ} {w : List ℕ} → StartHolds np nq w → length (mid_of (used_at np nq) (used_at np nq + np - used_at np nq) w) ≡ np
length-lent-used {np} {nq} {w} G = ap length (lent-used np nq w) ∙ used-length G

pub further-lent : {np nq v : ℕ} {s : Span} {w : List ℕ} (f u : ℕ) (r : Bool) → CornersOfLeaves np nq v s w
    → r ≡ every (not_further (mid_of s.from (s.to - s.from) w) (mid_of (was_at np nq) (was_at np nq + 4 * nq - was_at np nq) w) f u) (length (mid_of s.from (s.to - s.from) w))
    → r ≡ none_further (was_in np nq w) nq f v u
unfolding none_further
further-lent {np} {nq} {v} {s} {w} f u r S h = rw (lent-quads np nq w, S.list) at h

pub shared-lent : {np nq v : ℕ} {s : Span} {w : List ℕ} (b d u : ℕ) (r : Bool) → CornersOfLeaves np nq v s w
    → r ≡ every (shares_none (mid_of s.from (s.to - s.from) w) (was_in np nq w) (start_in np nq w) b d u) (length (mid_of s.from (s.to - s.from) w))
    → r ≡ shared_only (was_in np nq w) nq v b u d
unfolding shared_only
shared-lent {np} {nq} {v} {s} {w} b d u r S h = rw S.list at h

-- ---- numbers of quads

-- what is read for the point v
pub record Valence (np nq v : ℕ) (w : List ℕ) : Type 0 where
  pub in_w : valences_at np nq + v < length w
  pub is : get_or w (valences_at np nq + v) 0 ≡ valence (start_in np nq w) v
  pub most : valence (start_in np nq w) v ≤ 4194304

pub valence-at : {np nq : ℕ} {w : List ℕ} (v : ℕ) → StartHolds np nq w → v < np → Valence np nq v w
valence-at {np} {nq} {w} v G h =
    let r = G.map.work.long in
    let f = G.map.points.sheet.few in
    let e = valence-flat nq (was_in np nq w) v in
    let b = bucket-le (from (was_in np nq w)) (all_corners nq) v in
    let l = length-tab (λ (i : ℕ). i) (4 * nq) in
    record {
      in_w = omega arith;
      is = part-get 0 v G.valences h ∙ get_or-tab (valence (start_in np nq w)) np v 0 h;
      most = omega arith;
    }

-- the numbers at the corners of a quad are small enough for their sums
pub few_quads : {np nq a b c d : ℕ} {w : List ℕ} → StartHolds np nq w → FaceAsks np nq a b c d w
    → valence (start_in np nq w) a + valence (start_in np nq w) b + valence (start_in np nq w) c + valence (start_in np nq w) d ≤ 16777216
few_quads {np} {nq} {a} {b} {c} {d} {w} G F =
    let p = valence-at a G F.a< in let q = valence-at b G F.b< in let r = valence-at c G F.c< in let s = valence-at d G F.d< in
    omega (arith, p.most, q.most, r.most, s.most)

-- ---- neighbours

-- the neighbours at corner c, as they are read
pub record Ends (np nq c : ℕ) (w : List ℕ) : Type 0 where
  pub in_before : was_at np nq + (c / 4 * 4 + (c + 3) % 4) < length w
  pub in_to : was_at np nq + (c / 4 * 4 + (c + 1) % 4) < length w
  pub before_is : get_or w (was_at np nq + (c / 4 * 4 + (c + 3) % 4)) 0 ≡ before (was_in np nq w) c
  pub to_is : get_or w (was_at np nq + (c / 4 * 4 + (c + 1) % 4)) 0 ≡ to (was_in np nq w) c
  pub before< : before (was_in np nq w) c < np
  pub to< : to (was_in np nq w) c < np

pub ends_at : {np nq : ℕ} {w : List ℕ} (c : ℕ) → StartHolds np nq w → c < 4 * nq → Ends np nq c w
ends_at {np} {nq} {w} c G h =
    let f = G.map.points.in_was in
    let W = part_of (was_at np nq) (4 * nq) w f in
    let p : c / 4 * 4 + (c + 3) % 4 < 4 * nq = omega arith in
    let q : c / 4 * 4 + (c + 1) % 4 < 4 * nq = omega arith in
    record {
      in_before = omega arith;
      in_to = omega arith;
      before_is = part-get 0 (c / 4 * 4 + (c + 3) % 4) W p;
      to_is = part-get 0 (c / 4 * 4 + (c + 1) % 4) W q;
      before< = G.map.points.sheet.points (c / 4 * 4 + (c + 3) % 4) p;
      to< = G.map.points.sheet.points (c / 4 * 4 + (c + 1) % 4) q;
    }

pub shares-turn : (cs Q : List ℕ) (S : List Quad) (b d v t c : ℕ) (r k : Bool) → c ≡ get_or cs t 0 → r ≡ shares_at Q S b d v c → r ≡ k → shares_none cs Q S b d v t ≡ k
shares-turn cs Q S b d v t c r k e f g = rw (← e) (sym f ∙ g)

-- ---- the tests together

pub meet-first : {np nq : ℕ} {w : List ℕ} (f a b c d : ℕ) (r s : Bool) → StartHolds np nq w → r ≡ shared_only (was_in np nq w) nq a b c d → s ≡ none_further (was_in np nq w) nq f a c
    → (r && s) ≡ meet_only np nq f a b c d w
unfolding meet_only shared_only none_further
meet-first {np} {nq} {w} f a b c d r s G p q =
    rw (p, q, share-is np nq no_labels (was_in np nq w) a b c d G.map.points.sheet, further-is np no_labels (was_in np nq w) nq f a c) refl

pub meet-second : {np nq : ℕ} {w : List ℕ} (f a b c d : ℕ) (r s : Bool) → StartHolds np nq w → r ≡ shared_only (was_in np nq w) nq c b a d → s ≡ none_further (was_in np nq w) nq f c a
    → (r && s) ≡ meet_only np nq f a b c d w
unfolding meet_only
meet-second {np} {nq} {w} f a b c d r s G p q =
    let h = meet-first f c b a d r s G p q in
    rw (share-turned np (start_in np nq w) no_labels a b c d, further-turned np (start_in np nq w) no_labels f a c) at h

pub free-both : {np nq : ℕ} {w : List ℕ} (a c : ℕ) (r s : Bool) → StartHolds np nq w → r ≡ free_around (was_in np nq w) (used_in np nq w) nq a → s ≡ free_around (was_in np nq w) (used_in np nq w) nq c
    → (r && s) ≡ near_free np (start_in np nq w) no_labels (used_of np (used_in np nq w)) a c
unfolding free_around
free-both {np} {nq} {w} a c r s G p q = rw (p, q) (free-is np nq no_labels (was_in np nq w) (used_in np nq w) a c G.map.points.sheet)

pub worth-is : (np nq a b c d : ℕ) (w : List ℕ) (j : Bool) (vb vd : ℕ) (s : Sums) → j ≡ masks_joined (get_or w a 0) (get_or w c 0) → vb ≡ valence (start_in np nq w) b → vd ≡ valence (start_in np nq w) d
    → s ≡ gain_of np nq a b c d w → (j && leb 4 vb && leb 4 vd && leb s.after s.before) ≡ worth_it np nq a b c d w
unfolding worth_it gain_of
worth-is np nq a b c d w j vb vd s p q r e = rw (p, q, r, e) refl

-- ---- what keeps the regions of the start

pub was-steady : {np nq : ℕ} {v w : List ℕ} → StartHolds np nq v → Kept (Steady np nq) v w → was_in np nq w ≡ was_in np nq v
was-steady G K = was-kept G.map K (λ i p q. omega arith)

pub start-kept : {np nq : ℕ} {v w : List ℕ} → StartHolds np nq v → Kept (Steady np nq) v w → StartHolds np nq w
start-kept G K = record {
  map = map-kept G.map K (λ i p q. omega arith);
  valences = rw (was-steady G K) (part-kept G.valences K (λ i p q. omega arith));
}

-- where the mark of quad f stands
pub removed-in : {np nq : ℕ} {P : ℕ → Type 0} {v w : List ℕ} (f : ℕ) → StartHolds np nq v → Kept P v w → f < nq → removed_at np nq + f < length w
removed-in f G K h = omega (arith, G.map.work.long, K.len)

-- ---- the marks

-- what is read for the point v
pub record Read (at np v : ℕ) (w : List ℕ) : Type 0 where
  pub in_w : at + v < length w
  pub is : get_or w (at + v) 0 ≡ get_or (part at np w) v 0

pub read_at : {at np : ℕ} {w : List ℕ} (v : ℕ) → at + np ≤ length w → v < np → Read at np v w
read_at {at} {np} {w} v f h = record { in_w = omega arith; is = part-get 0 v (part_of at np w f) h }

pub touch-read : {np nq : ℕ} {w : List ℕ} (v : ℕ) → StartHolds np nq w → v < np → Read (touched_at np nq) np v w
touch-read v G h = let r = G.map.work.long in read_at v (omega arith) h

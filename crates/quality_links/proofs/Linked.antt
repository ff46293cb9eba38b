-- One link after the other: its corners, their joins, the walk, and the count of the bad ones. Assumes nothing.
use Prim.Native.Nat.{ℕ, ◌+◌, ◌-◌, ◌*◌, ◌≤◌, ◌<◌}
use mathlib.Core.Path.{◌≡◌, refl, sym, ap, ◌∙◌}
use mathlib.Core.Bool.{Bool, true, false, not, ◌&&◌}
use mathlib.Core.List.{List}
use native.Mathlib.Omega.{arith}
use lib.Dec.{eqb}
use lib.ListN.{length, get_or, replicate, get_or-replicate}
use borrow.Author.Tests.{eq-eqb, ne_eqb, not-true}
use borrow.Rule.Slice.PartMut.{mid_of, put_mid}
use Rattle.lists.specs.Every.{every}
use Rattle.lists.specs.Regions.{part, Part, Out2, Kept}
use Rattle.lists.proofs.Laws.{get_or-tab, start-mono}
use Rattle.lists.proofs.Order.{each-bucket, below-tab}
use Rattle.lists.proofs.Regions.{part-as, part-sub, part-len, part-get, part-kept, kept_refl, kept_then, kept_less, lent-all}
use Rattle.rule_sheet.specs.Quads.{num, valence}
use Rattle.rule_sheet.specs.Closed.{ind, at_point}
use Rattle.sheet.specs.Flat.{from, before, to}
use Rattle.rule_sheet.specs.Flat.{quads_of}
use Rattle.sheet.specs.Edges.{all_corners, point_corners}
use Rattle.sheet.proofs.Flat.{valence-flat}
use Rattle.incidence.specs.Corners.{corners_at, first_at}
use Rattle.incidence.proofs.Corners.{valence-turn}
use Rattle.incidence.proofs.Marks.{corners-part}
use Rattle.rule_quality.specs.Census.{connected, none_or_two, good_link, bad_links}
use Rattle.edges.proofs.Counting.{Counted, counted_start, counted-turn, counted-end}
use Rattle.quality_counts.proofs.Arcs.{ind-same}
use Rattle.quality_links.specs.Links.{other_end, joins_to, degree_to, others_to, Joining, Joins, Unjoined, two_at, Twos, Walkable, OneLink, one_round, LinkRoom}
use Rattle.quality_links.proofs.Rounds.{touch, twos, joined-below}
use Rattle.quality_links.proofs.Joining.{joining-kept, joining-own, Read, read-corner}
use Rattle.quality_links.proofs.Flat.{joins-link, joins_at, Counts, two-test}

-- ---- one link whose joins are registered

module _ {np nq : ℕ} {Q : List ℕ} {v from m deg acc : ℕ} {w : List ℕ} (L : OneLink np nq Q v from m deg acc w) where
  sums-link : (g : ℕ → ℕ → ℕ) → joins_to Q (point_corners Q nq v) g m ≡ at_point (quads_of nq Q) v g
  sums-link g = rw L.count (joins-link Q nq v g)

  counts-link : Counts np nq Q (point_corners Q nq v) v m deg w
  counts-link = record {
    good = L.good;
    before< = L.joining.before<;
    after< = L.joining.after<;
    sums = sums-link;
    degrees = λ x h. L.joins.degrees x h ∙ sums-link (touch x);
  }

  valence-link : m ≡ valence (quads_of nq Q) v
  valence-link = L.count ∙ sym (valence-flat nq Q v)

  -- what the test of the corners tells
  pub test-link : {r : Bool} → r ≡ every (two_at Q deg w (part from m w)) m → r ≡ every (none_or_two (quads_of nq Q) v) np
  test-link e = e ∙ rw L.joining.at.is (two-test counts-link)

  pub link-failed : {r : Bool} → r ≡ every (two_at Q deg w (part from m w)) m → not r ≡ true → false ≡ one_round np (quads_of nq Q) v
  link-failed {r} e n =
      let f : every (none_or_two (quads_of nq Q) v) np ≡ false = sym (test-link e) ∙ not-true r n in
      rw f (none (connected np (quads_of nq Q) v))
    where
      none : (a : Bool) → false ≡ (a && false)
      none true = refl
      none false = refl

  pub joining-part : Joining np Q (part from m w) from m deg acc w
  joining-part = joining-own L.joining

  pub degrees-part : (x : ℕ) → x < np → get_or w (deg + x) 0 ≡ degree_to Q (part from m w) m x
  degrees-part = rw L.joining.at.is L.joins.degrees

  -- the first corner
  pub first_read : (c : ℕ) → c ≡ get_or w from 0 → Read np Q (point_corners Q nq v) deg w 0 c
  first_read c e = let z : from ≡ from + 0 = omega arith in read-corner c L.joining L.used (e ∙ ap (λ (i : ℕ). get_or w i 0) z)

  pub walkable : (p n : ℕ) → every (none_or_two (quads_of nq Q) v) np ≡ true → p ≡ before Q (get_or (point_corners Q nq v) 0 0) → n ≡ to Q (get_or (point_corners Q nq v) 0 0)
      → Walkable np nq Q v acc p n w
  walkable p n t ep en =
      let two : Twos (quads_of nq Q) v = twos np (quads_of nq Q) L.good v t in
      let few = L.joining.few in
      record {
        good = L.good;
        few = omega (arith, valence-link);
        fits = L.joining.in_acc;
        twos = two;
        starts = rw (ep, en) (start (before Q (get_or (point_corners Q nq v) 0 0)) (to Q (get_or (point_corners Q nq v) 0 0)) refl refl);
        sums = λ x d.
            let e = sums-link (touch x) in
            let f = two x d in
            L.joins.sums x (joined-below np (quads_of nq Q) L.good v x d) (omega arith) (omega arith) ∙ sums-link (other_end x);
      }
    where
      start : (p n : ℕ) → p ≡ before Q (get_or (point_corners Q nq v) 0 0) → n ≡ to Q (get_or (point_corners Q nq v) 0 0) → 0 < at_point (quads_of nq Q) v (ind p n)
      start p n ep en =
          let a : ind p n p n ≤ joins_to Q (point_corners Q nq v) (ind p n) m = rw (← ep, ← en) at (joins_at Q (point_corners Q nq v) (ind p n) m 0 L.used) in
          omega (arith, a, ind-same p n, sums-link (ind p n))

  pub link-round : (r : ℕ) → every (none_or_two (quads_of nq Q) v) np ≡ true → eqb r (valence (quads_of nq Q) v) ≡ connected np (quads_of nq Q) v → eqb r m ≡ one_round np (quads_of nq Q) v
  link-round r t e = ap (eqb r) valence-link ∙ e ∙ rw t (all (connected np (quads_of nq Q) v))
    where
      all : (a : Bool) → a ≡ (a && true)
      all true = refl
      all false = refl

pub from-not : (b : Bool) → not b ≡ false → b ≡ true
from-not true e = refl
from-not false e = sym e

-- ---- the corners of a point

pub record AtLink (np nq : ℕ) (Q : List ℕ) (v order deg acc : ℕ) (w : List ℕ) (s e : ℕ) : Type 0 where
  pub le : s ≤ e
  pub fits : order + s + (e - s) ≤ length w
  pub count : e - s ≡ length (point_corners Q nq v)
  pub joining : Joining np Q (point_corners Q nq v) (order + s) (e - s) deg acc w

corners-fit : (np nq : ℕ) (Q : List ℕ) {order : ℕ} {w : List ℕ} (v : ℕ) → Part order (4 * nq) (corners_at np nq Q) w → v < np → first_at nq Q v + valence (quads_of nq Q) v ≤ 4 * nq
unfolding first_at corners_at
corners-fit np nq Q v P h = omega (arith, valence-flat nq Q v, start-mono (from Q) (all_corners nq) v np h, part-len P)

pub at-link : {np nq : ℕ} {Q : List ℕ} {v starts order deg acc : ℕ} {w : List ℕ} (s e : ℕ) → LinkRoom np nq Q starts order deg acc w → v < np
    → s ≡ get_or w (starts + v) 0 → e ≡ get_or w (starts + v + 1) 0 → AtLink np nq Q v order deg acc w s e
at-link {np} {nq} {Q} {v} {starts} {order} {deg} {acc} {w} s e R h es ee =
    let N = valence-turn v R.begin h in
    let b : v < np + 1 = omega arith in
    let f : s ≡ first_at nq Q v = es ∙ part-get 0 v R.begin b ∙ get_or-tab (first_at nq Q) (np + 1) v 0 b in
    let m : e - s ≡ valence (quads_of nq Q) v = ap (λ (x : ℕ). x - s) ee ∙ ap (λ (x : ℕ). get_or w (starts + v + 1) 0 - x) es ∙ N.is in
    let t : first_at nq Q v + valence (quads_of nq Q) v ≤ 4 * nq = corners-fit np nq Q v R.at h in
    let l = N.le in
    let P : Part (order + s) (e - s) (point_corners Q nq v) w = rw (m, f) (part-as (part-sub (first_at nq Q v) (valence (quads_of nq Q) v) R.at t) (corners-part np nq Q v h)) in
    let n : length (point_corners Q nq v) ≡ e - s = part-len P in
    let each : (i : ℕ) → i < length (point_corners Q nq v) → get_or (point_corners Q nq v) i 0 < 4 * nq = each-bucket 0 (λ x. x < 4 * nq) (from Q) v (all_corners nq) (below-tab (4 * nq)).each in
    let few = R.sheet.few in
    let quads = R.sheet.quads in
    record {
      le = omega arith;
      fits = P.fits;
      count = sym n;
      joining = record {
        few = omega arith;
        points = R.points;
        at = P;
        known = λ i q. let x = each i (omega arith) in omega arith;
        before< = λ i q. let x = each i (omega arith) in R.sheet.points _ (omega arith);
        after< = λ i q. let x = each i (omega arith) in R.sheet.points _ (omega arith);
        in_deg = R.in_deg;
        in_acc = R.in_acc;
        from_deg = λ i p q. R.order_deg i (omega arith) (omega arith);
        from_acc = λ i p q. R.order_acc i (omega arith) (omega arith);
        deg_acc = R.deg_acc;
      };
    }

-- ---- a link from beginning to end

pub one_link : {np nq : ℕ} {Q : List ℕ} {v starts order deg acc : ℕ} {u w : List ℕ} {s e : ℕ} → LinkRoom np nq Q starts order deg acc u → AtLink np nq Q v order deg acc u s e → (e - s ≡ 0 → ⊥)
    → Joins np (degree_to Q (part (order + s) (e - s) u) (e - s)) (others_to Q (part (order + s) (e - s) u) (e - s)) deg acc w → Kept (Out2 deg np acc np) u w
    → OneLink np nq Q v (order + s) (e - s) deg acc w
one_link {np} {nq} {Q} {v} {starts} {order} {deg} {acc} {u} {w} {s} {e} R A n J K = record {
  good = R.good;
  used = omega arith;
  count = A.count;
  joining = joining-kept A.joining K;
  joins = rw A.joining.at.is at J;
}

pub link-empty : {np nq : ℕ} {Q : List ℕ} {v order deg acc : ℕ} {w : List ℕ} {s e : ℕ} → AtLink np nq Q v order deg acc w s e → e - s ≡ 0 → false ≡ good_link np (quads_of nq Q) v
unfolding good_link
link-empty {np} {nq} {Q} {v} A z =
    let e : valence (quads_of nq Q) v ≡ 0 = valence-flat nq Q v ∙ sym A.count ∙ z in
    rw (eq-eqb (valence (quads_of nq Q) v) 0 e)

pub link-good : {np nq : ℕ} {Q : List ℕ} {v from m deg acc : ℕ} {w : List ℕ} {r : Bool} → OneLink np nq Q v from m deg acc w → r ≡ one_round np (quads_of nq Q) v → r ≡ good_link np (quads_of nq Q) v
unfolding good_link
link-good {np} {nq} {Q} {v} {from} {m} {deg} {acc} {w} {r} L e =
    let u = L.used in
    rw (ne_eqb (valence (quads_of nq Q) v) 0 (λ z. omega (arith, valence-link L))) e

-- ---- all points

-- what a link asks stands where only counts and sums were written
pub room-kept : {np nq : ℕ} {Q : List ℕ} {starts order deg acc : ℕ} {u w : List ℕ} → LinkRoom np nq Q starts order deg acc u → Kept (Out2 deg np acc np) u w
    → LinkRoom np nq Q starts order deg acc w
room-kept R K =
    let l = K.len in
    record {
      sheet = R.sheet;
      good = R.good;
      points = R.points;
      begin = part-kept R.begin K (λ i p q. (R.starts_deg i p q, R.starts_acc i p q));
      at = part-kept R.at K (λ i p q. (R.order_deg i p q, R.order_acc i p q));
      in_deg = omega (arith, R.in_deg);
      in_acc = omega (arith, R.in_acc);
      starts_deg = R.starts_deg;
      starts_acc = R.starts_acc;
      order_deg = R.order_deg;
      order_acc = R.order_acc;
      deg_acc = R.deg_acc;
    }

-- the link of point v is bad
abbrev pub is_bad : ℕ → ℕ → List ℕ → ℕ → Bool
is_bad np nq Q v = not (good_link np (quads_of nq Q) v)

-- after v points
pub record LinksTo (np nq : ℕ) (Q : List ℕ) (starts order deg acc : ℕ) (u w : List ℕ) (count v : ℕ) : Type 0 where
  pub room : LinkRoom np nq Q starts order deg acc w
  pub none : Unjoined np deg w
  pub counted : Counted (is_bad np nq Q) np count v
  pub kept : Kept (Out2 deg np acc np) u w

pub links-start : {np nq : ℕ} {Q : List ℕ} {starts order deg acc : ℕ} {u : List ℕ} (y : List ℕ) → LinkRoom np nq Q starts order deg acc u
    → y ≡ replicate (length (mid_of deg (deg + np - deg) u)) 0 → LinksTo np nq Q starts order deg acc u (put_mid deg (deg + np - deg) u y) 0 0
links-start {np} {nq} {Q} {starts} {order} {deg} {acc} {u} y R e =
    let L = lent-all 0 deg np u y R.in_deg e in
    let K : Kept (Out2 deg np acc np) u (put_mid deg (deg + np - deg) u y) = kept_less L.kept (λ i o. o.0) in
    record {
      room = room-kept R K;
      none = λ x h. part-get 0 x L.part h ∙ get_or-replicate np x 0 0 h;
      counted = counted_start (is_bad np nq Q) np;
      kept = K;
    }

-- the same seen from where it stands
pub links-here : {np nq : ℕ} {Q : List ℕ} {starts order deg acc : ℕ} {u w : List ℕ} {count v : ℕ} → LinksTo np nq Q starts order deg acc u w count v → LinksTo np nq Q starts order deg acc w w count v
links-here {np} {nq} {Q} {starts} {order} {deg} {acc} {u} {w} G = record { room = G.room; none = G.none; counted = G.counted; kept = kept_refl (Out2 deg np acc np) w }

pub links-turn : {np nq : ℕ} {Q : List ℕ} {starts order deg acc : ℕ} {u w : List ℕ} {count v : ℕ} (x : List ℕ) (r : Bool) (k : ℕ) → LinksTo np nq Q starts order deg acc u w count v → v < np
    → (r ≡ good_link np (quads_of nq Q) v) × (Unjoined np deg x × Kept (Out2 deg np acc np) w x) → k ≡ num (not r) → LinksTo np nq Q starts order deg acc u x (count + k) (v + 1)
links-turn x r k G h E e = record {
  room = room-kept G.room E.1.1;
  none = E.1.0;
  counted = counted-turn k G.counted h (e ∙ ap (λ (b : Bool). num (not b)) E.0);
  kept = kept_then G.kept E.1.1 (λ i o. (o, o));
}

pub links_end : {np nq : ℕ} {Q : List ℕ} {starts order deg acc : ℕ} {u w : List ℕ} {count v : ℕ} → LinksTo np nq Q starts order deg acc u w count v → np ≤ v
    → (count ≡ bad_links np (quads_of nq Q)) × Kept (Out2 deg np acc np) u w
unfolding bad_links
links_end G h = (counted-end G.counted h, G.kept)

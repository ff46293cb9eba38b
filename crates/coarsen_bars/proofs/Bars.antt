-- Barring: a point, the corners of a quad, those of the quads around a point, and a merge. Assumes nothing.
use mathlib.Core.Path.{◌≡◌, sym, ap, ◌∙◌}
use mathlib.Core.Bool.{false, not, ◌&&◌}
use Prim.Native.Nat.{ℕ, ◌+◌, ◌-◌, ◌*◌, ◌/◌, ◌≤◌, ◌<◌}
use mathlib.Core.List.{List}
use native.Mathlib.Omega.{arith}
use lib.Dec.{eqb}
use lib.ListN.{length, get_or, set, replicate, get_or-replicate}
use Rattle.lists.specs.Every.{some}
use Rattle.lists.specs.Sort.{tabulate}
use Rattle.lists.specs.Regions.{part, Part, Out, Out2, Kept}
use Rattle.lists.proofs.Every.{some-zero}
use Rattle.lists.proofs.Laws.{get_or-tab, is-tab}
use Rattle.lists.proofs.Regions.{part_of, part-len, part-get, part-set, part-set-out, part-as, part-kept, kept_set, kept_refl, kept_then, kept_less}
use Rattle.rule_sheet.specs.Flat.{corner}
use Rattle.sheet.specs.Edges.{point_corners}
use Rattle.coarsen_merge.specs.declared.Span.{Span}
use Rattle.coarsen_merge.specs.Steps.{unmarked, free_around}
use Rattle.coarsen_bars.specs.Steps.{marked_by, marked_in, reaches, marked_to, joins, marked_near, renamed_quads, marked_both}
use Rattle.pass_map.specs.Regions.{was_at, points_at, was_in}
use Rattle.coarsen_merge.specs.Regions.{used_at, removed_at, touched_at, used_in, touched_in, Steady}
use Rattle.coarsen_merge.specs.Conditions.{StartHolds, TouchedHolds, CornersOfLeaves}
use Rattle.coarsen_bars.specs.Conditions.{MarkPointsAsks, BarLeaves, MergeLeaves}
use Rattle.coarsen_bars.proofs.Marks.{pointing-start, more-points, quad-marks, near-marks, more-marks}
use Rattle.coarsen_merge.proofs.Start.{corners-listed, used-length, was-steady, start-kept, Read, read_at}
use Rattle.coarsen_bars.proofs.Touches.{mark-put, free-put, free-again, free-fresh}

-- ---- the marks

pub used-read : {np nq : ℕ} {w : List ℕ} (v : ℕ) → StartHolds np nq w → v < np → Read (used_at np nq) np v w
used-read v G h = let r = G.map.work.long in read_at v (omega arith) h

-- the marks of points are no regions of the start
pub only-touched : (np nq : ℕ) {v w : List ℕ} → Kept (Out (touched_at np nq) np) v w → Kept (Steady np nq) v w
only-touched np nq K = kept_less K (λ i o a b. omega arith)

pub only-points : (np nq : ℕ) {v w : List ℕ} → Kept (Out2 (used_at np nq) np (touched_at np nq) np) v w → Kept (Steady np nq) v w
only-points np nq K = kept_less K (λ i o. ((λ a b. omega arith), (λ a b. omega arith)))

-- the regions as they are keep the touched points
pub touched-as : {np nq : ℕ} {v w : List ℕ} → TouchedHolds np nq v → was_in np nq w ≡ was_in np nq v → used_in np nq w ≡ used_in np nq v → touched_in np nq w ≡ touched_in np nq v → TouchedHolds np nq w
touched-as {np} {nq} {v} {w} T s u t = record { is = λ x h. rw (s, u, t) (T.is x h) }

-- no barred point touches any
pub touched-fresh : {np nq : ℕ} {w : List ℕ} → StartHolds np nq w → used_in np nq w ≡ replicate np 0 → touched_in np nq w ≡ replicate np 0 → TouchedHolds np nq w
touched-fresh {np} {nq} {w} G u t = record { is = λ v h. rw (u, t) (ap (λ (m : ℕ). eqb m 0) (get_or-replicate np v 0 0 h) ∙ sym (free-fresh v (corners-listed v G))) }

-- ---- a point: w is the slice as it came

module _ {np nq : ℕ} {w : List ℕ} (x : ℕ) (G : StartHolds np nq w) (T : TouchedHolds np nq w) (x< : x < np) where
  abbrev w' : List ℕ
  w' = set w (used_at np nq + x) 1

  U' : Part (used_at np nq) np (set (used_in np nq w) x 1) w'
  U' = part-set x 1 (part_of (used_at np nq) np w (omega (arith, G.map.work.long))) x<

  T' : touched_in np nq w' ≡ touched_in np nq w
  T' = (part-set-out (used_at np nq + x) 1 (part_of (touched_at np nq) np w (omega (arith, G.map.work.long))) (λ p q. omega arith)).is

  K' : Kept (Out2 (used_at np nq) np (touched_at np nq) np) w w'
  K' = kept_set (used_at np nq + x) 1 (kept_refl _ w) (λ o. o.0 (omega arith) (omega arith))

  S' : was_in np nq w' ≡ was_in np nq w
  S' = was-steady G (only-points np nq K')

  pub grounds-barred : StartHolds np nq w'
  grounds-barred = start-kept G (only-points np nq K')

  many : x < length (used_in np nq w)
  many = rw (used-length G) x<

  -- it was barred
  pub barred-again : unmarked (used_in np nq w) x ≡ false → BarLeaves np nq (set (used_in np nq w) x 1) w w'
  barred-again m = record {
    used = U';
    touched = record { is = λ v h. rw (T', S', U'.is) (T.is v h ∙ sym (free-again (was_in np nq w) (used_in np nq w) nq x v many m)) };
    kept = K';
  }

  -- it was not, and the corners of the quads at it are touched
  pub barred-first : {y : List ℕ} → Part (touched_at np nq) np (tabulate (marked_near (was_in np nq w') (touched_in np nq w') nq x) np) y → Kept (Out (touched_at np nq) np) w' y
      → BarLeaves np nq (set (used_in np nq w) x 1) w y
  barred-first {y} P K =
      let U'' : Part (used_at np nq) np (set (used_in np nq w) x 1) y = part-kept U' K (λ i p q. λ a b. omega arith) in
      let S'' : was_in np nq y ≡ was_in np nq w = was-steady grounds-barred (only-touched np nq K) ∙ S' in
      record {
        used = U'';
        touched = record { is = λ v h. rw (P.is, S'', U''.is) (get_or-mark v h ∙ sym (free-put (was_in np nq w) (used_in np nq w) nq x v many)) };
        kept = kept_then K' K (λ i o. (o, o.1));
      }
    where
      get_or-mark : (v : ℕ) → v < np → unmarked (tabulate (marked_near (was_in np nq w') (touched_in np nq w') nq x) np) v ≡ (free_around (was_in np nq w) (used_in np nq w) nq v && not (some (joins (was_in np nq w) x v) nq))
      get_or-mark v h = ap (λ (m : ℕ). eqb m 0) (get_or-tab (marked_near (was_in np nq w') (touched_in np nq w') nq x) np v 0 h)
          ∙ rw (S', T') (mark-put (some (joins (was_in np nq w) x v) nq) (get_or (touched_in np nq w) v 0) ∙ ap (λ b. b && not (some (joins (was_in np nq w) x v) nq)) (T.is v h))

-- ---- the corners of a quad

-- element j of the four is corner j
pub quad-listed : {np nq : ℕ} {w : List ℕ} (q j : ℕ) → StartHolds np nq w → q < nq → j < 4 → get_or (part (was_at np nq + 4 * q) 4 w) j 0 ≡ corner (was_in np nq w) q j
quad-listed {np} {nq} {w} q j G h l =
    let f = G.map.points.in_was in
    let W = part_of (was_at np nq) (4 * nq) w f in
    let P = part_of (was_at np nq + 4 * q) 4 w (omega arith) in
    let s : was_at np nq + 4 * q + j ≡ was_at np nq + (4 * q + j) = omega arith in
    sym (part-get 0 j P l) ∙ ap (λ (x : ℕ). get_or w x 0) s ∙ part-get 0 (4 * q + j) W (omega arith)

-- they can be marked behind the regions of the start
pub quad-marking : {np nq : ℕ} {w : List ℕ} (at q : ℕ) → StartHolds np nq w → q < nq → used_at np nq ≤ at → at + np ≤ length w → MarkPointsAsks (was_at np nq + 4 * q) 4 at np (part (was_at np nq + 4 * q) 4 w) w
quad-marking {np} {nq} {w} at q G h k f =
    let r = G.map.work.long in
    let W = part_of (was_at np nq) (4 * nq) w G.map.points.in_was in
    record {
      at = part_of (was_at np nq + 4 * q) 4 w (omega (arith, W.fits));
      known = λ i l. rw (quad-listed q i G h l) (G.map.points.sheet.points (4 * q + i) (omega arith));
      in_to = f;
      apart = λ i a b c d. omega arith;
    }

pub touch-marking : {np nq : ℕ} {w : List ℕ} (q : ℕ) → StartHolds np nq w → q < nq → MarkPointsAsks (was_at np nq + 4 * q) 4 (touched_at np nq) np (part (was_at np nq + 4 * q) 4 w) w
touch-marking {np} {nq} q G h = let r = G.map.work.long in quad-marking (touched_at np nq) q G h (omega arith) (omega arith)

-- the loop that bars them: v is the slice as it came
pub record Barring (np nq q : ℕ) (v w : List ℕ) (j : ℕ) : Type 0 where
  pub grounds : StartHolds np nq w
  pub barred : BarLeaves np nq (tabulate (marked_by (part (was_at np nq + 4 * q) 4 v) (used_in np nq v) j) np) v w

pub barring-start : {np nq : ℕ} {v : List ℕ} (q : ℕ) → StartHolds np nq v → TouchedHolds np nq v → q < nq → Barring np nq q v v 0
barring-start {np} {nq} {v} q G T h = let r = G.map.work.long in record {
  grounds = G;
  barred = record { used = (pointing-start (quad-marking (used_at np nq) q G h (omega arith) (omega arith))).marks; touched = T; kept = kept_refl _ v };
}

pub record BarTurn (np nq q : ℕ) (v w : List ℕ) (j c : ℕ) : Type 0 where
  pub at< : was_at np nq + 4 * q + j < length w
  pub c< : c < np
  pub next : (w' : List ℕ) → BarLeaves np nq (set (used_in np nq w) c 1) w w' → Barring np nq q v w' (j + 1)

pub bar-turn : {np nq q : ℕ} {v w : List ℕ} {j : ℕ} (c : ℕ) → StartHolds np nq v → q < nq → Barring np nq q v w j → j < 4 → c ≡ get_or w (was_at np nq + 4 * q + j) 0 → BarTurn np nq q v w j c
bar-turn {np} {nq} {q} {v} {w} {j} c G q< B h e =
    let f = G.map.points.in_was in
    let xs = part (was_at np nq + 4 * q) 4 v in
    let P : Part (was_at np nq + 4 * q) 4 xs w = part-kept (part_of (was_at np nq + 4 * q) 4 v (omega arith)) (only-points np nq B.barred.kept) (λ i a b. omega arith) in
    let ce : c ≡ get_or xs j 0 = e ∙ part-get 0 j P h in
    let c< : c < np = omega (arith, quad-listed q j G q< h, G.map.points.sheet.points (4 * q + j) (omega arith)) in
    record {
      at< = omega (arith, P.fits);
      c< = c<;
      next = λ w' N. record {
        grounds = start-kept B.grounds (only-points np nq N.kept);
        barred = record {
          used = part-as N.used (ap (λ (u : List ℕ). set u c 1) B.barred.used.is ∙ more-points xs (used_in np nq v) np j c c< ce);
          touched = N.touched;
          kept = kept_then B.barred.kept N.kept (λ i o. (o, o));
        };
      };
    }

pub barring-end : {np nq q : ℕ} {v w : List ℕ} {j : ℕ} → StartHolds np nq v → q < nq → Barring np nq q v w j → j ≡ 4 → BarLeaves np nq (tabulate (marked_in (was_in np nq v) (used_in np nq v) q) np) v w
barring-end {np} {nq} {q} {v} {w} {j} G h B e =
    record {
      used = quad-marks (was_in np nq v) (used_in np nq v) (part (was_at np nq + 4 * q) 4 v) q (λ i k. quad-listed q i G h k) (rw e at B.barred.used);
      touched = B.barred.touched;
      kept = B.barred.kept;
    }

-- ---- the loops over the quads around a point x, which mark their corners in the np elements at `at`: v is the slice as it came, and `keeps` says where it stays

pub record Rounding (at : ℕ) (keeps : ℕ → Type 0) (np nq x from to : ℕ) (v w : List ℕ) (i : ℕ) : Type 0 where
  pub grounds : StartHolds np nq w
  pub from≤ : from ≤ i
  pub i≤ : i ≤ to
  pub begin : points_at np nq ≤ from
  pub end : to ≤ points_at np nq + 4 * nq
  pub list : Part from (to - from) (point_corners (was_in np nq v) nq x) v
  pub marks : Part at np (tabulate (marked_to (point_corners (was_in np nq v) nq x) (was_in np nq v) (part at np v) (i - from)) np) w
  pub kept : Kept keeps v w

rounding-start : {np nq x : ℕ} {s : Span} {v : List ℕ} (at : ℕ) (keeps : ℕ → Type 0) → StartHolds np nq v → CornersOfLeaves np nq x s v → at + np ≤ length v → Rounding at keeps np nq x s.from s.to v v s.from
rounding-start {np} {nq} {x} {s} {v} at keeps G S f =
    let P = part_of at np v f in
    let cs = point_corners (was_in np nq v) nq x in
    let l = S.low in
    let none : s.from - s.from ≡ 0 = omega arith in
    record {
      grounds = G;
      from≤ = omega arith;
      i≤ = S.low;
      begin = S.begin;
      end = S.end;
      list = record { fits = omega (arith, S.high); is = S.list };
      marks = rw none (part-as P (is-tab (part at np v) (marked_to cs (was_in np nq v) (part at np v) 0) np (part-len P) (λ u h. rw (some-zero (reaches cs (was_in np nq v) u)))));
      kept = kept_refl keeps v;
    }

pub record RoundTurn (at : ℕ) (keeps : ℕ → Type 0) (np nq x from to : ℕ) (v w : List ℕ) (i c : ℕ) : Type 0 where
  pub q< : c / 4 < nq
  pub next : (w' : List ℕ) → Part at np (tabulate (marked_in (was_in np nq w) (part at np w) (c / 4)) np) w' → Kept keeps w w' → Rounding at keeps np nq x from to v w' (i + 1)

round-turn : {at : ℕ} {keeps : ℕ → Type 0} {np nq x from to : ℕ} {v w : List ℕ} {i j : ℕ} (c : ℕ) → ((k : ℕ) → Steady np nq k → keeps k) → StartHolds np nq v → Rounding at keeps np nq x from to v w i → 0 < to - i → j ≡ i → c ≡ get_or w j 0
    → RoundTurn at keeps np nq x from to v w i c
round-turn {at} {keeps} {np} {nq} {x} {from} {to} {v} {w} {i} {j} c free G B h same_place e =
    let low = B.from≤ in
    let sb = B.begin in
    let se = B.end in
    let Q = was_in np nq v in
    let cs = point_corners Q nq x in
    let P' : Part from (to - from) cs w = part-kept B.list B.kept (λ k a b. free k (omega arith)) in
    let t< : i - from < to - from = omega arith in
    let place : j ≡ from + (i - from) = omega arith in
    let ce : c ≡ get_or cs (i - from) 0 = e ∙ ap (λ (k : ℕ). get_or w k 0) place ∙ part-get 0 (i - from) P' t< in
    let l : get_or cs (i - from) 0 < 4 * nq = (corners-listed x G).known (i - from) (rw (part-len B.list) t<) in
    let same = was-steady G (kept_less B.kept free) in
    let more : i + 1 - from ≡ i - from + 1 = omega arith in
    record {
      q< = omega arith;
      next = λ w' M K. record {
        grounds = start-kept B.grounds (kept_less K free);
        from≤ = omega arith;
        i≤ = omega arith;
        begin = B.begin;
        end = B.end;
        list = B.list;
        marks = rw more (more-marks cs Q (part at np v) (part at np w) (i - from) c ce B.marks.is (rw same at M));
        kept = kept_then B.kept K (λ i o. (o, o));
      };
    }

pub rounding-end : {at : ℕ} {keeps : ℕ → Type 0} {np nq x from to : ℕ} {v w : List ℕ} {i : ℕ} → Rounding at keeps np nq x from to v w i → to - i ≡ 0
    → Part at np (tabulate (marked_near (was_in np nq v) (part at np v) nq x) np) w × Kept keeps v w
rounding-end {at} {keeps} {np} {nq} {x} {from} {to} {v} {w} {i} B h =
    let e : i - from ≡ length (point_corners (was_in np nq v) nq x) = omega (arith, part-len B.list, B.from≤, B.i≤) in
    (near-marks (was_in np nq v) (part at np v) nq x (rw e at B.marks), B.kept)

-- the loop that touches
abbrev pub TouchingAround : ℕ → ℕ → ℕ → ℕ → ℕ → List ℕ → List ℕ → ℕ → Type 0
TouchingAround np nq x from to v w i = Rounding (touched_at np nq) (Out (touched_at np nq) np) np nq x from to v w i

pub touching-start : {np nq x : ℕ} {s : Span} {v : List ℕ} → StartHolds np nq v → CornersOfLeaves np nq x s v → TouchingAround np nq x s.from s.to v v s.from
touching-start {np} {nq} G S = let r = G.map.work.long in rounding-start (touched_at np nq) (Out (touched_at np nq) np) G S (omega arith)

pub touching-turn : {np nq x from to : ℕ} {v w : List ℕ} {i j : ℕ} (c : ℕ) → StartHolds np nq v → TouchingAround np nq x from to v w i → 0 < to - i → j ≡ i → c ≡ get_or w j 0
    → RoundTurn (touched_at np nq) (Out (touched_at np nq) np) np nq x from to v w i c
touching-turn c G B h p e = round-turn c (λ i o a b. omega arith) G B h p e

-- the loop that bars
abbrev pub BarringAround : ℕ → ℕ → ℕ → ℕ → ℕ → List ℕ → List ℕ → ℕ → Type 0
BarringAround np nq x from to v w i = Rounding (used_at np nq) (Out2 (used_at np nq) np (touched_at np nq) np) np nq x from to v w i × TouchedHolds np nq w

pub around-start : {np nq x : ℕ} {s : Span} {v : List ℕ} → StartHolds np nq v → TouchedHolds np nq v → CornersOfLeaves np nq x s v → BarringAround np nq x s.from s.to v v s.from
around-start {np} {nq} G T S = let r = G.map.work.long in (rounding-start (used_at np nq) (Out2 (used_at np nq) np (touched_at np nq) np) G S (omega arith), T)

pub around-turn : {np nq x from to : ℕ} {v w : List ℕ} {i j : ℕ} (c : ℕ) → StartHolds np nq v → BarringAround np nq x from to v w i → 0 < to - i → j ≡ i → c ≡ get_or w j 0
    → RoundTurn (used_at np nq) (Out2 (used_at np nq) np (touched_at np nq) np) np nq x from to v w i c
around-turn c G B h p e = round-turn c (λ i o. ((λ a b. omega arith), (λ a b. omega arith))) G B.0 h p e

pub around-end : {np nq x from to : ℕ} {v w : List ℕ} {i : ℕ} → BarringAround np nq x from to v w i → to - i ≡ 0 → BarLeaves np nq (tabulate (marked_near (was_in np nq v) (used_in np nq v) nq x) np) v w
around-end B h = let E = rounding-end B.0 h in record { used = E.0; touched = B.1; kept = E.1 }

-- ---- a merge: u, v and w are the work slice as it came, once the points near a are barred, and those near c; then the quad goes out
pub joined_of : {np nq f a c : ℕ} {u v w : List ℕ} (Q R : List ℕ) → StartHolds np nq u → f < nq → R ≡ renamed_quads (was_in np nq u) nq c a Q
    → BarLeaves np nq (tabulate (marked_near (was_in np nq u) (used_in np nq u) nq a) np) u v
    → BarLeaves np nq (tabulate (marked_near (was_in np nq v) (used_in np nq v) nq c) np) v w
    → MergeLeaves np nq f a c Q u R (set w (removed_at np nq + f) 1)
joined_of {np} {nq} {f} {a} {c} {u} {v} {w} Q R G h e A C =
    let r = G.map.work.long in
    let L = kept_then A.kept C.kept (λ i o. (o, o)) in
    let l = L.len in
    let U : Part (used_at np nq) np (marked_both (was_in np nq u) (used_in np nq u) np nq a c) w = rw (was-steady G (only-points np nq A.kept), A.used.is) at C.used in
    let D = part-kept (part_of (removed_at np nq) nq u (omega arith)) L (λ i p q. ((λ x y. omega arith), (λ x y. omega arith))) in
    let K : Kept (Steady np nq) w (set w (removed_at np nq + f) 1) = kept_set (removed_at np nq + f) 1 (kept_refl _ w) (λ o. omega arith) in
    record {
      quads = e;
      used = (part-set-out (removed_at np nq + f) 1 U (λ p q. omega arith)).is;
      removed = (part-set f 1 D h).is;
      touched = touched-as C.touched (was-steady (start-kept G (only-points np nq L)) K)
          (part-set-out (removed_at np nq + f) 1 (part_of (used_at np nq) np w (omega arith)) (λ p q. omega arith)).is (part-set-out (removed_at np nq + f) 1 (part_of (touched_at np nq) np w (omega arith)) (λ p q. omega arith)).is;
      kept = kept_then (only-points np nq L) K (λ i o. (o, o));
    }

-- The walk over the corners of a point is the test of all quads with that corner. Assumes nothing.
use Prim.Native.Nat.{ℕ, ◌+◌, ◌-◌, ◌*◌, ◌/◌, ◌≤◌, ◌<◌}
use mathlib.Core.Logic.{⊎_elim}
use mathlib.Core.Bool.{Bool, true, false, not, ◌||◌, false≢true}
use mathlib.Core.Path.{◌≡◌, refl, sym, ap, ◌∙◌}
use mathlib.Core.List.{List}
use native.Mathlib.Omega.{arith}
use lib.ListN.{length, get_or}
use lib.Ieee.{Float}
use borrow.Author.Tests.{eq-eqb, eqb-true}
use Rattle.std.specs.Prelude.{Result, Ok, Err, MatchResult}
use Rattle.points.specs.declared.Point.{Point}
use Rattle.field.specs.declared.Field.{Field}
use Rattle.lists.specs.Every.{every}
use Rattle.lists.specs.Regions.{part, Part}
use Rattle.lists.proofs.Regions.{part-get, part-len}
use Rattle.lists.proofs.Every.{every-at, every-fails, every-each, bool_iff, some_at, some-find}
use Rattle.lists.proofs.Laws.{lt-or-le}
use Rattle.lists.proofs.Order.{each-bucket, below-tab}
use Rattle.sheet.specs.Flat.{from}
use Rattle.rule_sheet.specs.Flat.{quad_at}
use Rattle.sheet.specs.Edges.{all_corners, point_corners}
use Rattle.incidence.specs.Marks.{hits}
use Rattle.incidence.proofs.Marks.{hits-uses}
use Rattle.edges.specs.Conditions.{PointMapHolds}
use Rattle.edges.proofs.Maps.{RunAt}
use Rattle.rule_coarsen.specs.Coarse.{has_corner}
use Rattle.rule_coarsen.specs.declared.Merge.{Merge}
use Rattle.incidence.specs.Corners.{Positioned}
use Rattle.coarsen_shapes.specs.MergeFits.{face_stays, corner_stays, stays_at, CornersIn, AllPass, FirstFallen}

-- a test that is passed unless it is not asked
unless : (a b : Bool) → (a ≡ true → b ≡ true) → (not a || b) ≡ true
unless true b f = f refl
unless false b f = refl

pub unless-then : (a b : Bool) → (not a || b) ≡ true → a ≡ true → b ≡ true
unless-then true b e f = e
unless-then false b e f = absurd (false≢true f)

-- the test of the quads of all corners at v is the test of all quads with the corner v
pub walk-quads : (p : ℕ → Bool) (Q : List ℕ) (nq v : ℕ)
    → every (λ i. p (get_or (point_corners Q nq v) i 0 / 4)) (length (point_corners Q nq v)) ≡ every (λ j. not (has_corner (quad_at Q j) v) || p j) nq
walk-quads p Q nq v =
    let B = point_corners Q nq v in
    let below = each-bucket 0 (λ c. c < 4 * nq) (from Q) v (all_corners nq) (below-tab (4 * nq)).each in
    bool_iff (every (λ i. p (get_or B i 0 / 4)) (length B)) (every (λ j. not (has_corner (quad_at Q j) v) || p j) nq)
    (λ e. every-each _ nq (λ j h. unless (has_corner (quad_at Q j) v) (p j) (λ u.
    let H = some-find (hits B j) (length B) (hits-uses Q nq v j h ∙ u) in
    ap p (sym (eqb-true _ j H.yes)) ∙ every-at (λ i. p (get_or B i 0 / 4)) (length B) H.i e H.i<)))
    (λ e. every-each _ (length B) (λ i h.
    let c = get_or B i 0 in
    let l : c < 4 * nq = below i h in
    let j< : c / 4 < nq = omega arith in
    unless-then (has_corner (quad_at Q (c / 4)) v) (p (c / 4)) (every-at (λ j. not (has_corner (quad_at Q j) v) || p j) nq (c / 4) e j<)
    (sym (hits-uses Q nq v (c / 4) j<) ∙ some_at (hits B (c / 4)) (length B) i h (eq-eqb (c / 4) (c / 4) refl))))

-- ---- the first place that falls

pub pass-start : (p : ℕ → Bool) (a : ℕ) → AllPass p a a
pass-start p a = record { each = λ i h g. absurd (omega arith) }

pub pass-next : {p : ℕ → Bool} {a i : ℕ} → AllPass p a i → p i ≡ true → AllPass p a (i + 1)
pass-next {p} {a} {i} A e = record {
  each = λ x h g. ⊎_elim (λ (l : x < i). A.each x h l) (λ (l : i ≤ x). let k : x ≡ i = omega arith in rw k e) (lt-or-le x i);
}

-- ---- once round

-- the same in a work slice: the n places from s on have the corners of v
module _ {s n : ℕ} {w : List ℕ} (nq was v : ℕ) (f : Field) (len : Float) (at : ℕ → Point) (labels : List ℕ) (m : Merge) (P : Part s n (point_corners (part was (4 * nq) w) nq v) w) where
  -- the quads at the start, the corners of v, and the tests
  abbrev Q : List ℕ
  Q = part was (4 * nq) w

  abbrev B : List ℕ
  B = point_corners Q nq v

  abbrev test : ℕ → Bool
  test = corner_stays f len at labels Q m w

  abbrev stayed : Bool
  stayed = every (stays_at f len at labels Q m v) nq

  here : (i : ℕ) → i < n → face_stays f len at labels Q m (get_or B i 0 / 4) ≡ test (s + i)
  here i h = ap (λ (c : ℕ). face_stays f len at labels Q m (c / 4)) (sym (part-get 0 i P h))

  walked : every (λ i. face_stays f len at labels Q m (get_or B i 0 / 4)) (length B) ≡ stayed
  walked = walk-quads (face_stays f len at labels Q m) Q nq v

  -- one place falls
  pub one-falls : (r : ℕ) → s ≤ r → r < s + n → test r ≡ false → stayed ≡ false
  one-falls r h g e =
      let k : s + (r - s) ≡ r = omega arith in
      let l = part-len P in
      sym walked ∙ every-fails (λ i. face_stays f len at labels Q m (get_or B i 0 / 4)) (length B) (r - s) (omega arith) (here (r - s) (omega arith) ∙ rw k e)

  -- no place falls
  all_stay : ((i : ℕ) → s ≤ i → i < s + n → test i ≡ true) → stayed ≡ true
  all_stay h = let l = part-len P in sym walked ∙ every-each _ (length B) (λ i g. here i (omega arith) ∙ h (s + i) (omega arith) (omega arith))

  -- a walk from a place to another falls
  pub walk-falls : (Q' : List ℕ) (a b r : ℕ) → Q' ≡ Q → s ≤ a → b ≤ s + n → FirstFallen (corner_stays f len at labels Q' m w) a b r → stayed ≡ false
  walk-falls Q' a b r q h k F = one-falls r (omega (arith, F.low)) (omega (arith, F.high)) (rw q at F.falls)

  -- once round, from the place k on to the end, and from the start to k
  pub once-round : {U : Type 0} (Q' : List ℕ) (k : ℕ) (r : Result U ℕ) → Q' ≡ Q → k ≤ s + n → AllPass (corner_stays f len at labels Q' m w) k (s + n)
      → MatchResult r (λ _. AllPass (corner_stays f len at labels Q' m w) s k) (λ i. FirstFallen (corner_stays f len at labels Q' m w) s k i)
      → MatchResult r (λ _. stayed ≡ true) (λ _. stayed ≡ false)
  once-round Q' k (Ok x) q h A C = all_stay (λ i a b. ⊎_elim
      (λ (l : i < k). rw q at (C.each i a l))
      (λ (l : k ≤ i). rw q at (A.each i l b))
      (lt-or-le i k))
  once-round Q' k (Err i) q h A C = walk-falls Q' s k i q (omega arith) h C

-- the quads as they are lent
pub quads-as-lent : (nq was : ℕ) (w : List ℕ) → part was (was + 4 * nq - was) w ≡ part was (4 * nq) w
quads-as-lent nq was w = let g : was + 4 * nq - was ≡ 4 * nq = omega arith in rw g refl

-- the corners of a point as a region
pub run-part : {order s e : ℕ} {l w : List ℕ} → RunAt order s e l w → Part (order + s) (order + e - (order + s)) l w
run-part R = record { fits = omega (arith, R.s≤, R.e≤); is = R.is }

-- what the walk is lent: the quads, and corners of them
pub quads-lent : {np nq was starts order : ℕ} {w : List ℕ} (P : List Float) → PointMapHolds np nq was starts order w → 3 * np ≤ length P → Positioned np nq P (part was (was + 4 * nq - was) w)
quads-lent {np} {nq} {was} P S h = let g : was + 4 * nq - was ≡ 4 * nq = omega arith in record { cornered = rw g S.sheet; points = h }

pub corners-in : {s n : ℕ} {w : List ℕ} (Q : List ℕ) (nq v a b : ℕ) → Part s n (point_corners Q nq v) w → s ≤ a → a ≤ b → b ≤ s + n → CornersIn nq a b w
corners-in {s} {n} {w} Q nq v a b P h g k = record {
  low = g;
  high = omega (arith, P.fits);
  each = λ i x y.
      let e : s + (i - s) ≡ i = omega arith in
      let l = part-len P in
      rw (← e, part-get 0 (i - s) P (omega arith)) (each-bucket 0 (λ c. c < 4 * nq) (from Q) v (all_corners nq) (below-tab (4 * nq)).each (i - s) (omega arith));
}

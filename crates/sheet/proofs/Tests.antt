-- What the tests of a lent sheet leave, and the tests one quad or point at a time. Assumes nothing.
use Prim.Native.Nat.{ℕ, zero, suc, ◌≤◌, ◌<◌}
use mathlib.Core.Path.{◌≡◌, refl, sym, ap, ◌∙◌}
use mathlib.Core.Bool.{Bool, true, false, cond, not, ◌&&◌, ◌||◌, and-true, or-true, true≢false}
use mathlib.Core.Logic.{⊎_elim}
use mathlib.Core.List.{List, [], ◌∷◌}
use native.Mathlib.Omega.{arith}
use lib.ListN.{length, get_or, take}
use lib.Seq.{length-take-le}
use lib.Dec.{eqb}
use lib.Ieee.{Float}
use borrow.Author.Tests.{ltb-false, eq-eqb, ne_eqb, eqb-true, eqb-false, not-false}
use Rattle.lists.specs.Sort.{tabulate}
use Rattle.lists.specs.Every.{every}
use Rattle.lists.proofs.Laws.{eq-or-ne, length-tab, get_or-tab, tab-take}
use Rattle.lists.proofs.Every.{and_left, and_right, every-ext}
use Rattle.points.specs.Points.{point_at, finite_p}
use Rattle.rule_sheet.specs.declared.Counts.{Counts}
use Rattle.rule_sheet.specs.Quads.{Quad, all}
use Rattle.rule_sheet.specs.Flat.{quad_at, quads_of}
use Rattle.sheet.specs.Flat.{mask_in, Holds}
use Rattle.rule_sheet.specs.Tests.{proper, low_label, good_corners, good_mask, good_point, good_masks}
use Rattle.sheet.specs.Tests.{good_quad_at, good_mask_at}
use Rattle.rule_sheet.specs.Sheet.{Sheet, sheet_of, sheet_verdict, points_of, is_bare, quads_verdict}
use Rattle.rule_sheet.specs.Lent.{is_large, is_short, is_short_work, lent_verdict, room_with, work_with}
use Rattle.sheet.specs.Sheet.{Few, bare_by, LentSheet, LentWork, masks_of, MasksIf}
use Rattle.sheet.proofs.Flat.{length-quads}
use Rattle.rule_sheet.proofs.All.{all_append}
use Rattle.std.specs.Prelude.{Ok, Err}
use Rattle.rule_sheet.specs.Numbers.{refusal_number}
use Rattle.rule_sheet.specs.Verdicts.{Verdict, Accepted}
use Rattle.rule_sheet.specs.declared.Refusal.TheVariants.{Bare, Corner, Clash, Large, Short}

-- ---- 12 and 13

pub or_left : (a b : Bool) → (a || b) ≡ false → a ≡ false
or_left false b e = refl
or_left true b e = e

pub or_right : (a b : Bool) → (a || b) ≡ false → b ≡ false
or_right false b e = e
or_right true b e = absurd (true≢false e)

pub few-of : (c : Counts) → is_large c ≡ false → Few c
unfolding is_large
few-of c e = record {
  points≤ = ltb-false _ _ (search (or_left, or_right));
  quads≤ = ltb-false _ _ (search (or_left, or_right));
  labels≤ = ltb-false _ _ (search (or_left, or_right));
}

pub holds_of : (c : Counts) (p q l : ℕ) → is_large c ≡ false → is_short c (room_with p q l) ≡ false → LentSheet c p q l
unfolding is_short
holds_of c p q l e s = record {
  few = few-of c e;
  points = ltb-false _ _ (search (or_left, or_right));
  quads = ltb-false _ _ (search (or_left, or_right));
  labels = ltb-false _ _ (search (or_left, or_right));
}

-- more than the slices or the limit hold
pub over-large : (c : Counts) (p q l : ℕ) → is_large c ≡ true → true ≡ (is_large c || is_short c (room_with p q l))
over-large c p q l e = rw e

pub over-short : (c : Counts) (p q l : ℕ) (r : Bool) → is_large c ≡ false → r ≡ is_short c (room_with p q l) → r ≡ (is_large c || is_short c (room_with p q l))
over-short c p q l r e s = rw e s

work-of : (c : Counts) (w f : ℕ) → is_short_work c (work_with w f) ≡ false → LentWork c w f
unfolding is_short_work
work-of c w f e = record { work = ltb-false _ _ (search (or_left)); floats = ltb-false _ _ (search (or_right)) }

-- the number of an answer, 0 where it is accepted
abbrev number_of : Verdict → ℕ
number_of (Ok u) = 0
number_of (Err n) = refusal_number n

-- a lent sheet that 12 and 13 accept
pub lent_is : (c : Counts) (p q l w f : ℕ) → lent_verdict c (room_with p q l) (work_with w f) ≡ Accepted → LentSheet c p q l × LentWork c w f
unfolding lent_verdict
lent_is c p q l w f = go (is_large c) refl (is_short c (room_with p q l)) refl (is_short_work c (work_with w f)) refl
  where
    go : (a : Bool) → is_large c ≡ a → (b : Bool) → is_short c (room_with p q l) ≡ b → (d : Bool) → is_short_work c (work_with w f) ≡ d
        → cond a (Err Large) (cond b (Err Short) (cond d (Err Short) Accepted)) ≡ Accepted → LentSheet c p q l × LentWork c w f
    go true ea b eb d ed h = absurd (let z : ◌≡◌ {A = ℕ} 0 1 = cc in omega arith)
    go false ea true eb d ed h = absurd (let z : ◌≡◌ {A = ℕ} 0 1 = cc in omega arith)
    go false ea false eb true ed h = absurd (let z : ◌≡◌ {A = ℕ} 0 1 = cc in omega arith)
    go false ea false eb false ed h = (holds_of c p q l ea eb, work-of c w f ed)

-- ---- tests of all elements

pub all-tab : {A : Type 0} (p : A → Bool) (f : ℕ → A) (n : ℕ) → all p (tabulate f n) ≡ every (λ i. p (f i)) n
unfolding tabulate every
all-tab p f zero = refl
all-tab p f (suc n) = all_append p (tabulate f n) (f n ∷ []) ∙ rw (all-tab p f n, and-true (p (f n)))

every-and : (p q : ℕ → Bool) (n : ℕ) → every (λ i. p i && q i) n ≡ (every p n && every q n)
unfolding every
every-and p q zero = refl
every-and p q (suc n) = rw (every-and p q n) (swap (every p n) (every q n) (p n) (q n))
  where
    swap : (a b c d : Bool) → ((a && b) && (c && d)) ≡ ((a && c) && (b && d))
    swap true true c d = refl
    swap true false true d = refl
    swap true false false d = refl
    swap false b c d = refl

-- ---- 5

pub length-points : (n : ℕ) (P : List Float) → length (points_of n P) ≡ n
unfolding points_of
length-points n P = length-tab (point_at P) n

pub bare-is : (c : Counts) (P : List Float) (Q labels : List ℕ) → c.labels ≤ length labels → bare_by c P ≡ is_bare (sheet_of c P Q labels)
unfolding bare_by is_bare points_of
bare-is c P Q labels h =
    rw (all-tab finite_p (point_at P) c.points, length-tab (point_at P) c.points, length-quads c.quads Q, length-take-le c.labels labels h)

-- ---- 6 and 7

pub corners-tested : (n nq : ℕ) (Q labels : List ℕ) → nq ≤ length labels → every (good_quad_at n Q labels) nq ≡ good_corners n (quads_of nq Q) (take nq labels)
unfolding good_corners quads_of
corners-tested n nq Q labels h =
    every-and (λ q. low_label (get_or labels q 0)) (λ q. proper n (quad_at Q q)) nq
    ∙ rw (all-tab (proper n) (quad_at Q) nq, ← tab-take labels nq h, all-tab low_label (λ i. get_or labels i 0) nq)

pub masks-tested : (np nq : ℕ) (Q labels w : List ℕ) → w ≡ tabulate (mask_in Q labels nq) np → every (good_mask_at w) (length w) ≡ good_masks np (quads_of nq Q) (take nq labels)
unfolding good_masks
masks-tested np nq Q labels w e =
    let l : length w ≡ np = ap length e ∙ length-tab _ np in
    rw l (every-ext (good_mask_at w) (good_point (quads_of nq Q) (take nq labels)) np (λ v h. ap good_mask (rw e (get_or-tab _ np v 0 h))))

module _ (n : ℕ) (S : List Quad) (labels : List ℕ) where
  pub verdict-corner : good_corners n S labels ≡ false → Err Corner ≡ quads_verdict n S labels
  unfolding quads_verdict
  verdict-corner e = rw e

  pub verdict-clash : good_corners n S labels ≡ true → good_masks n S labels ≡ false → Err Clash ≡ quads_verdict n S labels
  unfolding quads_verdict
  verdict-clash e f = rw (e, f)

  pub verdict-accepted : good_corners n S labels ≡ true → good_masks n S labels ≡ true → Accepted ≡ quads_verdict n S labels
  unfolding quads_verdict
  verdict-accepted e f = rw (e, f)

-- ---- 5, and then 6 and 7

module _ (s : Sheet) where
  pub verdict-bare : is_bare s ≡ true → Err Bare ≡ sheet_verdict s
  unfolding sheet_verdict
  verdict-bare e = rw e

  pub verdict-quads : is_bare s ≡ false → quads_verdict (length s.points) s.quads s.labels ≡ sheet_verdict s
  unfolding sheet_verdict
  verdict-quads e = rw e

-- the label count is the quad count where 5 finds nothing
pub labels-match : (c : Counts) (P : List Float) → bare_by c P ≡ false → c.labels ≡ c.quads
unfolding bare_by
labels-match c P e = eqb-true _ _ (not-false _ (search (or_left, or_right)))

pub holds-quads : (c : Counts) (P : List Float) (Q labels : List ℕ) (p : ℕ) → LentSheet c p (length Q) (length labels) → bare_by c P ≡ false → Holds c.quads Q labels
holds-quads c P Q labels p L e =
    let m = labels-match c P e in
    record { quads = L.quads; labels≤ = omega (arith, L.labels) }

-- the answer of a sheet that 5 accepts is that of its quads
pub quads-decide : (c : Counts) (P : List Float) (Q labels : List ℕ) (n : ℕ) (r : Verdict) (w : List ℕ) → bare_by c P ≡ false → c.labels ≤ length labels → n ≡ c.points
    → r ≡ quads_verdict n (quads_of c.quads Q) (take c.quads labels) → MasksIf r (masks_of n (quads_of c.quads Q) (take c.quads labels)) w
    → (r ≡ sheet_verdict (sheet_of c P Q labels)) × MasksIf r (masks_of c.points (quads_of c.quads Q) (take c.labels labels)) w
quads-decide c P Q labels n r w e h en er m =
    let k = labels-match c P e in
    let same : quads_verdict n (quads_of c.quads Q) (take c.quads labels) ≡ quads_verdict (length (points_of c.points P)) (quads_of c.quads Q) (take c.labels labels) =
    rw (length-points c.points P, k, en) in
    (er ∙ same ∙ verdict-quads (sheet_of c P Q labels) (sym (bare-is c P Q labels h) ∙ e), rw (k, ← en) m)

-- ---- what an accepted sheet has

-- 5, 6 and 7 find nothing
pub record Tested (s : Sheet) : Type 0 where
  pub not_bare : is_bare s ≡ false
  pub corners : good_corners (length s.points) s.quads s.labels ≡ true
  pub masks : good_masks (length s.points) s.quads s.labels ≡ true

pub tested : (s : Sheet) → sheet_verdict s ≡ Accepted → Tested s
unfolding sheet_verdict quads_verdict
tested s = go (is_bare s) refl (good_corners (length s.points) s.quads s.labels) refl (good_masks (length s.points) s.quads s.labels) refl
  where
    go : (x : Bool) → is_bare s ≡ x → (g : Bool) → good_corners (length s.points) s.quads s.labels ≡ g → (m : Bool) → good_masks (length s.points) s.quads s.labels ≡ m
        → cond x (Err Bare) (cond g (cond m Accepted (Err Clash)) (Err Corner)) ≡ Accepted → Tested s
    go true ex g eg m em h = absurd (let z : ◌≡◌ {A = ℕ} 0 1 = cc in omega arith)
    go false ex false eg m em h = absurd (let z : ◌≡◌ {A = ℕ} 0 1 = cc in omega arith)
    go false ex true eg false em h = absurd (let z : ◌≡◌ {A = ℕ} 0 1 = cc in omega arith)
    go false ex true eg true em h = record { not_bare = ex; corners = eg; masks = em }

-- and the other way round
pub tests-accept : (s : Sheet) → Tested s → sheet_verdict s ≡ Accepted
unfolding sheet_verdict quads_verdict
tests-accept s t = rw (t.not_bare, t.corners, t.masks)

-- what 5 asks
pub record Whole (s : Sheet) : Type 0 where
  pub some_points : 0 < length s.points
  pub some_quads : 0 < length s.quads
  pub labelled : length s.labels ≡ length s.quads
  pub finite : all finite_p s.points ≡ true

pub whole_of : (s : Sheet) → is_bare s ≡ false → Whole s
unfolding is_bare
whole_of s e = record {
  some_points = positive _ (eqb-false _ _ (search (or_left, or_right)));
  some_quads = positive _ (eqb-false _ _ (search (or_left, or_right)));
  labelled = eqb-true _ _ (not-false _ (search (or_left, or_right)));
  finite = not-false _ (search (or_left, or_right));
}
  where
    positive : (k : ℕ) → (k ≡ 0 → ⊥) → 0 < k
    positive k h = omega arith

-- 5 of a sheet with points, quads and a label for each quad asks whether its points are finite
pub bare-finite : (s : Sheet) → 0 < length s.points → 0 < length s.quads → length s.labels ≡ length s.quads → is_bare s ≡ not (all finite_p s.points)
unfolding is_bare
bare-finite s p q l = rw (ne_eqb (length s.points) 0 (λ z. omega arith), ne_eqb (length s.quads) 0 (λ z. omega arith), eq-eqb (length s.labels) (length s.quads) l)

-- a quad is there where 5 finds nothing
pub some-quad : (c : Counts) (P : List Float) → bare_by c P ≡ false → 0 < c.quads
unfolding bare_by
some-quad c P e = ⊎_elim (λ (z : c.quads ≡ 0). absurd (true≢false (rw (eq-eqb c.quads 0 z, or-true (eqb c.points 0)) at e))) (λ (n : c.quads ≡ 0 → ⊥). omega arith) (eq-or-ne c.quads 0)

-- 6 finds every label low
pub lows-of : (n : ℕ) (S : List Quad) (labels : List ℕ) → good_corners n S labels ≡ true → all low_label labels ≡ true
unfolding good_corners
lows-of n S labels e = and_left (all low_label labels) (all (proper n) S) e

-- 6 finds every quad proper
pub proper-of : (n : ℕ) (S : List Quad) (labels : List ℕ) → good_corners n S labels ≡ true → all (proper n) S ≡ true
unfolding good_corners
proper-of n S labels e = and_right (all low_label labels) (all (proper n) S) e

-- the masks of an accepted sheet
pub masks-told : {v : Verdict} {masks y : List ℕ} → v ≡ Accepted → MasksIf v masks y → y ≡ masks
masks-told e m = rw e at m

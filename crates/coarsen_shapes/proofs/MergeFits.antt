-- The walks round both points are the merges' rule, the joined mask is the greater of two, and a position that the rule takes is finite. Assumes nothing.
use Prim.Native.Nat.{ℕ, zero, suc, ◌+◌, ◌*◌, ◌^◌, ◌≤◌, ◌<◌, max, zero-le}
use mathlib.Core.Bool.{Bool, true, false, not, ◌&&◌, ◌||◌, false≢true, or_comm}
use mathlib.Core.Logic.{⊎_elim}
use mathlib.Core.Path.{◌≡◌, refl, sym, ◌∙◌}
use mathlib.Core.List.{List}
use native.Mathlib.Omega.{arith}
use lib.ListN.{get_or, take}
use lib.Seq.{get_or-take}
use lib.Dec.{eqb}
use lib.Ieee.{Float}
use Rattle.points.specs.declared.Point.{Point}
use Rattle.points.specs.Points.{halfway_p, finite_p, point_at, point_in}
use Rattle.field.specs.declared.Field.{Field}
use Rattle.band.specs.declared.Band.{Band}
use Rattle.band.specs.Bands.{length_of, normal_with}
use Rattle.projection.specs.Project.{longest_move, look_count, project_with, project_of, onto_of}
use Rattle.projection.proofs.Finite.{project-finite}
use Rattle.lists.specs.Every.{every}
use Rattle.lists.proofs.Laws.{get_or-tab}
use Rattle.lists.proofs.Every.{and_left, and_right, every-at, every-each, or_split, bool_iff}
use Rattle.rule_sheet.specs.Quads.{Quad, num, all, has_label, pack_to, pack, mask_of}
use Rattle.rule_sheet.specs.Flat.{quad_at, quads_of}
use Rattle.rule_sheet.specs.Sheet.{Sheet, points_of}
use Rattle.sheet.proofs.Flat.{length-quads}
use Rattle.sheet.proofs.Masks.{pack-ext}
use Rattle.incidence.specs.Corners.{Cornered}
use Rattle.rule_passes.specs.Choices.{none_quad}
use Rattle.rule_coarsen.specs.Merges.{Slot}
use Rattle.rule_coarsen.specs.Coarse.{has_corner, masks_join}
use Rattle.pass_shapes.specs.declared.Four.{Four}
use Rattle.rule_coarsen.specs.declared.Merge.{Merge}
use Rattle.rule_sheet.specs.Places.{centre_of}
use Rattle.pass_shapes.specs.Shaped.{quad_is, four_at, FourBelow}
use Rattle.rule_coarsen.specs.MergeFits.{joined_mask, moved_to, moved_at, quad_stays, merge_at, fits_at, merge_fits, merge_position}
use Rattle.coarsen_shapes.specs.MergeFits.{stays_at}
use Rattle.coarsen_shapes.proofs.Walk.{unless-then}
use Rattle.pass_shapes.proofs.Shaped.{point-there, four_below, Agree, shape_same, centre-same}
use Rattle.std.specs.Prelude.{Some, None, Option}

-- ---- the rule

module _ {np : ℕ} (f g : ℕ → Point) (same : Agree np f g) where
  moved_same : (m : Merge) → Agree np (moved_at f m) (moved_at g m)
  unfolding moved_at
  moved_same m v h = rw (same v h)

  stays_same : (fl : Field) (len : Float) (l : ℕ) (q : Four) (m : Merge) → FourBelow np q → quad_stays fl len f l (quad_is q) m ≡ quad_stays fl len g l (quad_is q) m
  unfolding quad_stays
  stays_same fl len l q m B =
      let n = normal_with fl len (centre_of g (quad_is q)) l in
      rw (centre-same f g same q B, shape_same f g same n q B, shape_same (moved_at f m) (moved_at g m) (moved_same m) n q B)

-- a refused projection
pub merge-refused : (b : Band) (s : Sheet) (ps : List Point) (S : List Slot) (f a c : ℕ) → moved_to b s ps a c ≡ None → merge_fits b s ps S f a c ≡ false
unfolding merge_fits
merge-refused b s ps S f a c e = rw e

-- the position
pub position-onto : (b : Band) (s : Sheet) (ps : List Point) (a c : ℕ) (p : Point) → moved_to b s ps a c ≡ Some p → merge_position b s ps a c ≡ p
unfolding merge_position
position-onto b s ps a c p e = rw e

-- what `new_position` answers, where the mask is the joined one
pub moved-to : (b : Band) (s : Sheet) (np : ℕ) (P : List Float) (a c mask : ℕ) → a < np → c < np → mask ≡ joined_mask s.quads s.labels a c
    → project_with b (length_of b) longest_move look_count (halfway_p (point_at P a) (point_at P c)) mask ≡ moved_to b s (points_of np P) a c
unfolding moved_to project_of
moved-to b s np P a c mask ha hc e = rw (e, point-there np P a ha, point-there np P c hc)

-- one quad: at neither point, or its own, or it stays
split_stays : (o a c t : Bool) → (o || not (a || c) || t) ≡ ((not a || (o || t)) && (not c || (o || t)))
split_stays true true true t = refl
split_stays true true false t = refl
split_stays true false true t = refl
split_stays true false false t = refl
split_stays false true true true = refl
split_stays false true true false = refl
split_stays false true false true = refl
split_stays false true false false = refl
split_stays false false true true = refl
split_stays false false true false = refl
split_stays false false false t = refl

-- two tests of all numbers are one
both : (p q r : ℕ → Bool) (n : ℕ) → ((i : ℕ) → i < n → r i ≡ (p i && q i)) → (every p n && every q n) ≡ every r n
both p q r n h = bool_iff (every p n && every q n) (every r n)
    (λ e.
    let a = and_left (every p n) (every q n) e in
    let b = and_right (every p n) (every q n) e in
    every-each r n (λ i l. h i l ∙ rw (every-at p n i a l, every-at q n i b l)))
    (λ e. rw (
      every-each p n (λ i l. and_left (p i) (q i) (sym (h i l) ∙ every-at r n i e l)),
      every-each q n (λ i l. and_right (p i) (q i) (sym (h i l) ∙ every-at r n i e l)),
    ))

-- the two calls of `quads_stay` decide the rule: the sheet at the pass's start is in flat lists, nl labels of it
pub merge-onto : (b : Band) (np nq nl : ℕ) (P : List Float) (Q labels : List ℕ) (s : Sheet) (S : List Slot) (f a c : ℕ) (p : Point)
    → Cornered np nq Q → nq ≤ nl → s.quads ≡ quads_of nq Q → s.labels ≡ take nl labels → moved_to b s (points_of np P) a c ≡ Some p
    → (every (stays_at b.field (length_of b) (point_at P) labels Q (merge_at f a c p) a) nq && every (stays_at b.field (length_of b) (point_at P) labels Q (merge_at f a c p) c) nq)
    ≡ merge_fits b s (points_of np P) S f a c
unfolding merge_fits quads_of
merge-onto b np nq nl P Q labels s S f a c p C hl eq el e =
    let m = merge_at f a c p in
    let at = point_at P in
    let same = point-there np P in
    rw (e, eq, el, length-quads nq Q) (both _ _ _ nq (λ j h.
    rw (
      get_or-tab (quad_at Q) nq j none_quad h,
      get_or-take nl labels j 0 (omega arith),
      ← stays_same at (point_in (points_of np P)) same b.field (length_of b) (get_or labels j 0) (four_at Q j) m (four_below Q j C h),
    )
    (split_stays (eqb j f) (has_corner (quad_at Q j) a) (has_corner (quad_at Q j) c) (quad_stays b.field (length_of b) at (get_or labels j 0) (quad_at Q j) m))))

-- ---- the joined mask

-- a mask is no less than one with fewer labels
pack-le : (t u : ℕ → Bool) (n : ℕ) → ((l : ℕ) → l < n → t l ≡ true → u l ≡ true) → pack_to t n ≤ pack_to u n
unfolding pack_to
pack-le t u zero h = zero-le
pack-le t u (suc n) h = go (t n) (u n) (h n (omega arith)) (pack-le t u n (λ l b. h l (omega arith)))
  where
    go : (a b : Bool) → (a ≡ true → b ≡ true) → pack_to t n ≤ pack_to u n → pack_to t n + 2 ^ n * num a ≤ pack_to u n + 2 ^ n * num b
    go true b f ih = rw (f refl) (omega arith)
    go false b f ih = omega arith

or-first : (a b : Bool) → (b ≡ true → a ≡ true) → (a || b) ≡ a
or-first true b f = refl
or-first false true f = sym (f refl)
or-first false false f = refl

-- the labels of both, where t has those of u, are the greater mask
pack-wider : (t u : ℕ → Bool) → every (λ l. not (u l) || t l) 8 ≡ true → pack (λ l. t l || u l) ≡ max (pack t) (pack u)
pack-wider t u h =
    let sub : (l : ℕ) → l < 8 → u l ≡ true → t l ≡ true = λ l b. unless-then (u l) (t l) (every-at (λ k. not (u k) || t k) 8 l h b) in
    let le : pack u ≤ pack t = pack-le u t 8 sub in
    let same : pack (λ l. t l || u l) ≡ pack t = pack-ext t (λ l. t l || u l) 8 (λ l b. or-first (t l) (u l) (sub l b)) in
    omega arith

-- it "equals one of the two", so it is the greater number
pub joined-max : (n : ℕ) (S : List Quad) (labels : List ℕ) (a c : ℕ) → masks_join n S labels a c ≡ true
    → joined_mask S labels a c ≡ max (mask_of S labels a) (mask_of S labels c)
unfolding joined_mask mask_of
joined-max n S labels a c e =
    let t = has_label S labels a in
    let u = has_label S labels c in
    ⊎_elim
    (λ (h : every (λ l. not (u l) || t l) 8 ≡ true). pack-wider t u h)
    (λ (h : every (λ l. not (t l) || u l) 8 ≡ true).
    let turned : pack (λ l. t l || u l) ≡ pack (λ l. u l || t l) = pack-ext (λ l. u l || t l) (λ l. t l || u l) 8 (λ l b. or_comm (t l) (u l)) in
    omega (arith, pack-wider u t h))
    (or_split _ _ (and_right (every (λ j. not ((t (2 * j) || u (2 * j)) && (t (2 * j + 1) || u (2 * j + 1)))) 4) _ e))

-- ---- the position is finite

-- among finite points a position that the rule takes is finite
pub merge-finite : (b : Band) (s : Sheet) (ps : List Point) (S : List Slot) (f a c : ℕ) → all finite_p ps ≡ true → merge_fits b s ps S f a c ≡ true → finite_p (merge_position b s ps a c) ≡ true
unfolding merge_fits merge_position moved_to
merge-finite b s ps S f a c h = go (moved_to b s ps a c) refl
  where
    go : (x : Option Point) → moved_to b s ps a c ≡ x → fits_at b s ps f a c x ≡ true → finite_p (onto_of x) ≡ true
    go (Some p) e t = project-finite b _ _ p e
    go None e t = absurd (false≢true t)

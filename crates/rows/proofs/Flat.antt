-- The copies, the copied quads and the strips over flat lists are those of the rule. Assumes nothing.
use Prim.Native.Nat.{ℕ, zero, suc, ◌+◌, ◌*◌, ◌/◌, ◌%◌, ◌≤◌, ◌<◌}
use mathlib.Core.Path.{◌≡◌, refl, sym, ap, ◌∙◌}
use mathlib.Core.Bool.{Bool, true, false, not, ◌&&◌, ◌||◌}
use mathlib.Core.List.{List, [], ◌∷◌, map}
use native.Mathlib.Omega.{arith}
use lib.Dec.{eqb}
use lib.ListN.{length, get_or, take, length-map}
use lib.Seq.{get_or-take}
use lib.Ieee.{Float}
use Rattle.lists.specs.Sort.{tabulate, itself, cons_if, keep}
use Rattle.lists.specs.Every.{every}
use Rattle.lists.proofs.Laws.{get_or-tab, length-tab, tab-add}
use Rattle.lists.proofs.Every.{count-ext, every-ext}
use Rattle.lists.proofs.Order.{Each, each-bucket, below-tab}
use Rattle.setting.specs.Settings.{Setting}
use Rattle.rule_sheet.specs.Quads.{Quad, quad, num, all, pack, has_label, mask_of}
use Rattle.rule_sheet.specs.Flat.{corner, quad_at, quads_of, flat_quads}
use Rattle.sheet.specs.Flat.{from, to}
use Rattle.rule_sheet.specs.Edges.{join_to}
use Rattle.sheet.specs.Edges.{point_corners}
use Rattle.sheet.specs.Sheet.{masks_of}
use Rattle.rule_sheet.proofs.All.{all_append}
use Rattle.sheet.proofs.Edges.{join-ext}
use Rattle.sheet.proofs.Masks.{bit-pack}
use Rattle.sheet.proofs.Tests.{length-points}
use Rattle.sheet.proofs.Fronts.{flat-quads-snoc}
use Rattle.refine.proofs.Edges.{sorted}
use Rattle.rule_finer.specs.Smoothed.{those, label_count}
use Rattle.subdivide_points.specs.Steps.{corner_centre, flat_sheet}
use Rattle.subdivide_points.proofs.Quads.{quad_of, point-quads}
use Rattle.subdivide_points.proofs.Moved.{centre_in, map-map, map-ext, those-below, ones-count, point_is, centre-is}
use Rattle.rule_rows.specs.Rows.{key_of, is_copied, copies, number_of, is_labelled, label_centres, inward, copy_of, corner_for, copied_at, copied_quads, label_of, strip_at, row_sides}
use Rattle.projection.specs.Project.{is_onto, onto_of}
use Rattle.rows_gather.specs.Steps.{copied_by, copied_in, number_in, corner_label, seams_of, Labelled}
use Rattle.rows_copies.specs.Steps.{of_label, centres_of, inward_at, copy_at, found_at, copies_to}
use Rattle.rows_quads.specs.Steps.{corner_in, strip_in}
use Rattle.rows.proofs.Seams.{side_at, row-sides}
use Rattle.rows_gather.proofs.Lists.{seams-low}

-- ---- lists

-- a test of those that pass another
all-those : (p q : ℕ → Bool) (n : ℕ) → all p (those q n) ≡ every (λ k. not (q k) || p k) n
unfolding those join_to every
all-those p q zero = refl
all-those p q (suc n) = all_append p (those q n) (cons_if (q n) n []) ∙ rw (all-those p q n, one (q n))
  where
    yes : (b : Bool) → (b && true) ≡ b
    yes true = refl
    yes false = refl

    one : (b : Bool) → all p (cons_if b n []) ≡ (not b || p n)
    one true = yes (p n)
    one false = refl

those-ext : (p q : ℕ → Bool) (n : ℕ) → ((k : ℕ) → k < n → p k ≡ q k) → those p n ≡ those q n
unfolding those
those-ext p q n h = join-ext _ _ n (λ k l. rw (h k l))

-- quads by their corners
flat-tab : (f : ℕ → ℕ) (g : ℕ → Quad) (n : ℕ) → ((q : ℕ) → q < n → g q ≡ quad (f (4 * q + 0)) (f (4 * q + 1)) (f (4 * q + 2)) (f (4 * q + 3))) → flat_quads (tabulate g n) ≡ tabulate f (4 * n)
unfolding flat_quads tabulate
flat-tab f g zero h = refl
flat-tab f g (suc n) h =
    let e : 4 * suc n ≡ 4 * n + 4 = omega arith in
    rw (h n (omega arith), flat-quads-snoc (tabulate g n), flat-tab f g n (λ q l. h q (omega arith)), e, tab-add f (4 * n) 4)

-- ---- the copies

module _ {np nq : ℕ} {P : List Float} {Q labels : List ℕ} (L : Labelled np nq P Q labels) where
  abbrev M : List ℕ
  M = masks_of np (quads_of nq Q) (take nq labels)

  bit_is : (b : Bool) → eqb (num b) 1 ≡ b
  bit_is true = refl
  bit_is false = refl

  pub copied_is : (k : ℕ) → k < 8 * np → copied_in M k ≡ is_copied (flat_sheet np nq P Q labels) k
  unfolding copied_in copied_by is_copied label_count masks_of mask_of
  copied_is k h =
      let t = has_label (quads_of nq Q) (take nq labels) (k / 8) in
      rw (get_or-tab (λ v. pack (has_label (quads_of nq Q) (take nq labels) v)) np (k / 8) 0 (omega arith), ones-count t, bit-pack t (k % 8) (omega arith), bit_is (t (k % 8)))

  pub number_is : (k : ℕ) → k ≤ 8 * np → number_in np M k ≡ number_of (flat_sheet np nq P Q labels) k
  unfolding number_in number_of
  number_is k h = rw (length-points np P, count-ext (copied_in M) (is_copied (flat_sheet np nq P Q labels)) k (λ i l. copied_is i (omega arith)))

  -- the centres of the quads of one label, by corners
  centres-of : (l : ℕ) (xs : List ℕ) → Each 0 (λ c. c < 4 * nq) xs
      → map (corner_centre P Q) (keep (of_label labels l) xs) ≡ map (centre_in (flat_sheet np nq P Q labels)) (keep (is_labelled (flat_sheet np nq P Q labels) l) (map quad_of xs))
  unfolding corner_centre
  centres-of l [] h = refl
  centres-of l (x ∷ xs) h = rw (get_or-take nq labels (x / 4) 0 (low x (h 0 (omega arith)))) (go (of_label labels l x) (centres-of l xs (λ i b. h (suc i) (omega arith))))
    where
      low : (c : ℕ) → c < 4 * nq → c / 4 < nq
      low c b = omega arith

      go : (t : Bool) → map (corner_centre P Q) (keep (of_label labels l) xs) ≡ map (centre_in (flat_sheet np nq P Q labels)) (keep (is_labelled (flat_sheet np nq P Q labels) l) (map quad_of xs))
          → map (corner_centre P Q) (cons_if t x (keep (of_label labels l) xs)) ≡ map (centre_in (flat_sheet np nq P Q labels)) (cons_if t (x / 4) (keep (is_labelled (flat_sheet np nq P Q labels) l) (map quad_of xs)))
      go true e = rw (e, centre-is L.held.cornered P labels (x / 4) (low x (h 0 (omega arith))))
      go false e = e

  inward-is : (v l : ℕ) → v < np → inward_at nq P Q labels v l ≡ inward (flat_sheet np nq P Q labels) v l
  unfolding inward_at inward label_centres centres_of
  inward-is v l h =
      let cs = keep (of_label labels l) (point_corners Q nq v) in
      let e = centres-of l (point_corners Q nq v) (each-bucket 0 (λ c. c < 4 * nq) (from Q) v (tabulate itself (4 * nq)) (below-tab (4 * nq)).each) in
      rw (← length-map cs (corner_centre P Q), e, ← point-quads nq Q v, ← point_is L.held.cornered P labels v h)

  pub copy_is : (b : Setting) (k : ℕ) → k < 8 * np → copy_at b nq P Q labels k ≡ copy_of b (flat_sheet np nq P Q labels) k
  unfolding copy_at copy_of
  copy_is b k h = rw (inward-is (k / 8) (k % 8) (omega arith), ← point_is L.held.cornered P labels (k / 8) (omega arith))

  pub found-is : (b : Setting) → every (found_at b nq P Q labels M) (8 * np) ≡ all (λ k. is_onto (copy_of b (flat_sheet np nq P Q labels) k)) (copies (flat_sheet np nq P Q labels))
  unfolding found_at copies
  found-is b =
      every-ext _ (λ k. not (is_copied (flat_sheet np nq P Q labels) k) || is_onto (copy_of b (flat_sheet np nq P Q labels) k)) (8 * np) (λ k h. rw (copied_is k h, copy_is b k h))
      ∙ sym (rw (length-points np P) (all-those (λ k. is_onto (copy_of b (flat_sheet np nq P Q labels) k)) (is_copied (flat_sheet np nq P Q labels)) (8 * np)))

  pub copies-are : (b : Setting) → copies_to b nq P Q labels M (8 * np) ≡ map (λ k. onto_of (copy_of b (flat_sheet np nq P Q labels) k)) (copies (flat_sheet np nq P Q labels))
  unfolding copies_to copies
  copies-are b =
      rw (length-points np P, those-ext (copied_in M) (is_copied (flat_sheet np nq P Q labels)) (8 * np) copied_is)
      (map-ext 0 _ _ (those (is_copied (flat_sheet np nq P Q labels)) (8 * np)) (λ i h. ap onto_of (copy_is b _ (those-below (is_copied (flat_sheet np nq P Q labels)) (8 * np) (8 * np) (omega arith) i h))))

  -- ---- the copied quads

  key-low : (v l : ℕ) → v < np → l ≤ 7 → key_of v l < 8 * np
  key-low v l h b = omega arith

  corner-is : (q j : ℕ) → q < nq → j < 4 → corner_in np Q labels M (4 * q + j) ≡ corner_for (flat_sheet np nq P Q labels) (get_or labels q 0) (corner Q q j)
  unfolding corner_in
  corner-is q j h b =
      let d : (4 * q + j) / 4 ≡ q = omega arith in
      let k = key-low (corner Q q j) (get_or labels q 0) (L.held.cornered.points (4 * q + j) (omega arith)) (L.low q h) in
      rw (d, copied_is (key_of (corner Q q j) (get_or labels q 0)) k, number_is (key_of (corner Q q j) (get_or labels q 0)) (omega arith))

  pub copied-quads : flat_quads (copied_quads (flat_sheet np nq P Q labels)) ≡ tabulate (corner_in np Q labels M) (4 * nq)
  unfolding copied_quads quads_of
  copied-quads = rw (length-tab (quad_at Q) nq) (flat-tab (corner_in np Q labels M) (copied_at (flat_sheet np nq P Q labels)) nq (λ q h.
      rw (get_or-take nq labels q 0 h, get_or-tab (quad_at Q) nq q (quad 0 0 0 0) h, corner-is q 0 h (omega arith), corner-is q 1 h (omega arith), corner-is q 2 h (omega arith), corner-is q 3 h (omega arith))))

  pub length-copied : length (copied_quads (flat_sheet np nq P Q labels)) ≡ nq
  unfolding copied_quads quads_of
  length-copied = length-tab _ _ ∙ length-tab (quad_at Q) nq

  -- ---- the strips

  strip-is : (c : ℕ) → c < 4 * nq → strip_in np Q labels M c ≡ strip_at (flat_sheet np nq P Q labels) (side_at Q labels c)
  unfolding strip_in strip_at
  strip-is c h =
      let a = key-low (from Q c) (corner_label labels c) (L.held.cornered.points c h) (L.low (c / 4) (omega arith)) in
      let b = key-low (to Q c) (corner_label labels c) (L.held.cornered.points (c / 4 * 4 + (c + 1) % 4) (omega arith)) (L.low (c / 4) (omega arith)) in
      rw (number_is (key_of (from Q c) (corner_label labels c)) (omega arith), number_is (key_of (to Q c) (corner_label labels c)) (omega arith))

  pub strips-are : 0 < nq → map (strip_in np Q labels M) (seams_of np nq Q labels) ≡ map (strip_at (flat_sheet np nq P Q labels)) (row_sides (flat_sheet np nq P Q labels))
  unfolding seams_of
  strips-are some =
      rw (row-sides np nq P Q labels (sorted L.held.cornered).len, map-map (strip_at (flat_sheet np nq P Q labels)) (side_at Q labels) (seams_of np nq Q labels))
      (map-ext 0 _ _ (seams_of np nq Q labels) (λ i h. strip-is _ (seams-low L (4 * nq) some i h)))

  pub strip-labels : map (corner_label labels) (seams_of np nq Q labels) ≡ map label_of (row_sides (flat_sheet np nq P Q labels))
  strip-labels = rw (row-sides np nq P Q labels (sorted L.held.cornered).len) (sym (map-map label_of (side_at Q labels) (seams_of np nq Q labels)))

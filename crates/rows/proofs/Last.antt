-- The last test of `boundary_rows` finds nothing but a clash, 7: the sheet with rows of an accepted sheet has finite points, proper quads and low labels. Assumes nothing.
use Prim.Native.Nat.{ℕ, zero, suc, ◌+◌, ◌*◌, ◌/◌, ◌%◌, ◌≤◌, ◌<◌}
use mathlib.Core.Path.{◌≡◌, refl, sym, ap, ◌∙◌}
use mathlib.Core.Bool.{Bool, true, false, cond, not, ◌||◌, false≢true}
use mathlib.Core.Logic.{◌⊎◌, inl, inr, ⊎_elim}
use mathlib.Core.List.{List, [], ◌∷◌, ◌++◌, map}
use native.Mathlib.Omega.{arith}
use lib.Dec.{eqb}
use lib.ListN.{length, get_or, length-append, length-map}
use lib.Ieee.{Float}
use borrow.Author.Tests.{lt-ltb, le-leb, leb-true, eq-eqb, eqb-false}
use Rattle.lists.specs.Sort.{bucket}
use Rattle.lists.specs.Every.{count_to}
use Rattle.lists.proofs.Laws.{lt-or-le, eq-or-ne, length-tab}
use Rattle.lists.proofs.Every.{every-each, count_yes, count-mono}
use Rattle.lists.proofs.Order.{Each, each-bucket, bucket-key}
use Rattle.points.specs.declared.Point.{Point}
use Rattle.points.specs.Points.{◌⊗◌, add_p, mul_p, finite_p}
use Rattle.setting.specs.Settings.{Setting}
use Rattle.projection.specs.Project.{project_of, is_onto, onto_of}
use Rattle.projection.proofs.Finite.{onto-finite}
use Rattle.rule_sheet.specs.declared.Counts.{Counts}
use Rattle.rule_sheet.specs.Quads.{Quad, quad, all, uses, touches, has_label}
use Rattle.rule_sheet.specs.Edges.{Pair, join_to, join_of, edges_of}
use Rattle.rule_sheet.specs.Tests.{proper, low_label, good_corners, good_masks}
use Rattle.rule_sheet.specs.Sheet.{Sheet, counts_of, is_bare, quads_verdict, sheet_verdict}
use Rattle.rule_sheet.specs.Lent.{Room, is_large, is_short}
use Rattle.rule_sheet.proofs.All.{all_append, all-get, all-each, all_map, all_weaker}
use Rattle.sheet.proofs.Corners.{four-of, four-proper}
use Rattle.sheet.proofs.Tests.{Tested, tested, Whole, whole_of, bare-finite, lows-of, proper-of, all-tab}
use Rattle.rule_sheet.specs.Outcomes.{refuses, gives, after_test}
use Rattle.rule_finer.specs.Smoothed.{paired, label_count}
use Rattle.subdivide_points.proofs.Moved.{each_append}
use Rattle.rule_rows.specs.Rows.{key_of, is_copied, copies, number_of, or_else, try_from, copy_of, corner_for, copied_quad, copied_at, copied_quads, Side, side, label_of, low_of, high_of, four_sides, sides_of, edge_sides, two_labels, row_sides, strip_at, rows_sheet, rows_made, rowed}
use Rattle.numeric.specs.Num.{half}
use Rattle.rows_copies.proofs.Put.{length-rows}
use Rattle.std.specs.Prelude.{Ok, Err, Some, None, Option}
use Rattle.rule_sheet.specs.Verdicts.{Verdict, Accepted}
use Rattle.rule_sheet.specs.declared.Refusal.TheVariants.{Clash, Edge, Row, Short}
use Rattle.rule_sheet.specs.declared.Refusal.{Refusal}

-- ---- a copy that is found is finite

try-finite : (n : ℕ) (b : Setting) (p d : Point) (mask : ℕ) (step : Float) → is_onto (try_from n b p d mask step) ≡ true → finite_p (onto_of (try_from n b p d mask step)) ≡ true
unfolding try_from
try-finite zero b p d mask step = λ e. absurd (false≢true e)
try-finite (suc n) b p d mask step = go (project_of b (add_p p (mul_p d step)) mask) (onto-finite b (add_p p (mul_p d step)) mask) (try-finite n b p d mask (step ⊗ half))
  where
    later : Option Point
    later = try_from n b p d mask (step ⊗ half)

    go : (x : Option Point) → (is_onto x ≡ true → finite_p (onto_of x) ≡ true) → (is_onto later ≡ true → finite_p (onto_of later) ≡ true)
        → is_onto (or_else x later) ≡ true → finite_p (onto_of (or_else x later)) ≡ true
    go (Some q) f ih e = f e
    go None f ih e = ih e

-- ---- lists

each-join : {A : Type 0} (d : A) (P : A → Type 0) (f : ℕ → List A) (n : ℕ) → ((i : ℕ) → i < n → Each d P (f i)) → Each d P (join_to f n)
unfolding join_to
each-join d P f zero h = λ i l. absurd (omega arith)
each-join d P f (suc n) h = each_append d P (join_to f n) (f n) (each-join d P f n (λ i l. h i (omega arith))) (h n (omega arith))

each-join-of : {A B : Type 0} (d : B) (P : B → Type 0) (f : A → List B) (l : List A) → ((x : A) → Each d P (f x)) → Each d P (join_of f l)
unfolding join_of
each-join-of d P f [] h = λ i l. absurd (omega arith)
each-join-of d P f (x ∷ l) h = each_append d P (f x) (join_of f l) (h x) (each-join-of d P f l h)

-- ---- what a quad touches

-- the label of a quad touches what the quad uses
touches_at : (S : List Quad) (labels : List ℕ) (v i : ℕ) (d : Quad) → i < length S → i < length labels → 0 < uses v (get_or S i d) → 0 < touches S labels v (get_or labels i 0)
touches_at [] labels v i d h k u = absurd (omega arith)
touches_at (q ∷ S) [] v i d h k u = absurd (omega arith)
touches_at (q ∷ S) (l ∷ labels) v zero d h k u = omega (arith, ap (λ t. cond t (uses v q) 0) (eq-eqb l l refl))
touches_at (q ∷ S) (l ∷ labels) v (suc i) d h k u = omega (arith, touches_at S labels v i d (omega arith) (omega arith) u)

-- two numbers below n that pass a test
two-pass : (p : ℕ → Bool) (n i j : ℕ) → i < n → j < n → (i ≡ j → ⊥) → p i ≡ true → p j ≡ true → 1 < count_to p n
two-pass p n i j hi hj ne ei ej = ⊎_elim
    (λ (l : i < j). omega (arith, count_yes p i ei, count_yes p j ej, count-mono p (i + 1) j (omega arith), count-mono p (j + 1) n (omega arith)))
    (λ (l : j ≤ i). omega (arith, count_yes p i ei, count_yes p j ej, count-mono p (j + 1) i (omega arith), count-mono p (i + 1) n (omega arith)))
    (lt-or-le i j)

-- the side that stands for one out of range
abbrev none : Side
none = side 0 0 0

module _ (s : Sheet) where
  abbrev n : ℕ
  n = length s.points

  abbrev S : List Quad
  S = s.quads

  abbrev labels : List ℕ
  labels = s.labels

  -- ---- the numbers of the copies

  -- how many points and copies there are
  abbrev m : ℕ
  m = number_of s (8 * n)

  number-high : (k : ℕ) → n ≤ number_of s k
  unfolding number_of
  number-high k = omega arith

  number-low : (k : ℕ) → is_copied s k ≡ true → k < 8 * n → number_of s k < m
  unfolding number_of
  number-low k e h = omega (arith, count_yes (is_copied s) k e, count-mono (is_copied s) (k + 1) (8 * n) (omega arith))

  number-apart : (j k : ℕ) → is_copied s j ≡ true → is_copied s k ≡ true → (j ≡ k → ⊥) → number_of s j ≡ number_of s k → ⊥
  unfolding number_of
  number-apart j k ej ek ne e = ⊎_elim
      (λ (l : j < k). omega (arith, count_yes (is_copied s) j ej, count-mono (is_copied s) (j + 1) k (omega arith)))
      (λ (l : k ≤ j). omega (arith, count_yes (is_copied s) k ek, count-mono (is_copied s) (k + 1) j (omega arith)))
      (lt-or-le j k)

  copied-key : (v l : ℕ) → l ≤ 7 → 1 < label_count s v → 0 < touches S labels v l → is_copied s (key_of v l) ≡ true
  unfolding is_copied
  copied-key v l h c t =
      let p : (8 * v + l) / 8 ≡ v = omega arith in
      let q : (8 * v + l) % 8 ≡ l = omega arith in
      rw (p, q, lt-ltb 1 (label_count s v) c, lt-ltb 0 (touches S labels v l) t)

  -- ---- the copied quads

  corner-low : (l v : ℕ) → l ≤ 7 → v < n → corner_for s l v < m
  corner-low l v h k = go (is_copied s (key_of v l)) refl
    where
      go : (t : Bool) → is_copied s (key_of v l) ≡ t → cond t (number_of s (key_of v l)) v < m
      go true e = number-low (key_of v l) e (omega arith)
      go false e = omega (arith, number-high (8 * n))

  corner-apart : (l u v : ℕ) → u < n → v < n → (u ≡ v → ⊥) → corner_for s l u ≡ corner_for s l v → ⊥
  corner-apart l u v hu hv ne = go (is_copied s (key_of u l)) refl (is_copied s (key_of v l)) refl
    where
      go : (t : Bool) → is_copied s (key_of u l) ≡ t → (w : Bool) → is_copied s (key_of v l) ≡ w → cond t (number_of s (key_of u l)) u ≡ cond w (number_of s (key_of v l)) v → ⊥
      go true et true ew e = number-apart (key_of u l) (key_of v l) et ew (λ z. ne (omega arith)) e
      go true et false ew e = omega (arith, number-high (key_of u l))
      go false et true ew e = omega (arith, number-high (key_of v l))
      go false et false ew e = ne e

  copied-proper : (l : ℕ) (q : Quad) → l ≤ 7 → proper n q ≡ true → proper m (copied_quad s l q) ≡ true
  copied-proper l (quad a b c d) h e =
      let F = four-of n a b c d e in
      four-proper m _ _ _ _ (record {
        a< = corner-low l a h F.a<;
        b< = corner-low l b h F.b<;
        c< = corner-low l c h F.c<;
        d< = corner-low l d h F.d<;
        ab = corner-apart l a b F.a< F.b< F.ab;
        ac = corner-apart l a c F.a< F.c< F.ac;
        ad = corner-apart l a d F.a< F.d< F.ad;
        bc = corner-apart l b c F.b< F.c< F.bc;
        bd = corner-apart l b d F.b< F.d< F.bd;
        cd = corner-apart l c d F.c< F.d< F.cd;
      })

  -- ---- the sides

  -- a side of a quad of the sheet
  record OfQuad (x : Side) : Type 0 where
    start< : x.start < n
    end< : x.end < n
    apart : x.start ≡ x.end → ⊥
    low : x.label ≤ 7
    at_start : 0 < touches S labels x.start x.label
    at_end : 0 < touches S labels x.end x.label

  -- a side along which a strip runs: both its ends have copies
  record OfRow (x : Side) : Type 0 where
    of_quad : OfQuad x
    copied_start : is_copied s (key_of x.start x.label) ≡ true
    copied_end : is_copied s (key_of x.end x.label) ≡ true

  four-sides : (l : ℕ) (q : Quad) → l ≤ 7 → proper n q ≡ true → ((v : ℕ) → 0 < uses v q → 0 < touches S labels v l) → Each none OfQuad (four_sides l q)
  four-sides l (quad a b c d) h e t =
      let F = four-of n a b c d e in
      let A = t a (omega (arith, one a)) in
      let B = t b (omega (arith, one b)) in
      let C = t c (omega (arith, one c)) in
      let D = t d (omega (arith, one d)) in
      go (from a b F.a< F.b< F.ab A B) (from b c F.b< F.c< F.bc B C) (from c d F.c< F.d< F.cd C D) (from d a F.d< F.a< (λ z. F.ad (sym z)) D A)
    where
      one : (v : ℕ) → cond {A = ℕ} (eqb v v) 1 0 ≡ 1
      one v = rw (eq-eqb v v refl)

      from : (u v : ℕ) → u < n → v < n → (u ≡ v → ⊥) → 0 < touches S labels u l → 0 < touches S labels v l → OfQuad (side u v l)
      from u v hu hv ne p q = record { start< = hu; end< = hv; apart = ne; low = h; at_start = p; at_end = q }

      go : OfQuad (side a b l) → OfQuad (side b c l) → OfQuad (side c d l) → OfQuad (side d a l) → Each none OfQuad (four_sides l (quad a b c d))
      go A B C D zero k = A
      go A B C D (suc zero) k = B
      go A B C D (suc (suc zero)) k = C
      go A B C D (suc (suc (suc zero))) k = D
      go A B C D (suc (suc (suc (suc i)))) k = absurd (omega arith)

  -- two sides of one edge with different labels: both ends of each touch both labels
  row-side : (x y : Side) → OfQuad x → OfQuad y → low_of x ≡ low_of y → high_of x ≡ high_of y → (x.label ≡ y.label → ⊥) → OfRow x
  unfolding label_count
  row-side x y X Y lo hi ne = record {
    of_quad = X;
    copied_start = copied-key x.start x.label X.low (both x.start X.at_start start-meets) X.at_start;
    copied_end = copied-key x.end x.label X.low (both x.end X.at_end end-meets) X.at_end;
  }
    where
      meets : (v : ℕ) → (v ≡ y.start) ⊎ (v ≡ y.end) → 0 < touches S labels v y.label
      meets v (inl e) = rw e Y.at_start
      meets v (inr e) = rw e Y.at_end

      start-meets : (x.start ≡ y.start) ⊎ (x.start ≡ y.end)
      start-meets = ⊎_elim (λ (e : x.start ≡ y.start). inl e) (λ (d : x.start ≡ y.start → ⊥). inr (omega (arith, lo, hi))) (eq-or-ne x.start y.start)

      end-meets : (x.end ≡ y.start) ⊎ (x.end ≡ y.end)
      end-meets = ⊎_elim (λ (e : x.end ≡ y.start). inl e) (λ (d : x.end ≡ y.start → ⊥). inr (omega (arith, lo, hi))) (eq-or-ne x.end y.start)

      both : (v : ℕ) → 0 < touches S labels v x.label → (v ≡ y.start) ⊎ (v ≡ y.end) → 1 < label_count s v
      both v p q = two-pass (has_label S labels v) 8 x.label y.label (omega (arith, X.low)) (omega (arith, Y.low)) ne (lt-ltb 0 _ p) (lt-ltb 0 _ (meets v q))

  strip-proper : (x : Side) → OfRow x → proper m (strip_at s x) ≡ true
  unfolding strip_at
  strip-proper x R =
      let X = R.of_quad in
      let u = x.start in
      let v = x.end in
      let l = x.label in
      four-proper m u v (number_of s (key_of v l)) (number_of s (key_of u l)) (record {
        a< = omega (arith, X.start<, number-high (8 * n));
        b< = omega (arith, X.end<, number-high (8 * n));
        c< = number-low (key_of v l) R.copied_end (omega (arith, X.end<, X.low));
        d< = number-low (key_of u l) R.copied_start (omega (arith, X.start<, X.low));
        ab = X.apart;
        ac = λ e. omega (arith, X.start<, number-high (key_of v l));
        ad = λ e. omega (arith, X.start<, number-high (key_of u l));
        bc = λ e. omega (arith, X.end<, number-high (key_of v l));
        bd = λ e. omega (arith, X.end<, number-high (key_of u l));
        cd = number-apart (key_of v l) (key_of u l) R.copied_end R.copied_start (λ e. X.apart (omega arith));
      })

  -- a side of the edge e
  abbrev OfEdge : Pair → Side → Type 0
  OfEdge e x = OfQuad x × (low_of x ≡ e.low) × (high_of x ≡ e.high)

  two-rows : (e : Pair) (l : List Side) → Each none (OfEdge e) l → Each none OfRow (two_labels l)
  two-rows e [] h = λ i k. absurd (omega arith)
  two-rows e (x ∷ []) h = λ i k. absurd (omega arith)
  two-rows e (x ∷ y ∷ []) h = go (eqb x.label y.label) refl (h 0 (omega arith)) (h 1 (omega arith))
    where
      go : (t : Bool) → eqb x.label y.label ≡ t → OfEdge e x → OfEdge e y → Each none OfRow (cond t [] (x ∷ y ∷ []))
      go true q X Y i k = absurd (omega arith)
      go false q X Y zero k = row-side x y X.0 Y.0 (X.1 ∙ sym Y.1) (X.2 ∙ sym Y.2) (eqb-false x.label y.label q)
      go false q X Y (suc zero) k = row-side y x Y.0 X.0 (Y.1 ∙ sym X.1) (Y.2 ∙ sym X.2) (λ z. eqb-false x.label y.label q (sym z))
      go false q X Y (suc (suc i)) k = absurd (omega arith)
  two-rows e (x ∷ y ∷ z ∷ l) h = λ i k. absurd (omega arith)

  -- ---- all quads and labels

  module _ (same : length labels ≡ length S) (low : all low_label labels ≡ true) (good : all (proper n) S ≡ true) where
    label-low : (i : ℕ) → i < length S → get_or labels i 0 ≤ 7
    label-low i h = leb-true _ 7 (all-get low_label labels i 0 low (omega arith))

    quad-proper : (i : ℕ) → i < length S → proper n (get_or S i (quad 0 0 0 0)) ≡ true
    quad-proper i h = all-get (proper n) S i (quad 0 0 0 0) good h

    all-copied : all (proper m) (copied_quads s) ≡ true
    unfolding copied_quads
    all-copied =
        all-tab (proper m) (copied_at s) (length S)
        ∙ every-each _ (length S) (λ i h. copied-proper (get_or labels i 0) (get_or S i (quad 0 0 0 0)) (label-low i h) (quad-proper i h))

    of-quads : Each none OfQuad (sides_of s)
    unfolding sides_of
    of-quads = each-join none OfQuad (λ i. four_sides (get_or labels i 0) (get_or S i (quad 0 0 0 0))) (length S) (λ i h.
        four-sides (get_or labels i 0) (get_or S i (quad 0 0 0 0)) (label-low i h) (quad-proper i h) (λ v u. touches_at S labels v i (quad 0 0 0 0) h (omega arith) u))

    of-edge : (e : Pair) → Each none (OfEdge e) (edge_sides s e)
    unfolding edge_sides
    of-edge e i h =
        let l = bucket low_of e.low (sides_of s) in (
          each-bucket none OfQuad high_of e.high l (each-bucket none OfQuad low_of e.low (sides_of s) of-quads) i h,
          each-bucket none (λ x. low_of x ≡ e.low) high_of e.high l (bucket-key low_of none e.low (sides_of s)) i h,
          bucket-key high_of none e.high l i h,
        )

    of-rows : Each none OfRow (row_sides s)
    unfolding row_sides
    of-rows = each-join-of none OfRow (λ e. two_labels (edge_sides s e)) (edges_of n S) (λ e. two-rows e (edge_sides s e) (of-edge e))

    all-strips : all (proper m) (map (strip_at s) (row_sides s)) ≡ true
    all-strips = all_map (proper m) (strip_at s) (row_sides s) ∙ all-each (λ x. proper m (strip_at s x)) none (row_sides s) (λ i h. strip-proper _ (of-rows i h))

    all-labels : all low_label (map label_of (row_sides s)) ≡ true
    all-labels = all_map low_label label_of (row_sides s) ∙ all-each (λ x. low_label (label_of x)) none (row_sides s) (λ i h. le-leb _ 7 (of-rows i h).of_quad.low)

    corners-good : good_corners m (copied_quads s ++ map (strip_at s) (row_sides s)) (labels ++ map label_of (row_sides s)) ≡ true
    unfolding good_corners
    corners-good = rw (all_append low_label labels (map label_of (row_sides s)), low, all-labels, all_append (proper m) (copied_quads s) (map (strip_at s) (row_sides s)), all-copied, all-strips)

-- ---- the sheet with rows

copy-finite : (b : Setting) (s : Sheet) (k : ℕ) → is_onto (copy_of b s k) ≡ true → finite_p (onto_of (copy_of b s k)) ≡ true
unfolding copy_of
copy-finite b s k e = try-finite _ b _ _ _ _ e

module _ (b : Setting) (s : Sheet) (T : Tested s) (found : all (λ k. is_onto (copy_of b s k)) (copies s) ≡ true) where
  abbrev t : Sheet
  t = rows_sheet b s

  whole : Whole s
  whole = whole_of s T.not_bare

  rows-finite : all finite_p t.points ≡ true
  unfolding rows_sheet
  rows-finite =
      all_append finite_p s.points (map (λ k. onto_of (copy_of b s k)) (copies s))
      ∙ rw (whole.finite, all_map finite_p (λ k. onto_of (copy_of b s k)) (copies s), all_weaker (λ k. is_onto (copy_of b s k)) (λ k. finite_p (onto_of (copy_of b s k))) (copies s) (copy-finite b s) found)

  rows-labelled : length t.labels ≡ length t.quads
  unfolding rows_sheet copied_quads
  rows-labelled = omega (
    arith,
    whole.labelled,
    length-append s.labels (map label_of (row_sides s)),
    length-map (row_sides s) label_of,
    length-append (copied_quads s) (map (strip_at s) (row_sides s)),
    length-tab (copied_at s) (length s.quads),
    length-map (row_sides s) (strip_at s),
  )

  rows-quads : 0 < length t.quads
  unfolding rows_sheet
  rows-quads = omega (arith, whole.some_quads, whole.labelled, rows-labelled, length-append s.labels (map label_of (row_sides s)))

  rows-bare : is_bare t ≡ false
  rows-bare = bare-finite t (omega (arith, whole.some_points, length-rows b s, number-high s (8 * length s.points))) rows-quads rows-labelled ∙ ap not rows-finite

  rows-corners : good_corners (length t.points) t.quads t.labels ≡ true
  unfolding rows_sheet
  rows-corners =
      let n = length s.points in
      ap (λ k. good_corners k t.quads t.labels) (length-rows b s)
      ∙ corners-good s whole.labelled (lows-of n s.quads s.labels T.corners) (proper-of n s.quads s.labels T.corners)

  -- of the tests only that of the masks is left
  rows-verdict : sheet_verdict t ≡ cond (good_masks (length t.points) t.quads t.labels) Accepted (Err Clash)
  unfolding sheet_verdict quads_verdict
  rows-verdict = rw (rows-bare, rows-corners)

-- "boundary_rows 10, 8, 7": where all copies of an accepted sheet are found, the last test finds nothing or 7
pub last-test : (b : Setting) (s : Sheet) → sheet_verdict s ≡ Accepted → all (λ k. is_onto (copy_of b s k)) (copies s) ≡ true
    → (sheet_verdict (rows_sheet b s) ≡ Accepted) ⊎ (sheet_verdict (rows_sheet b s) ≡ Err Clash)
last-test b s e f = go (good_masks (length (rows_sheet b s).points) (rows_sheet b s).quads (rows_sheet b s).labels) (rows-verdict b s (tested s e) f)
  where
    go : (g : Bool) → sheet_verdict (rows_sheet b s) ≡ cond g Accepted (Err Clash) → (sheet_verdict (rows_sheet b s) ≡ Accepted) ⊎ (sheet_verdict (rows_sheet b s) ≡ Err Clash)
    go true h = inl h
    go false h = inr h

-- so after the tests of the lent sheet `boundary_rows` refuses with 13, 10, 8 or 7 only
pub numbers-left : (b : Setting) (s : Sheet) (room : Room) (n : Refusal) → sheet_verdict s ≡ Accepted → rowed b s room ≡ refuses n → (n ≡ Short) ⊎ ((n ≡ Row) ⊎ ((n ≡ Edge) ⊎ (n ≡ Clash)))
unfolding rowed rows_made
numbers-left b s room n e = go (is_large c || is_short c room) (all (λ k. is_onto (copy_of b s k)) (copies s)) refl (paired (length s.points) s.quads) (sheet_verdict t) refl
  where
    t : Sheet
    t = rows_sheet b s

    c : Counts
    c = counts_of (rows_sheet b s)

    go : (over found : Bool) → all (λ k. is_onto (copy_of b s k)) (copies s) ≡ found → (pairs : Bool) (v : Verdict) → sheet_verdict t ≡ v
        → cond over (refuses Short) (cond found (cond pairs (after_test v (gives t)) (refuses Edge)) (refuses Row)) ≡ refuses n
        → (n ≡ Short) ⊎ ((n ≡ Row) ⊎ ((n ≡ Edge) ⊎ (n ≡ Clash)))
    go true found f pairs v h x = inl (cc)
    go false false f pairs v h x = inr (inl (cc))
    go false true f false v h x = inr (inr (inl (cc)))
    go false true f true (Ok u) h x = absurd (let z : ◌≡◌ {A = ℕ} 0 1 = cc in omega arith)
    go false true f true (Err k) h x = inr (inr (inr (last (last-test b s e f))))
      where
        last : (sheet_verdict t ≡ Accepted) ⊎ (sheet_verdict t ≡ Err Clash) → n ≡ Clash
        last (inl a) = absurd (let z : ◌≡◌ {A = ℕ} 0 1 = cc in omega arith)
        last (inr a) = let r : Err k ≡ Err Clash = sym h ∙ a in let i : refuses k ≡ refuses n = x in cc

-- The corners at which strips run, found place by place in the order of the edges, are the sides that the rule takes edge by edge. Assumes nothing.
use Prim.Native.Nat.{ℕ, zero, suc, ◌+◌, ◌*◌, ◌/◌, ◌%◌, ◌≤◌, ◌<◌}
use mathlib.Core.Path.{◌≡◌, refl, sym, ap, ◌∙◌}
use mathlib.Core.Bool.{Bool, true, false, cond, not, ◌&&◌, true≢false, false≢true}
use mathlib.Core.Logic.{⊎_elim}
use mathlib.Core.List.{List, [], ◌∷◌, ◌++◌, map, map-append, append-nil, append_assoc}
use native.Mathlib.Omega.{arith}
use native.Mathlib.Numerals.{add-one}
use lib.Dec.{eqb, ltb, leb}
use lib.ListN.{length, get_or}
use lib.Seq.{get_or-take}
use lib.Ieee.{Float}
use borrow.Author.Tests.{ne_eqb, lt-ltb, ltb-false, leb-true, le-leb}
use Rattle.lists.specs.Sort.{tabulate, itself, cons_if, bucket}
use Rattle.lists.specs.Steps.{start}
use Rattle.lists.proofs.Laws.{lt-or-le, start-suc, start-zero, get_or-tab, length-tab, tab-add}
use Rattle.rule_sheet.specs.Quads.{quad, is_edge}
use Rattle.sheet.specs.Flat.{from, to}
use Rattle.rule_sheet.specs.Flat.{quad_at, quads_of}
use Rattle.rule_sheet.specs.Edges.{Pair, pair, join_to, join_of, edge_if, edges_from, edges_of}
use Rattle.sheet.specs.Edges.{smaller, larger, all_corners, edge_corners}
use Rattle.sheet.proofs.Edges.{join-to, join-ext, edge-corners, edge-flat}
use Rattle.sheet.proofs.Tests.{length-points}
use Rattle.incidence.specs.Corners.{edge_order}
use Rattle.edges.proofs.Blocks.{block, by_larger, off, off-suc, row-length, at_off, key-smaller, key-larger}
use Rattle.edges.proofs.EdgeKinds.{kind_of, kind-first, kind-later}
use Rattle.subdivide_points.specs.Steps.{flat_sheet}
use Rattle.rule_rows.specs.Rows.{Side, side, low_of, high_of, four_sides, sides_of, edge_sides, two_labels, row_sides}
use Rattle.rows_gather.specs.Steps.{corner_label, seam_at, seam_corners, seams_to, seams_of}
use Rattle.edges.specs.declared.EdgeKind.TheVariants.{Opposite, Turned}
use Rattle.edges.specs.Steps.{is_two, pair_at}

-- ---- joins

join-add : {A : Type 0} (f : ℕ → List A) (m n : ℕ) → join_to f (m + n) ≡ join_to f m ++ join_to (λ t. f (m + t)) n
unfolding join_to
join-add f m zero = let e : m + 0 ≡ m = omega arith in rw (e, append-nil)
join-add f m (suc n) =
    let e : m + suc n ≡ suc (m + n) = omega arith in
    rw (e, join-add f m n) (append_assoc (join_to f m) (join_to (λ t. f (m + t)) n) (f (m + n)))

-- only the first list counts
join_first : {A : Type 0} (f : ℕ → List A) (m : ℕ) → ((t : ℕ) → suc t < suc m → f (suc t) ≡ []) → join_to f (suc m) ≡ f 0
unfolding join_to
join_first f zero h = refl
join_first f (suc m) h = rw (join_first f m (λ t l. h t (omega arith)), h m (omega arith), append-nil)

join-map : {A B D : Type 0} (g : B → D) (f : A → List B) (l : List A) → join_of (λ x. map g (f x)) l ≡ map g (join_of f l)
unfolding join_of
join-map g f [] = refl
join-map g f (x ∷ l) = rw (join-map g f l) (sym (map-append g (f x) (join_of f l)))

-- ---- joins over all places, block by block

module _ (np nq : ℕ) (Q : List ℕ) {A : Type 0} (T : ℕ → List A) (F : ℕ → ℕ → List A)
    (each : (a b : ℕ) → a < np → b < np → join_to (λ t. T (off np nq Q a b + t)) (length (block nq Q a b)) ≡ F a b) where
  row-join : (a b : ℕ) → a < np → b ≤ np → join_to T (off np nq Q a b) ≡ join_to T (off np nq Q a 0) ++ join_to (F a) b
  unfolding join_to
  row-join a zero ha hb = sym (append-nil (join_to T (off np nq Q a 0)))
  row-join a (suc b) ha hb =
      rw (off-suc np nq Q a b, join-add T (off np nq Q a b) (length (block nq Q a b)), row-join a b ha (omega arith), each a b ha (omega arith))
      (append_assoc (join_to T (off np nq Q a 0)) (join_to (F a) b) (F a b))

  rows_join : (a : ℕ) → a ≤ np → join_to T (start (smaller Q) (by_larger np nq Q) a) ≡ join_to (λ x. join_to (F x) np) a
  unfolding join_to
  rows_join zero h = rw (start-zero (smaller Q) (by_larger np nq Q))
  rows_join (suc a) h =
      let z = start-zero (larger Q) (bucket (smaller Q) a (all_corners nq)) in
      let o : off np nq Q a 0 ≡ start (smaller Q) (by_larger np nq Q) a = omega arith in
      let e : start (smaller Q) (by_larger np nq Q) (suc a) ≡ off np nq Q a np = rw (← add-one a) (start-suc (smaller Q) (by_larger np nq Q) a ∙ omega (arith, row-length np nq Q a)) in
      rw (e, row-join a np (omega arith) (omega arith), o, rows_join a (omega arith))

  places-join : join_to T (length (edge_order np nq Q)) ≡ join_to (λ a. join_to (F a) np) np
  unfolding edge_order
  places-join = rows_join np (omega arith)

-- ---- the corners of one edge

-- both of two corners, if the labels of their quads differ
abbrev pub two_corners : List ℕ → List ℕ → List ℕ
two_corners labels [] = []
two_corners labels (c ∷ []) = []
two_corners labels (c ∷ d ∷ []) = cond (eqb (corner_label labels c) (corner_label labels d)) [] (c ∷ d ∷ [])
two_corners labels (c ∷ d ∷ x ∷ l) = []

two-kinds : (b : Bool) → is_two (cond b Turned Opposite) ≡ true
two-kinds true = refl
two-kinds false = refl

cond-not : {A : Type 0} (b : Bool) (x y : A) → cond (not b) x y ≡ cond b y x
cond-not true x y = refl
cond-not false x y = refl

-- what the first place of an edge with the corners B gives
first-place : (Q labels : List ℕ) (B : List ℕ) → 0 < length B
    → cond (is_two (kind_of Q B) && not (eqb (corner_label labels (get_or B 0 0)) (corner_label labels (get_or B 1 0)))) (get_or B 0 0 ∷ get_or B 1 0 ∷ []) [] ≡ two_corners labels B
first-place Q labels [] h = absurd (omega arith)
first-place Q labels (c ∷ []) h = refl
first-place Q labels (c ∷ d ∷ []) h = rw (two-kinds (eqb (from Q c) (from Q d))) (cond-not (eqb (corner_label labels c) (corner_label labels d)) (c ∷ d ∷ []) [])
first-place Q labels (c ∷ d ∷ x ∷ l) h = rw (ne_eqb (length (c ∷ d ∷ x ∷ l)) 0 (λ e. omega arith), lt-ltb 1 (suc (suc (suc (length l)))) (omega arith), lt-ltb 2 (suc (suc (suc (length l)))) (omega arith))

module _ (np nq : ℕ) (Q labels : List ℕ) where
  abbrev E : List ℕ
  E = edge_order np nq Q

  module _ (a b : ℕ) (ha : a < np) (hb : b < np) where
    abbrev B : List ℕ
    B = block nq Q a b

    later : (t : ℕ) → suc t < length B → seam_corners Q labels (length E) E (off np nq Q a b + suc t) ≡ []
    unfolding seam_corners seam_at pair_at
    later t h = rw (kind-later np nq Q a b ha hb t h)

    -- only an edge of two corners reads the second
    second : (d : ℕ) (k : Bool) → (k ≡ true → get_or E (off np nq Q a b + 1) 0 ≡ d) → (c : ℕ)
        → cond (k && not (eqb (corner_label labels c) (corner_label labels (get_or E (off np nq Q a b + 1) 0)))) (c ∷ get_or E (off np nq Q a b + 1) 0 ∷ []) []
        ≡ cond (k && not (eqb (corner_label labels c) (corner_label labels d))) (c ∷ d ∷ []) []
    second d true h c = rw (h refl)
    second d false h c = refl

    two-long : (B : List ℕ) → is_two (kind_of Q B) ≡ true → 1 < length B
    two-long [] e = absurd (false≢true e)
    two-long (c ∷ []) e = absurd (false≢true e)
    two-long (c ∷ d ∷ l) e = omega arith

    first : 0 < length B → seam_corners Q labels (length E) E (off np nq Q a b + 0) ≡ two_corners labels B
    unfolding seam_corners seam_at pair_at
    first pos =
        let z : off np nq Q a b + 0 ≡ off np nq Q a b = omega arith in
        let c : get_or E (off np nq Q a b) 0 ≡ get_or B 0 0 = ap (λ (i : ℕ). get_or E i 0) (sym z) ∙ at_off np nq Q a b 0 ha hb pos in
        rw (z, kind-first np nq Q a b ha hb pos, c)
        (second (get_or B 1 0) (is_two (kind_of Q B)) (λ e. at_off np nq Q a b 1 ha hb (two-long B e)) (get_or B 0 0) ∙ first-place Q labels B pos)

    block-join : join_to (λ t. seam_corners Q labels (length E) E (off np nq Q a b + t)) (length B) ≡ two_corners labels B
    unfolding join_to
    block-join = go (length B) refl
      where
        none : (l : List ℕ) → length l ≡ 0 → [] ≡ two_corners labels l
        none [] e = refl
        none (x ∷ l) e = absurd (omega arith)

        go : (m : ℕ) → length B ≡ m → join_to (λ t. seam_corners Q labels (length E) E (off np nq Q a b + t)) (length B) ≡ two_corners labels B
        go zero e = rw e (none B e)
        go (suc m) e = rw e (join_first (λ t. seam_corners Q labels (length E) E (off np nq Q a b + t)) m (λ t h. later t (omega arith)) ∙ first (omega arith))

  -- ---- edge by edge

  nothing : (l : List ℕ) → length l ≤ 0 → l ≡ []
  nothing [] h = refl
  nothing (x ∷ l) h = absurd (omega arith)

  rises : (a b : ℕ) → 0 < length (block nq Q a b) → a ≤ b
  unfolding smaller larger
  rises a b h = omega (arith, key-smaller np nq Q a b 0 h, key-larger np nq Q a b 0 h)

  at_pair : (a b : ℕ) → join_of (λ e. two_corners labels (edge_corners Q nq e)) (edge_if (quads_of nq Q) a b) ≡ two_corners labels (block nq Q a b)
  unfolding join_of
  at_pair a b = go (leb a b) refl (is_edge (quads_of nq Q) a b) refl
    where
      go : (s : Bool) → leb a b ≡ s → (t : Bool) → is_edge (quads_of nq Q) a b ≡ t → join_of (λ e. two_corners labels (edge_corners Q nq e)) (cons_if (s && t) (pair a b) []) ≡ two_corners labels (block nq Q a b)
      go true es true et = append-nil _ ∙ ap (two_corners labels) (edge-corners Q nq a b (leb-true a b es))
      go true es false et =
          let h = leb-true a b es in
          ap (two_corners labels) (sym (nothing (block nq Q a b) (ltb-false 0 _ (ap (λ (l : List ℕ). ltb 0 (length l)) (sym (edge-corners Q nq a b h)) ∙ sym (edge-flat Q nq a b h) ∙ et))))
      go false es t et = ap (two_corners labels) (sym (⊎_elim
          (λ (h : 0 < length (block nq Q a b)). absurd (true≢false (sym (le-leb a b (rises a b h)) ∙ es)))
          (λ (h : length (block nq Q a b) ≤ 0). nothing (block nq Q a b) h)
          (lt-or-le 0 (length (block nq Q a b)))))

  pub seams-edges : length E ≡ 4 * nq → seams_of np nq Q labels ≡ join_of (λ e. two_corners labels (edge_corners Q nq e)) (edges_of np (quads_of nq Q))
  unfolding seams_of seams_to edges_of
  seams-edges e =
      ap (λ (n : ℕ). join_to (seam_corners Q labels n E) n) (sym e)
      ∙ places-join np nq Q (seam_corners Q labels (length E) E) (λ a b. two_corners labels (block nq Q a b)) (λ a b ha hb. block-join a b ha hb)
      ∙ sym (
      join-to (λ e. two_corners labels (edge_corners Q nq e)) (edges_from np (quads_of nq Q)) np
      ∙ join-ext _ _ np (λ a _. join-to (λ e. two_corners labels (edge_corners Q nq e)) (edge_if (quads_of nq Q) a) np ∙ join-ext _ _ np (λ b _. at_pair a b))
      )

-- ---- sides and corners

-- the side at corner c
abbrev pub side_at : List ℕ → List ℕ → ℕ → Side
side_at Q labels c = side (from Q c) (to Q c) (corner_label labels c)

bucket-map : {A : Type 0} (f : ℕ → A) (key : A → ℕ) (k : ℕ) (l : List ℕ) → bucket key k (map f l) ≡ map f (bucket (λ x. key (f x)) k l)
unfolding bucket
bucket-map f key k [] = refl
bucket-map f key k (x ∷ l) = go (eqb (key (f x)) k) (bucket-map f key k l)
  where
    go : (b : Bool) → bucket key k (map f l) ≡ map f (bucket (λ x. key (f x)) k l) → cons_if b (f x) (bucket key k (map f l)) ≡ map f (cons_if b x (bucket (λ x. key (f x)) k l))
    go true e = rw e
    go false e = e

two-map : (Q labels : List ℕ) (l : List ℕ) → two_labels (map (side_at Q labels) l) ≡ map (side_at Q labels) (two_corners labels l)
two-map Q labels [] = refl
two-map Q labels (c ∷ []) = refl
two-map Q labels (c ∷ d ∷ []) = go (eqb (corner_label labels c) (corner_label labels d))
  where
    go : (b : Bool) → cond b [] (side_at Q labels c ∷ side_at Q labels d ∷ []) ≡ map (side_at Q labels) (cond b [] (c ∷ d ∷ []))
    go true = refl
    go false = refl
two-map Q labels (c ∷ d ∷ x ∷ l) = refl

module _ (Q labels : List ℕ) where
  four-sides : (q : ℕ) → four_sides (get_or labels q 0) (quad_at Q q) ≡ map (side_at Q labels) (tabulate (λ i. 4 * q + i) 4)
  unfolding tabulate
  four-sides q =
      let a : 4 * q + 0 ≡ 4 * q = omega arith in
      let d : (4 * q) / 4 ≡ q = omega arith in
      let d1 : (4 * q + 1) / 4 ≡ q = omega arith in
      let d2 : (4 * q + 2) / 4 ≡ q = omega arith in
      let d3 : (4 * q + 3) / 4 ≡ q = omega arith in
      let m : (4 * q + 1) % 4 ≡ 1 = omega arith in
      let m1 : (4 * q + 1 + 1) % 4 ≡ 2 = omega arith in
      let m2 : (4 * q + 2 + 1) % 4 ≡ 3 = omega arith in
      let m3 : (4 * q + 3 + 1) % 4 ≡ 0 = omega arith in
      let x : q * 4 ≡ 4 * q = omega arith in
      simp (a, d, d1, d2, d3, m, m1, m2, m3, x)

  sides-flat : (n : ℕ) → join_to (λ i. four_sides (get_or labels i 0) (quad_at Q i)) n ≡ map (side_at Q labels) (all_corners n)
  unfolding join_to tabulate
  sides-flat zero = refl
  sides-flat (suc n) =
      let e : 4 * suc n ≡ 4 * n + 4 = omega arith in
      rw (sides-flat n, four-sides n, e, tab-add itself (4 * n) 4) (sym (map-append (side_at Q labels) (tabulate itself (4 * n)) (tabulate (λ i. itself (4 * n + i)) 4)))

module _ (np nq : ℕ) (P : List Float) (Q labels : List ℕ) where
  sides-are : sides_of (flat_sheet np nq P Q labels) ≡ map (side_at Q labels) (all_corners nq)
  unfolding sides_of quads_of
  sides-are =
      rw (length-tab (quad_at Q) nq)
      (join-ext _ (λ i. four_sides (get_or labels i 0) (quad_at Q i)) nq (λ i h. rw (get_or-take nq labels i 0 h, get_or-tab (quad_at Q) nq i (quad 0 0 0 0) h)) ∙ sides-flat Q labels nq)

  edge-sides : (e : Pair) → edge_sides (flat_sheet np nq P Q labels) e ≡ map (side_at Q labels) (edge_corners Q nq e)
  unfolding edge_sides smaller larger
  edge-sides e =
      rw (sides-are, bucket-map (side_at Q labels) low_of e.low (all_corners nq))
      (bucket-map (side_at Q labels) high_of e.high (bucket (smaller Q) e.low (all_corners nq)))

  join-of-ext : {A B : Type 0} (f g : A → List B) (l : List A) → ((x : A) → f x ≡ g x) → join_of f l ≡ join_of g l
  unfolding join_of
  join-of-ext f g [] h = refl
  join-of-ext f g (x ∷ l) h = rw (h x, join-of-ext f g l h)

  -- the sides along which strips run are those at the corners found
  pub row-sides : length (edge_order np nq Q) ≡ 4 * nq → row_sides (flat_sheet np nq P Q labels) ≡ map (side_at Q labels) (seams_of np nq Q labels)
  unfolding row_sides
  row-sides e =
      rw (length-points np P)
      (join-of-ext _ (λ x. map (side_at Q labels) (two_corners labels (edge_corners Q nq x))) (edges_of np (quads_of nq Q)) (λ x. ap two_labels (edge-sides x) ∙ two-map Q labels (edge_corners Q nq x))
      ∙ join-map (side_at Q labels) (λ x. two_corners labels (edge_corners Q nq x)) (edges_of np (quads_of nq Q))
      ∙ ap (map (side_at Q labels)) (sym (seams-edges np nq Q labels e)))
